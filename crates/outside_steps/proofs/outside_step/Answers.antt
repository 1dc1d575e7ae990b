-- `outside_step` meets its contract.
use Rattle.outside_steps.proofs.Skipping.{skipped_end, skipped_given}
use native.Mathlib.Omega.{arith}
use Rattle.outside_steps.proofs.outside_step.Goals as goal

pub returns-then-k : goal.returns-then-k
returns-then-k c = rw c.end_step.ensures (skipped_end _ _ _ _ _ _ _ _ c.skip-k.ensures c.if-k.true)

pub scan_at-requires : goal.scan_at-requires
scan_at-requires c = record { in_text = c.skip-k.ensures.within; kept = c.skip-k.ensures.stops; roomy = record { texts = c.requires.roomy.texts; errors = omega (arith, c.skip-k.ensures.few, c.skip-k.ensures.within.inside, c.skip-k.ensures.within.size, c.requires.roomy.errors) } }

pub returns : goal.returns
returns c = skipped_given _ _ _ _ _ _ _ _ c.skip-k.ensures _ _ c.scan_at.result c.if-k.false c.scan_at.ensures
