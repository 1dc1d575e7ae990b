-- `walks::ahead::stands_at` meets its contract. Byte by byte, each stands there or not. Assumes nothing.
use mathlib.Core.Path.{sym, ◌∙◌}
use Rattle.walks.proofs.Starts.{standing_start, standing_letter, standing_no, standing_more, standing_end}
use native.Mathlib.Omega.{arith}
use Rattle.walks.proofs.ahead.stands_at.Goals as goal

pub loop-i-init : goal.loop-i-init
loop-i-init g c = standing_start _ _ _ c.requires

pub overflow_add-at : goal.overflow_add-at
overflow_add-at g c = omega (arith, c.loop-i.invariant.place)

pub is_at-requires : goal.is_at-requires
is_at-requires g c = standing_letter _ _ _ _ c.loop-i.invariant (omega arith)

pub returns-then-not-is_at : goal.returns-then-not-is_at
returns-then-not-is_at g c = standing_no _ _ _ _ c.loop-i.invariant (omega arith) (sym c.is_at.ensures ∙ c.if-not-is_at.true)

pub loop-i-preserved : goal.loop-i-preserved
loop-i-preserved g c = standing_more _ _ _ _ c.loop-i.invariant (omega arith) (sym c.is_at.ensures ∙ c.if-not-is_at.false)

pub returns : goal.returns
returns g c = standing_end _ _ _ _ c.loop-i.invariant (omega arith)
