-- `utf8_check::past_ascii` meets its contract. Assumes nothing.
use mathlib.Core.Path.{◌∙◌, sym}
use Rattle.utf8_check.proofs.Check.{clean_none, clean_then, clean_ascii}
use native.Mathlib.Omega.{arith}
use Rattle.utf8_check.proofs.past_ascii.Goals as goal

pub loop-at-init : goal.loop-at-init
loop-at-init c = clean_none _ _ c.requires

pub loop-at-preserved : goal.loop-at-preserved
loop-at-preserved c =
    let e = sym c.ascii16.ensures ∙ c.if-not-ascii16.false in
    clean_then c.loop-at.invariant (clean_ascii _ c.loop-at.at 15 (omega arith) e)
