-- `utf8_check::past_good` meets its contract. Assumes nothing.
use mathlib.Core.Path.{◌∙◌, sym}
use Rattle.characters.proofs.Decoding.{placed_code}
use Rattle.characters.proofs.Characters.{bad_here, bad_none}
use Rattle.utf8_check.proofs.Check.{clean_none, clean_then, clean_code}
use native.Mathlib.Omega.{arith}
use Rattle.utf8_check.proofs.past_good.Goals as goal

pub loop-at-init : goal.loop-at-init
loop-at-init c = clean_none _ _ c.requires.from_in_bounds

pub overflow_add-at : goal.overflow_add-at
overflow_add-at c =
    let e = sym c.decode_inside-d.ensures ∙ c.in-Code.is in
    let p = placed_code _ _ _ _ e in
    omega arith

pub loop-at-smaller : goal.loop-at-smaller
loop-at-smaller c =
    let e = sym c.decode_inside-d.ensures ∙ c.in-Code.is in
    let p = placed_code _ _ _ _ e in
    omega arith

pub loop-at-preserved : goal.loop-at-preserved
loop-at-preserved c =
    let e = sym c.decode_inside-d.ensures ∙ c.in-Code.is in
    clean_then c.loop-at.invariant (clean_code _ _ _ _ e)

pub returns-in-Bad : goal.returns-in-Bad
returns-in-Bad c =
    c.loop-at.invariant.same ∙ bad_here _ c.loop-at.at (sym c.decode_inside-d.ensures ∙ c.in-Bad.is)

pub returns-in-End : goal.returns-in-End
returns-in-End c =
    c.loop-at.invariant.same ∙ bad_none _ c.loop-at.at (sym c.decode_inside-d.ensures ∙ c.in-End.is)
