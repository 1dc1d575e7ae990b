-- `utf8_check::past_rest` meets its contract. Assumes nothing.
use mathlib.Core.Path.{◌∙◌, sym}
use Rattle.characters.proofs.Decoding.{placed_code}
use Rattle.characters.proofs.Characters.{bad_here, bad_none}
use Rattle.utf8_check.proofs.Check.{clean_none, clean_then, clean_code}
use native.Mathlib.Omega.{arith}
use Rattle.utf8_check.proofs.past_rest.Goals as goal

pub loop-n-init : goal.loop-n-init
loop-n-init c = clean_none _ _ c.requires

pub overflow_add-at : goal.overflow_add-at
overflow_add-at c =
    let e = sym c.decode-d.ensures ∙ c.in-Code.is in
    let p = placed_code _ _ _ _ e in
    omega arith

pub loop-n-smaller : goal.loop-n-smaller
loop-n-smaller c =
    let e = sym c.decode-d.ensures ∙ c.in-Code.is in
    let p = placed_code _ _ _ _ e in
    omega arith

pub loop-n-preserved : goal.loop-n-preserved
loop-n-preserved c =
    let e = sym c.decode-d.ensures ∙ c.in-Code.is in
    clean_then c.loop-n.invariant (clean_code _ _ _ _ e)

pub returns-in-Bad : goal.returns-in-Bad
returns-in-Bad c =
    c.loop-n.invariant.same ∙ bad_here _ c.loop-n.at (sym c.decode-d.ensures ∙ c.in-Bad.is)

pub returns-in-End : goal.returns-in-End
returns-in-End c =
    c.loop-n.invariant.same ∙ bad_none _ c.loop-n.at (sym c.decode-d.ensures ∙ c.in-End.is)
