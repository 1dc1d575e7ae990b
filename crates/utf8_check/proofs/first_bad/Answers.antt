-- `utf8_check::first_bad` meets its contract. Assumes nothing.
use mathlib.Core.Path.{◌∙◌, sym, subst}
use Rattle.utf8_check.specs.Check.{Progressed}
use Rattle.characters.proofs.Characters.{bad_start}
use Rattle.utf8_check.proofs.Check.{clean_none, clean_then}
use native.Mathlib.Omega.{arith}
use Rattle.utf8_check.proofs.first_bad.Goals as goal

pub loop-at-init : goal.loop-at-init
loop-at-init c = clean_none _ 0 (omega arith)

pub returns-then-text-from-lt-ENOUGH : goal.returns-then-text-from-lt-ENOUGH
returns-then-text-from-lt-ENOUGH c =
    sym (bad_start _ ∙ c.loop-at.invariant.same ∙ c.past_ascii-from.ensures.same ∙ c.past_rest.ensures)

pub loop-at-smaller : goal.loop-at-smaller
loop-at-smaller c =
    let q = subst (Progressed _ _ _) c.in-Continue.is c.past_good-p.ensures in
    omega arith

pub loop-at-preserved : goal.loop-at-preserved
loop-at-preserved c =
    let q = subst (Progressed _ _ _) c.in-Continue.is c.past_good-p.ensures in
    clean_then c.loop-at.invariant (clean_then c.past_ascii-from.ensures q.0)

pub returns-in-Break : goal.returns-in-Break
returns-in-Break c =
    let q = subst (Progressed _ _ _) c.in-Break.is c.past_good-p.ensures in
    sym (bad_start _ ∙ c.loop-at.invariant.same ∙ c.past_ascii-from.ensures.same ∙ q)
