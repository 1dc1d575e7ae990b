-- `utf8_classes::is_cut` meets its contract. Assumes nothing.
use mathlib.Core.Path.{sym, ◌∙◌}
use Rattle.utf8_classes.proofs.Classes.{cut_one, cut_two, cut_three, cut_never}
use Rattle.utf8_classes.proofs.is_cut.Goals as goal

pub returns-then-text-eq1 : goal.returns-then-text-eq1
returns-then-text-eq1 c = c.within.ensures ∙ sym (cut_one _ c.if-text-eq1.true)

pub returns-then-text-eq2 : goal.returns-then-text-eq2
returns-then-text-eq2 c =
    rw (c.within-then-text-eq2.ensures, c.second_ok.ensures) (sym (cut_two _ c.if-text-eq2.true))

pub returns-then-text-eq3 : goal.returns-then-text-eq3
returns-then-text-eq3 c =
    rw (c.within-then-text-eq3.ensures, c.second_ok-then-text-eq3.ensures, c.is_tail.ensures) (sym (cut_three _ c.if-text-eq3.true))

pub returns : goal.returns
returns c = sym (cut_never _ c.if-text-eq1.false c.if-text-eq2.false c.if-text-eq3.false)
