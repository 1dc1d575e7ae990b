-- `utf8_classes::bad_class` meets its contract. Assumes nothing.
use mathlib.Core.Path.{sym, ◌∙◌}
use Rattle.utf8_classes.proofs.Classes.{at_end, at_cut, at_barred, at_other}
use Rattle.utf8_classes.proofs.bad_class.Goals as goal

pub returns-then-text-at-clause-number : goal.returns-then-text-at-clause-number
returns-then-text-at-clause-number c = at_end _ _ c.if-text-at.true

pub returns-then-is_cut-clause-number : goal.returns-then-is_cut-clause-number
returns-then-is_cut-clause-number c =
    at_cut c.args.text.now c.args.at (sym c.is_cut.ensures ∙ c.if-is_cut.true)

pub returns-then-is_barred-clause-number : goal.returns-then-is_barred-clause-number
returns-then-is_barred-clause-number c =
    at_barred c.args.text.now c.args.at (sym c.is_cut.ensures ∙ c.if-is_cut.false) (sym c.is_barred.ensures ∙ c.if-is_barred.true)

pub returns-clause-number : goal.returns-clause-number
returns-clause-number c =
    at_other c.args.text.now c.args.at (sym c.is_cut.ensures ∙ c.if-is_cut.false) (sym c.is_barred.ensures ∙ c.if-is_barred.false)
