-- `ask_text` meets its contract. Assumes nothing.
use mathlib.Core.Path.{refl, sym, ◌∙◌}
use Rattle.questions.proofs.Questions.{text_long, text_bad, valid_accepted, valid_passes}
use Rattle.questions.proofs.ask_text.Goals as goal

pub returns-then-script-gt-LIMIT : goal.returns-then-script-gt-LIMIT
returns-then-script-gt-LIMIT c = text_long _ c.if-script-gt-LIMIT.true

pub returns-in_default : goal.returns-in_default
returns-in_default c = valid_passes _ c.if-script-gt-LIMIT.false (sym c.first_bad.ensures ∙ c.in_default.is) _ refl

pub invariant_of-result : goal.invariant_of-result
invariant_of-result c =
    record { passed = valid_accepted _ c.if-script-gt-LIMIT.false (sym c.first_bad.ensures ∙ c.in_default.is) }

pub returns : goal.returns
returns c = text_bad _ _ _ c.if-script-gt-LIMIT.false (sym c.first_bad.ensures ∙ c.in-Some.is) c.bad_class.ensures.number c.bad_class.ensures.figure
