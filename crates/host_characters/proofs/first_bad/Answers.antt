-- `first_bad` meets its contract.
use mathlib.Core.Path.{refl, ◌∙◌, sym}
use Rattle.host_characters.specs.Characters.{check_number, check_figure}
use Rattle.host_characters.proofs.first_bad.Goals as goal

pub returns-in_default : goal.returns-in_default
unfolding check_number check_figure
returns-in_default c = record { value = rw (sym c.first_bad.ensures ∙ c.in_default.is) refl; figure_after = rw (sym c.first_bad.ensures ∙ c.in_default.is) refl }

pub returns : goal.returns
unfolding check_number check_figure
returns c = record { value = c.number.ensures ∙ rw (sym c.first_bad.ensures ∙ c.in-Some.is) c.bad_class-refusal.ensures.number; figure_after = c.figure.ensures ∙ rw (sym c.first_bad.ensures ∙ c.in-Some.is) c.bad_class-refusal.ensures.figure }
