-- `is_part` meets its contract. Assumes nothing.
use mathlib.Core.Path.{sym, ◌∙◌}
use Rattle.characters.specs.Choice.{within}
use Rattle.rules.specs.Text.{is_digit, is_ident_part}
use Rattle.names.proofs.is_part.Goals as goal

pub returns-then-is_letter : goal.returns-then-is_letter
unfolding is_ident_part
returns-then-is_letter c = rw (sym c.is_letter.ensures ∙ c.if-is_letter.true)

pub returns : goal.returns
unfolding is_ident_part is_digit within
returns c = rw (sym c.is_letter.ensures ∙ c.if-is_letter.false, c.is_ascii_digit.ensures.value)
