-- `new` makes the table of classes. Assumes nothing.
use mathlib.Core.Path.{refl}
use Rattle.characters.specs.Choice.{within}
use Rattle.characters.specs.Space.{is_white}
use Rattle.rules.specs.Text.{is_digit, is_letter, is_ident_start}
use Rattle.lexemes.specs.Lists.{list_from}
use Rattle.classes.specs.Classes.{mark_chars, place_from, class_of, class_table}
use Rattle.classes.proofs.Classes.new.Goals as goal

pub invariant_of-result : goal.invariant_of-result
unfolding class_table list_from class_of is_white is_digit is_ident_start is_letter place_from mark_chars within
invariant_of-result c = record { made = refl }
