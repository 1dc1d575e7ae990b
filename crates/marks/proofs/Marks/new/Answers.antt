-- `new` makes the table of marks. Assumes nothing.
use mathlib.Core.Path.{refl}
use Rattle.rules.specs.Tables.{MARKS, lookup}
use Rattle.lexemes.specs.Lists.{list_from}
use Rattle.classes.specs.Classes.{mark_chars}
use Rattle.marks.specs.Marks.{found_or, char_of, kind_in, pair_kind, mark_table}
use Rattle.marks.proofs.Marks.new.Goals as goal

pub invariant_of-result : goal.invariant_of-result
unfolding mark_table list_from pair_kind kind_in found_or lookup MARKS char_of mark_chars
invariant_of-result c = record { made = refl }
