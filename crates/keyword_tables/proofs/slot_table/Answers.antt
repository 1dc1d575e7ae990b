-- `slot_table` meets its contract. Assumes nothing.
use mathlib.Core.Path.{refl}
use Rattle.rules.specs.Tables.{KEYWORDS}
use Rattle.lexemes.specs.Lists.{list_from}
use Rattle.keyword_tables.specs.Keywords.{keywords_of, slot_of, row_from, row_of, slot_table}
use Rattle.keyword_tables.proofs.slot_table.Goals as goal

pub returns : goal.returns
unfolding slot_table list_from row_of row_from slot_of keywords_of KEYWORDS
returns c = refl
