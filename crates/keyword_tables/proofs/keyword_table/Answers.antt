-- `keyword_table` meets its contract. Assumes nothing.
use mathlib.Core.Path.{refl}
use Rattle.rules.specs.Tables.{KEYWORDS}
use Rattle.lexemes.specs.Lists.{list_from}
use Rattle.keyword_tables.specs.Keywords.{keywords_of, keyword_rows, letters_of, kind_of, keyword_entry, keyword_table}
use Rattle.keyword_tables.proofs.keyword_table.Goals as goal

pub returns : goal.returns
unfolding keyword_table list_from keyword_entry letters_of kind_of keyword_rows keywords_of KEYWORDS
returns c = refl
