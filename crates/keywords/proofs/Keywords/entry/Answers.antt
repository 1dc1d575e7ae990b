-- `entry` meets its contract. Assumes nothing.
use Rattle.keywords.proofs.Laws.{keyword_entry_lem}
use Rattle.keywords.proofs.Keywords.entry.Goals as goal

pub returns : goal.returns
returns c = rw c.args.self.now.rows_made (keyword_entry_lem _ _ c.requires.row_bound c.requires.column_bound)
