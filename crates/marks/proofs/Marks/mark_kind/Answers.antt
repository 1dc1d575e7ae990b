-- `mark_kind` meets its contract. Assumes nothing.
use Rattle.marks.proofs.Laws.{mark_entry}
use Rattle.marks.proofs.Marks.mark_kind.Goals as goal

pub returns : goal.returns
returns c =
    rw (c.args.self.now.made, c.from-row.ensures, ← c.column_of-column.ensures.value)
    (mark_entry c.args.first c.column_of-column.result c.requires.le_first c.requires.first_bound c.column_of-column.ensures.upper_bound)
