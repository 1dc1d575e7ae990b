-- `mark_at` meets its contract. Assumes nothing.
use Rattle.marks.proofs.Laws.{delimiter_word}
use Rattle.marks.proofs.Marks.mark_at.Goals as goal

pub returns-then-first-ge-DELIMITER : goal.returns-then-first-ge-DELIMITER
returns-then-first-ge-DELIMITER c =
    delimiter_word c.args.text.now c.args.at c.args.first _ c.requires.first_value c.if-first-ge-DELIMITER.true c.requires.first_bound c.mark_kind-kind.ensures
