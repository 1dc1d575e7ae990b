-- `doc_lines::ink_end` meets its contract. Assumes nothing.
use borrow.Author.Tests.{lt-ltb, le-ltb}
use Rattle.doc_lines.proofs.ink_end.Goals as goal

pub returns-then-at-q : goal.returns-then-at-q
returns-then-at-q c = rw (lt-ltb _ _ c.if-at-q.true)

pub returns-else-at-q : goal.returns-else-at-q
returns-else-at-q c = rw (le-ltb _ _ c.if-at-q.false)
