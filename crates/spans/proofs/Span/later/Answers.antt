-- `Span::later` meets its contract.
use borrow.Author.Tests.{le-leb, lt-leb}
use Rattle.spans.specs.Span.{later}
use Rattle.spans.proofs.Span.later.Goals as goal

pub returns-then-b-a : goal.returns-then-b-a
unfolding later
returns-then-b-a c = rw (le-leb _ _ c.if-b-a.true)

pub returns-else-b-a : goal.returns-else-b-a
unfolding later
returns-else-b-a c = rw (lt-leb _ _ c.if-b-a.false)
