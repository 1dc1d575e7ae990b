-- `Span::merge` meets its contract.
use Rattle.spans.specs.Span.{merge}
use Rattle.spans.proofs.Span.merge.Goals as goal

pub returns : goal.returns
unfolding merge
returns c = rw (c.earlier-first.ensures, c.later-last.ensures)
