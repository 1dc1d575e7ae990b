-- `Span::single` meets its contract.
use Rattle.spans.specs.Span.{single}
use mathlib.Core.Path.{refl}
use Rattle.spans.proofs.Span.single.Goals as goal

pub returns : goal.returns
unfolding single
returns c = refl
