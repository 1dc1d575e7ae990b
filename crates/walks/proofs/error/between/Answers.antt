-- `walks::error::between` meets its contract. It is the rules' span. Assumes nothing.
use mathlib.Core.Path.{◌∙◌, ap₂}
use Rattle.spans.specs.Span.{merge}
use Rattle.rules.specs.Lexer.{span}
use Rattle.walks.proofs.error.between.Goals as goal

pub returns : goal.returns
unfolding span
returns c = c.merge.ensures ∙ ap₂ merge c.single-first.ensures c.single-last.ensures
