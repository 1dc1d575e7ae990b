use mathlib.Core.Path.{sym, ◌∙◌}
use Rattle.records.proofs.KindLaws.{length_code, length_bare}
use Rattle.records.proofs.kinds.error_length.Goals as goal

pub returns-then-has_code : goal.returns-then-has_code
returns-then-has_code c = sym (length_code _ (sym c.has_code.ensures ∙ c.if-has_code.true))

pub returns-else-has_code : goal.returns-else-has_code
returns-else-has_code c = sym (length_bare _ (sym c.has_code.ensures ∙ c.if-has_code.false))
