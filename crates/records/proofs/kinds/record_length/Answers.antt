use mathlib.Core.Path.{sym, ◌∙◌}
use Rattle.records.proofs.KindLaws.{length_text, length_plain}
use Rattle.records.proofs.kinds.record_length.Goals as goal

pub returns-then-has_text : goal.returns-then-has_text
returns-then-has_text c = sym (length_text _ (sym c.has_text.ensures ∙ c.if-has_text.true))

pub returns-else-has_text : goal.returns-else-has_text
returns-else-has_text c = sym (length_plain _ (sym c.has_text.ensures ∙ c.if-has_text.false))
