-- `byte_order_mark::mark_length` meets its contract. Assumes nothing.
use mathlib.Core.Path.{sym, ◌∙◌}
use Rattle.byte_order_mark.proofs.Marks.{mark_length_yes, mark_length_no}
use Rattle.byte_order_mark.proofs.mark_length.Goals as goal

pub returns-then-has_mark : goal.returns-then-has_mark
returns-then-has_mark c = sym (mark_length_yes _ (sym c.has_mark.ensures ∙ c.if-has_mark.true))

pub returns-else-has_mark : goal.returns-else-has_mark
returns-else-has_mark c = sym (mark_length_no _ (sym c.has_mark.ensures ∙ c.if-has_mark.false))
