-- `doc_lines::kept_end` meets its contract. Assumes nothing.
use mathlib.Core.Path.{sym, ◌∙◌}
use Rattle.doc_lines.proofs.kept_end.Goals as goal

pub returns-then-is_white : goal.returns-then-is_white
returns-then-is_white c = rw (sym c.is_white.ensures ∙ c.if-is_white.true)

pub returns-else-is_white : goal.returns-else-is_white
returns-else-is_white c = rw (sym c.is_white.ensures ∙ c.if-is_white.false)
