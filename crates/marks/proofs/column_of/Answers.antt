-- `column_of` meets its contract. Assumes nothing.
use mathlib.Core.Path.{◌∙◌}
use native.Mathlib.Omega.{arith}
use Rattle.marks.proofs.Laws.{column_own, column_none}
use Rattle.marks.proofs.column_of.Goals as goal

pub returns-then-class-le-LAST_COLUMN : goal.returns-then-class-le-LAST_COLUMN
returns-then-class-le-LAST_COLUMN c = record { value = c.from.ensures ∙ column_own _ c.if-class-le-LAST_COLUMN.true; upper_bound = omega (arith, c.from.ensures, c.if-class-le-LAST_COLUMN.true) }

pub returns : goal.returns
returns c = record { value = column_none _ c.if-class-le-LAST_COLUMN.false; upper_bound = omega arith }
