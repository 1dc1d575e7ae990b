-- `doc_lines::is_blank` meets its contract. Assumes nothing.
use mathlib.Core.Path.{◌∙◌, ap}
use mathlib.Core.Bool.{not}
use Rattle.doc_lines.proofs.Places.{blank_ends, blank_white, in_line_lem, out_of_line}
use Rattle.doc_lines.proofs.is_blank.Goals as goal

pub returns-then-not-ends_line : goal.returns-then-not-ends_line
returns-then-not-ends_line c =
    blank_white _ _ _ (in_line_lem _ _ c.ends_line.ensures c.if-not-ends_line.true) c.is_white.ensures

pub returns-else-not-ends_line : goal.returns-else-not-ends_line
returns-else-not-ends_line c =
    ap not c.if-not-ends_line.false ∙ blank_ends _ _ (out_of_line _ _ c.ends_line.ensures c.if-not-ends_line.false)
