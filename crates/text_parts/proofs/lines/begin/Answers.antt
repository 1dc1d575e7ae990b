-- `text_parts::lines::begin` meets its contract. Assumes nothing.
use Rattle.text_parts.proofs.Walking.{begin_good, begin_at_lem}
use Rattle.text_parts.proofs.lines.begin.Goals as goal

pub past_empty-requires : goal.past_empty-requires
past_empty-requires c = begin_good _ _ _ c.line_at-l.ensures c.at_line.ensures

pub returns : goal.returns
returns c = begin_at_lem _ _ _ _ c.line_at-l.ensures c.at_line.ensures c.past_empty.ensures
