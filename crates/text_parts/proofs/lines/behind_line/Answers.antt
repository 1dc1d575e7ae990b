-- `text_parts::lines::behind_line` meets its contract. Assumes nothing.
use Rattle.text_parts.proofs.Walking.{behind_last, behind_good, behind_more}
use Rattle.text_parts.proofs.lines.behind_line.Goals as goal

pub returns-in_default : goal.returns-in_default
returns-in_default c = behind_last _ c.args.c c.requires c.in_default.is

pub past_empty-requires : goal.past_empty-requires
past_empty-requires c =
    behind_good _ c.args.c c.requires _ c.in-Some.is _ _ c.line_at-l.ensures c.at_line.ensures

pub returns : goal.returns
returns c =
    behind_more _ c.args.c c.requires _ c.in-Some.is _ _ _ c.line_at-l.ensures c.at_line.ensures
    c.past_empty.ensures
