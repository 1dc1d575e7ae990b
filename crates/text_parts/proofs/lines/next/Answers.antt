-- `text_parts::lines::next` meets its contract. Assumes nothing.
use Rattle.text_parts.proofs.Walking.{left_over, next_feed, next_line}
use Rattle.text_parts.proofs.lines.next.Goals as goal

pub returns-then-c : goal.returns-then-c
returns-then-c c = left_over _ c.args.c c.requires c.if-c.true

pub returns-then-c-gt0 : goal.returns-then-c-gt0
returns-then-c-gt0 c =
    next_feed _ c.args.c c.requires c.if-c.false c.if-c-gt0.true

pub returns : goal.returns
returns c =
    next_line _ c.args.c c.requires c.if-c.false c.if-c-gt0.false _ c.behind_line.ensures
