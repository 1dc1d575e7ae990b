-- `past` meets its contract. Assumes nothing.
use Rattle.bridge.proofs.Reaches.{advance_feed, advance_along}
use Rattle.bridge.proofs.past.Goals as goal

pub returns-then-c-eq-LINE_FEED : goal.returns-then-c-eq-LINE_FEED
returns-then-c-eq-LINE_FEED c =
    advance_feed c.args.p c.args.c c.args.n c.requires.n_value c.if-c-eq-LINE_FEED.true

pub returns : goal.returns
returns c =
    advance_along c.args.p c.args.c c.args.n c.requires.n_value c.if-c-eq-LINE_FEED.false
