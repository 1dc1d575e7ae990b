-- `walks::skip::behind_white` meets its contract. By whether it is a line feed. Assumes nothing.
use mathlib.Core.Path.{◌∙◌, ap}
use Rattle.spans.specs.declared.Position.{Position}
use Rattle.skipping.proofs.Skips.{skip_feed, skip_other}
use Rattle.skipping.proofs.behind_white.Goals as goal

pub returns-then-c-eq-LINE_FEED : goal.returns-then-c-eq-LINE_FEED
returns-then-c-eq-LINE_FEED c =
    ap (λ (x : Position). record { offset = x.offset; line = x.line; col = 2 }) c.requires ∙ skip_feed c.args.p c.args.c c.if-c-eq-LINE_FEED.true

pub returns : goal.returns
returns c =
    c.requires ∙ skip_other c.args.p c.args.c c.if-c-eq-LINE_FEED.false
