-- `plain_end` meets its contract. A position at a place lies in the text. Assumes nothing.
use Rattle.std.proofs.Common.{rules}
use Rattle.bridge.proofs.Plains.{mid_at_start, mid_at_end, run_ends}
use Rattle.bridge.specs.Bridge.{is_plain}
use Rattle.bridge.proofs.plain_end.Goals as goal

pub returns-then-text-from : goal.returns-then-text-from
returns-then-text-from c =
    let f = is_plain c.args.x c.args.y c.args.z in
    mid_at_end c.args.x c.args.y c.args.z c.requires c.args.text.now c.args.from c.args.from (mid_at_start f c.args.text.now c.args.from) c.if-text-from.true

pub returns : goal.returns
returns c = run_ends c.args.x c.args.y c.args.z c.requires c.args.text.now (λ i b h. search rules) c.past.ensures
