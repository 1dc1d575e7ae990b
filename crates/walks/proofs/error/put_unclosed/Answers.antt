-- `walks::error::put_unclosed` meets its contract. One record, or none. Assumes nothing.
use Rattle.walks.proofs.Errors.{put_closed, put_unclosed}
use Rattle.walks.proofs.error.put_unclosed.Goals as goal

pub returns-then-closed : goal.returns-then-closed
returns-then-closed c =
    put_closed c.args.closed c.args.kind c.args.p c.args.q _ c.args.at c.if-closed.true

pub returns : goal.returns
returns c =
    put_unclosed c.args.closed c.args.kind c.args.p c.args.q _ _ c.args.at _ _ c.if-closed.false c.between-span.ensures c.put_error.ensures
