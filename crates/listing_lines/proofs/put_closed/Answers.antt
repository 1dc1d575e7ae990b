-- `put_closed` meets its contract. Assumes nothing.
use Rattle.listing_lines.proofs.Words.{closed_line_lem, open_line}
use Rattle.listing_lines.proofs.put_closed.Goals as goal

pub returns-then-closed : goal.returns-then-closed
returns-then-closed c = rw (← closed_line_lem _ c.if-closed.true) c.put_bytes.ensures

pub returns : goal.returns
returns c = rw (← open_line _ c.if-closed.false) c.put_bytes-2.ensures
