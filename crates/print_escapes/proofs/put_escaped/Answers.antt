-- `print_escapes::put_escaped` meets its contract. Assumes nothing.
use Rattle.print_escapes.proofs.Bare.{self_put, feed_put, dollar_put, bare_put}
use Rattle.print_escapes.proofs.put_escaped.Goals as goal

pub returns-then-b-quote : goal.returns-then-b-quote
returns-then-b-quote c =
    self_put _ _ _ _ _ _ _ _ c.if-b-quote.true c.put_byte-place.ensures c.put_byte.ensures

pub returns-then-b-eq10 : goal.returns-then-b-eq10
returns-then-b-eq10 c =
    feed_put _ _ _ _ _ _ c.if-b-quote.false c.if-b-eq10.true c.put_bytes.ensures

pub returns-then-b-quote-2 : goal.returns-then-b-quote-2
returns-then-b-quote-2 c =
    dollar_put _ _ _ _ _ _ c.if-b-quote.false c.if-b-eq10.false c.if-b-quote-2.true c.put_bytes-then-b-quote-2.ensures

pub returns : goal.returns
returns c =
    bare_put _ _ _ _ _ _ c.if-b-quote.false c.if-b-eq10.false c.if-b-quote-2.false c.put_byte-2.ensures
