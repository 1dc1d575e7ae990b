use Rattle.refusals.proofs.Answers.{passed_on}
use Rattle.record_reading.proofs.Turns.{consume_got, consume_unknown, consume_stop}
use Rattle.record_reading.proofs.read.consume.Goals as goal

pub returns-in_err-ask_kind : goal.returns-in_err-ask_kind
returns-in_err-ask_kind c = rw (passed_on _ _ c.from_residual.ensures) (consume_unknown _ _ _ _ c.in_err-ask_kind.ensures)

pub returns-in_err-r : goal.returns-in_err-r
returns-in_err-r c = rw (passed_on _ _ c.from_residual-in_err-r.ensures) (consume_stop _ _ _ _ c.in_ok-ask_kind.ensures c.in_err-r.ensures)

pub returns : goal.returns
returns c = consume_got _ _ _ _ _ c.in_ok-ask_kind.ensures c.in_ok-r.ensures
