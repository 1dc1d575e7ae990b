use Rattle.refusals.proofs.Answers.{passed_on}
use Rattle.record_reading.proofs.Turns.{next_got, next_stop}
use Rattle.record_reading.proofs.read.next_token.Goals as goal

pub returns-in_err-ask_record : goal.returns-in_err-ask_record
returns-in_err-ask_record c = rw (passed_on _ _ c.from_residual.ensures) (next_stop _ _ _ c.in_err-ask_record.ensures)

pub returns : goal.returns
returns c = next_got _ _ _ _ c.in_ok-ask_record.ensures c.record_at.ensures c.after.ensures
