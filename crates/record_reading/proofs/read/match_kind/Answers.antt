use Rattle.refusals.proofs.Answers.{passed_on}
use Rattle.record_reading.proofs.Turns.{match_yes, match_no, match_unknown, match_stop}
use Rattle.record_reading.proofs.Places.{whole_head}
use Rattle.record_reading.specs.Reading.{kind_at}
use native.Mathlib.Omega.{arith}
use Rattle.record_reading.proofs.read.match_kind.Goals as goal

pub returns-in_err-ask_kind : goal.returns-in_err-ask_kind
returns-in_err-ask_kind c = rw (passed_on _ _ c.from_residual.ensures) (match_unknown _ _ _ _ c.in_err-ask_kind.ensures)

pub returns-in_err-ask_record : goal.returns-in_err-ask_record
returns-in_err-ask_record c = rw (passed_on _ _ c.from_residual-in_err-ask_record.ensures) (match_stop _ _ _ _ c.in_ok-ask_kind.ensures c.in_err-ask_record.ensures)

pub bounds-s-at : goal.bounds-s-at
bounds-s-at c = omega (arith, whole_head _ _ c.in_ok-ask_record.ensures)

pub returns-then-s-at : goal.returns-then-s-at
unfolding kind_at
returns-then-s-at c = match_yes _ _ _ _ c.in_ok-ask_kind.ensures c.in_ok-ask_record.ensures c.if-s-at.true c.after.ensures

pub returns-else-s-at : goal.returns-else-s-at
unfolding kind_at
returns-else-s-at c = match_no _ _ _ c.in_ok-ask_kind.ensures c.in_ok-ask_record.ensures c.if-s-at.false
