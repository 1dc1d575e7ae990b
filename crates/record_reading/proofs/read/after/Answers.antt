use Rattle.record_reading.proofs.Places.{whole_head, whole_room, after_eof, after_other}
use Rattle.record_reading.specs.Reading.{kind_at}
use native.Mathlib.Omega.{arith}
use Rattle.record_reading.proofs.read.after.Goals as goal

pub bounds-s-at : goal.bounds-s-at
bounds-s-at c = omega (arith, whole_head _ _ c.requires)

pub overflow_add-result : goal.overflow_add-result
unfolding kind_at
overflow_add-result c = omega (arith, whole_room _ _ c.requires, c.record_length.ensures)

pub returns-then-kind-eq-EOF : goal.returns-then-kind-eq-EOF
unfolding kind_at
returns-then-kind-eq-EOF c = after_eof _ _ c.if-kind-eq-EOF.true

pub returns-else-kind-eq-EOF : goal.returns-else-kind-eq-EOF
unfolding kind_at
returns-else-kind-eq-EOF c = after_other _ _ _ c.if-kind-eq-EOF.false c.record_length.ensures
