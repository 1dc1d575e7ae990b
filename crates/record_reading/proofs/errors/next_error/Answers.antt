use mathlib.Core.Path.{sym, ◌∙◌}
use native.Mathlib.Omega.{arith}
use Rattle.record_reading.specs.Reading.{kind_at}
use Rattle.record_reading.proofs.Turns.{error_got, error_stop}
use Rattle.record_reading.proofs.Places.{error_room, error_head}
use Rattle.record_reading.proofs.errors.next_error.Goals as goal

pub returns-then-not-is_whole_error : goal.returns-then-not-is_whole_error
returns-then-not-is_whole_error c = error_stop _ _ (sym c.is_whole_error.ensures ∙ c.if-not-is_whole_error.true)

pub error_at-requires : goal.error_at-requires
error_at-requires c = (sym c.is_whole_error.ensures ∙ c.if-not-is_whole_error.false)

pub bounds-s-at : goal.bounds-s-at
bounds-s-at c = omega (arith, error_head _ _ (sym c.is_whole_error.ensures ∙ c.if-not-is_whole_error.false))

pub overflow_add-place : goal.overflow_add-place
unfolding kind_at
overflow_add-place c = omega (arith, error_room _ _ (sym c.is_whole_error.ensures ∙ c.if-not-is_whole_error.false), c.error_length.ensures)

pub returns : goal.returns
unfolding kind_at
returns c = error_got _ _ _ _ (sym c.is_whole_error.ensures ∙ c.if-not-is_whole_error.false) c.error_at.ensures c.error_length.ensures
