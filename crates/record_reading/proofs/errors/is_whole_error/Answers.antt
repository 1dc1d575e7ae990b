use mathlib.Core.Path.{sym, ◌∙◌}
use Rattle.record_reading.proofs.Places.{error_past, error_unknown, error_known}
use Rattle.record_reading.specs.Reading.{kind_at}
use Rattle.record_reading.proofs.errors.is_whole_error.Goals as goal

pub returns-then-s-at : goal.returns-then-s-at
returns-then-s-at c = sym (error_past _ _ c.if-s-at.true)

pub returns-then-not-is_error_kind : goal.returns-then-not-is_error_kind
unfolding kind_at
returns-then-not-is_error_kind c = sym (error_unknown _ _ (sym c.is_error_kind.ensures ∙ c.if-not-is_error_kind.true))

pub returns : goal.returns
unfolding kind_at
returns c = error_known _ _ _ c.if-s-at.false (sym c.is_error_kind.ensures ∙ c.if-not-is_error_kind.false) c.error_length.ensures
