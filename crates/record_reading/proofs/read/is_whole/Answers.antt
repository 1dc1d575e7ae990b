use mathlib.Core.Path.{sym, ◌∙◌}
use Rattle.record_reading.proofs.Places.{whole_past, whole_unknown, whole_known}
use Rattle.record_reading.specs.Reading.{kind_at}
use Rattle.record_reading.proofs.read.is_whole.Goals as goal

pub returns-then-s-at : goal.returns-then-s-at
returns-then-s-at c = sym (whole_past _ _ c.if-s-at.true)

pub returns-then-not-is_kind : goal.returns-then-not-is_kind
unfolding kind_at
returns-then-not-is_kind c = sym (whole_unknown _ _ (sym c.is_kind.ensures ∙ c.if-not-is_kind.true))

pub returns : goal.returns
unfolding kind_at
returns c = whole_known _ _ _ c.if-s-at.false (sym c.is_kind.ensures ∙ c.if-not-is_kind.false) c.record_length.ensures
