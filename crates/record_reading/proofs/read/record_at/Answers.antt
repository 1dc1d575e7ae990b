use mathlib.Core.Path.{sym, ◌∙◌}
use Rattle.record_reading.proofs.Places.{whole_head, whole_text, record_text, record_plain}
use Rattle.record_reading.specs.Reading.{kind_at}
use native.Mathlib.Omega.{arith}
use Rattle.record_reading.proofs.read.record_at.Goals as goal

pub bounds-s-at : goal.bounds-s-at
bounds-s-at c = omega (arith, whole_head _ _ c.requires)

pub overflow_add-at : goal.overflow_add-at
overflow_add-at c = omega (arith, whole_head _ _ c.requires)

pub get_span-span-requires : goal.get_span-span-requires
get_span-span-requires c = omega (arith, whole_head _ _ c.requires)

pub overflow_add-at-then-has_text : goal.overflow_add-at-then-has_text
unfolding kind_at
overflow_add-at-then-has_text c = omega (arith, whole_text _ _ c.requires (sym c.has_text.ensures ∙ c.if-has_text.true))

pub get32-offset-requires : goal.get32-offset-requires
unfolding kind_at
get32-offset-requires c = omega (arith, whole_text _ _ c.requires (sym c.has_text.ensures ∙ c.if-has_text.true))

pub overflow_add-at-then-has_text-2 : goal.overflow_add-at-then-has_text-2
unfolding kind_at
overflow_add-at-then-has_text-2 c = omega (arith, whole_text _ _ c.requires (sym c.has_text.ensures ∙ c.if-has_text.true))

pub get32-length-requires : goal.get32-length-requires
unfolding kind_at
get32-length-requires c = omega (arith, whole_text _ _ c.requires (sym c.has_text.ensures ∙ c.if-has_text.true))

pub returns-then-has_text : goal.returns-then-has_text
unfolding kind_at
returns-then-has_text c = record_text _ _ _ _ _ (sym c.has_text.ensures ∙ c.if-has_text.true) c.get_span-span.ensures c.get32-offset.ensures.0 c.get32-length.ensures.0

pub returns : goal.returns
unfolding kind_at
returns c = record_plain _ _ _ (sym c.has_text.ensures ∙ c.if-has_text.false) c.get_span-span.ensures
