use mathlib.Core.Path.{sym, ◌∙◌}
use Rattle.record_reading.proofs.Places.{error_head, error_tail, error_code_at, error_bare_at, error_kind_is}
use Rattle.record_reading.specs.Reading.{kind_at}
use native.Mathlib.Omega.{arith}
use Rattle.record_reading.proofs.errors.error_at.Goals as goal

pub bounds-s-at : goal.bounds-s-at
bounds-s-at c = omega (arith, error_head _ _ c.requires)

pub overflow_add-at : goal.overflow_add-at
overflow_add-at c = omega (arith, error_head _ _ c.requires)

pub get_span-span-requires : goal.get_span-span-requires
get_span-span-requires c = omega (arith, error_head _ _ c.requires)

pub overflow_add-at-then-has_code : goal.overflow_add-at-then-has_code
unfolding kind_at
overflow_add-at-then-has_code c = omega (arith, error_tail _ _ c.requires (sym c.has_code.ensures ∙ c.if-has_code.true))

pub get32-code-requires : goal.get32-code-requires
unfolding kind_at
get32-code-requires c = omega (arith, error_tail _ _ c.requires (sym c.has_code.ensures ∙ c.if-has_code.true))

pub returns-then-has_code : goal.returns-then-has_code
unfolding kind_at
returns-then-has_code c = error_code_at _ _ _ _ _ c.get_span-span.ensures c.get32-code.ensures.0 c.of-kind.ensures

pub returns : goal.returns
unfolding kind_at
returns c = error_bare_at _ _ _ _ (sym c.has_code.ensures ∙ c.if-has_code.false) c.get_span-span.ensures c.of-kind-2.ensures

pub of-kind-requires : goal.of-kind-requires
unfolding kind_at
of-kind-requires c = error_kind_is _ _ c.requires

pub of-kind-requires-2 : goal.of-kind-requires-2
unfolding kind_at
of-kind-requires-2 c = error_kind_is _ _ c.requires
