-- A kind over 125 is refused with the number 6. Assumes nothing.
use mathlib.Core.Path.{◌≡◌}
use mathlib.Core.Bool.{false}
use mathlib.Core.List.{List}
use Prim.Native.Nat.{ℕ, ◌<◌}
use borrow.Author.Tests.{lt-leb}
use Rattle.refusals.specs.declared.Refusal.{Refusal}
use Rattle.refusals.specs.declared.Refusal.TheVariants.{Kind}
use Rattle.records.specs.Kinds.{is_kind}
use Rattle.records.specs.Answers.{stopped}
use Rattle.record_reading.specs.Reading.{consume_at, match_at}

pub kind_high : (kind : ℕ) → 125 < kind → is_kind kind ≡ false
unfolding is_kind
kind_high kind h = lt-leb kind 125 h

module _ (s : List ℕ) (at kind : ℕ) (x : Refusal) (e : (x ≡ Kind kind) × (is_kind kind ≡ false)) where
  pub consume_unknown : stopped at x ≡ consume_at s at kind
  unfolding consume_at
  consume_unknown = rw (e.1, e.0)

  pub match_unknown : stopped at x ≡ match_at s at kind
  unfolding match_at
  match_unknown = rw (e.1, e.0)
