-- `past_sign` meets its contract. Assumes nothing.
use mathlib.Core.Path.{sym, ◌∙◌}
use mathlib.Core.Bool.{true, false}
use Rattle.bridge.proofs.Tests.{low_weak}
use Rattle.bridge.proofs.Bytes.{next_test}
use Rattle.bridge.proofs.Cuts.{one_more, one_stop}
use Rattle.numbers.specs.Numbers.{is_sign}
use Rattle.numbers.proofs.Tests.{sign_low}
use Rattle.numbers.proofs.past_sign.Goals as goal

pub returns-then-either_at : goal.returns-then-either_at
returns-then-either_at c =
    one_more is_sign sign_low _ _ (next_test is_sign (low_weak is_sign sign_low) _ _ true (sym c.either_at.ensures ∙ c.if-either_at.true))

pub returns : goal.returns
returns c =
    one_stop is_sign sign_low _ _ c.requires
    (next_test is_sign (low_weak is_sign sign_low) _ _ false (sym c.either_at.ensures ∙ c.if-either_at.false))
