-- `past_suffix` meets its contract. Assumes nothing.
use mathlib.Core.Path.{sym, ◌∙◌}
use Rattle.bridge.proofs.Cuts.{one_more, one_stop}
use Rattle.numbers.specs.Numbers.{is_suffix}
use Rattle.numbers.proofs.Tests.{suffix_low}
use Rattle.numbers.proofs.past_suffix.Goals as goal

pub returns-then-is_suffix : goal.returns-then-is_suffix
returns-then-is_suffix c =
    one_more is_suffix suffix_low _ _ (rw (← c.byte_at.ensures) (sym c.is_suffix.ensures ∙ c.if-is_suffix.true))

pub returns : goal.returns
returns c =
    one_stop is_suffix suffix_low _ _ c.requires (rw (← c.byte_at.ensures) (sym c.is_suffix.ensures ∙ c.if-is_suffix.false))
