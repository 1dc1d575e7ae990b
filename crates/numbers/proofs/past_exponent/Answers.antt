-- `past_exponent` meets its contract. Assumes nothing.
use mathlib.Core.Path.{sym, ◌∙◌}
use Rattle.numbers.proofs.Numbers.{power_there, exponent_stop, exponent_cut}
use Rattle.numbers.proofs.past_exponent.Goals as goal

pub returns-then-not-either_at : goal.returns-then-not-either_at
returns-then-not-either_at c = exponent_stop _ _ c.requires (sym c.either_at.ensures ∙ c.if-not-either_at.true)

pub past_sign-sign-requires : goal.past_sign-sign-requires
past_sign-sign-requires c =
    power_there c.args.text.now c.args.at (sym c.either_at.ensures ∙ c.if-not-either_at.false)

pub returns : goal.returns
returns c =
    exponent_cut _ _ (sym c.either_at.ensures ∙ c.if-not-either_at.false) _ _ c.past_sign-sign.ensures c.past_digits.ensures
