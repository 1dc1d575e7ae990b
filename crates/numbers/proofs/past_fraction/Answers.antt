-- `past_fraction` meets its contract. Assumes nothing.
use mathlib.Core.Path.{sym, ◌∙◌}
use Rattle.numbers.proofs.Numbers.{point_there, fraction_stop, fraction_point, fraction_cut}
use Rattle.numbers.proofs.past_fraction.Goals as goal

pub returns-then-not-is_at : goal.returns-then-not-is_at
returns-then-not-is_at c = fraction_stop _ _ c.requires (sym c.is_at.ensures ∙ c.if-not-is_at.true)

pub returns-then-not-is_digit : goal.returns-then-not-is_digit
returns-then-not-is_digit c =
    let e = sym c.is_at.ensures ∙ c.if-not-is_at.false in
    fraction_point _ _ e (rw (← c.byte_at.ensures) (sym c.is_digit.ensures ∙ c.if-not-is_digit.true))

pub past_grouped-requires : goal.past_grouped-requires
past_grouped-requires c =
    point_there c.args.text.now c.args.at (sym c.is_at.ensures ∙ c.if-not-is_at.false)

pub returns : goal.returns
returns c =
    let e = sym c.is_at.ensures ∙ c.if-not-is_at.false in
    fraction_cut _ _ e _ (rw (← c.byte_at.ensures) (sym c.is_digit.ensures ∙ c.if-not-is_digit.false)) c.past_grouped.ensures
