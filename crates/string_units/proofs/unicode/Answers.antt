use mathlib.Core.Path.{sym, ◌∙◌}
use Rattle.bridge.proofs.Values.{value_some, value_none}
use Rattle.string_units.proofs.UnitLaws.{unicode_bad, unicode_char, unicode_none}
use Rattle.string_units.proofs.unicode.Goals as goal

pub returns-in_default : goal.returns-in_default
returns-in_default c =
    unicode_bad c.args.text.now c.args.p c.args.r c.requires.reach (value_none _ (sym c.four_digits.ensures ∙ c.in_default.is))

pub returns-then-is_scalar : goal.returns-then-is_scalar
returns-then-is_scalar c =
    unicode_char c.args.text.now c.args.p c.args.r c.requires.reach _ _ c.along-next.ensures (value_some _ _ (sym c.four_digits.ensures ∙ c.in-Some.is)) (sym c.is_scalar.ensures ∙ c.if-is_scalar.true)

pub returns : goal.returns
returns c =
    unicode_none c.args.text.now c.args.p c.args.r c.requires.reach _ _ c.along-next.ensures (value_some _ _ (sym c.four_digits.ensures ∙ c.in-Some.is)) (sym c.is_scalar.ensures ∙ c.if-is_scalar.false)
