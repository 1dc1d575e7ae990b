-- `text_parts::units::next` meets its contract. Assumes nothing.
use mathlib.Core.Path.{sym, ◌∙◌}
use native.Mathlib.Omega.{arith}
use Rattle.text_parts.proofs.Strings.{quote_over, plain_on, none_on, short_on}
use Rattle.text_parts.proofs.units.next.Goals as goal

pub returns-then-from-to : goal.returns-then-from-to
returns-then-from-to c = plain_on _ _ _ c.plain_end-to.ensures c.if-from-to.true

pub returns-then-is_at : goal.returns-then-is_at
returns-then-is_at c = none_on _ _ (quote_over _ _ (sym c.is_at.ensures ∙ c.if-is_at.true))

pub short_escape-requires : goal.short_escape-requires
short_escape-requires c =
    omega (arith, c.requires.inside, c.requires.size)

pub overflow_add-behind : goal.overflow_add-behind
overflow_add-behind c =
    omega (arith, c.requires.inside, c.requires.size)

pub returns-in-Some : goal.returns-in-Some
returns-in-Some c = rw c.from-made.ensures (short_on _ _ _ (sym c.short_escape.ensures ∙ c.in-Some.is))

pub returns : goal.returns
returns c = c.unit_step.ensures
