-- `zero_then` meets its contract. Assumes nothing.
use mathlib.Core.Path.{sym, ◌∙◌}
use mathlib.Core.List.{[], ◌∷◌}
use Rattle.numbers.proofs.Numbers.{zero_none, zero_next}
use Rattle.numbers.proofs.zero_then.Goals as goal

pub returns-then-is_at : goal.returns-then-is_at
returns-then-is_at c =
    c.either_at.ensures
    ∙ sym (zero_next c.args.text.now c.args.at (c.args.a ∷ c.args.b ∷ []) (sym c.is_at.ensures ∙ c.if-is_at.true))

pub returns-else-is_at : goal.returns-else-is_at
returns-else-is_at c =
    c.if-is_at.false ∙ sym (zero_none _ _ _ (sym c.is_at.ensures ∙ c.if-is_at.false))
