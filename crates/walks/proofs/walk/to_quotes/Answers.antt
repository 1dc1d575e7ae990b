-- `walks::walk::to_quotes` meets its contract. Assumes nothing.
use mathlib.Core.List.{[], ◌∷◌}
use Rattle.std.proofs.Common.{rules}
use Rattle.walks.proofs.walk.to_quotes.Goals as goal

pub returns : goal.returns
returns c = c.to_mark.ensures (34 ∷ 34 ∷ []) (λ at b h. search rules)
