-- `walks::walk::to_pair` meets its contract. Assumes nothing.
use mathlib.Core.List.{[], ◌∷◌}
use Rattle.std.proofs.Common.{rules}
use Rattle.walks.proofs.walk.to_pair.Goals as goal

pub returns : goal.returns
returns c = c.to_mark.ensures (47 ∷ []) (λ at b h. search rules)
