-- `walks::walk::to_mark` meets its contract. Whatever ends the walk from where the loop stands ends it from its beginning. Assumes nothing.
use mathlib.Core.List.{◌∷◌}
use Prim.Native.Nat.{◌-◌}
use lib.ListN.{length}
use Rattle.rules.specs.Text.{Text}
use Rattle.bridge.specs.Bridge.{Within}
use Rattle.walks.specs.Walks.{Tells}
use Rattle.walks.proofs.Walks.{Walking}
use Rattle.walks.proofs.walk.to_mark.Given as goal

abbrev pub invariant-loop-at : goal.invariant-loop-at
invariant-loop-at g l =
    Within l.text l.at
    × ((ms : Text) → Tells (λ at b. goal.F-post g l.stands at b) (l.first ∷ ms) l.text → Walking (l.first ∷ ms) l.text l.initial.at l.at)

abbrev pub decreases-loop-at : goal.decreases-loop-at
decreases-loop-at g l = length l.text - l.at.offset
