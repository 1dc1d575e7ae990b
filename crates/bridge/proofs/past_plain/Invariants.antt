-- `past_plain` meets its contract. Whatever ends the walk from where the loop stands ends it from its beginning. Assumes nothing.
use Prim.Native.Nat.{◌-◌}
use lib.ListN.{length}
use Rattle.bridge.specs.Bridge.{Stops, is_plain}
use Rattle.bridge.proofs.Plains.{Mid}
use Rattle.bridge.proofs.past_plain.Given as goal

abbrev pub invariant-loop-at : goal.invariant-loop-at
invariant-loop-at l = Mid (is_plain l.x l.y l.z) l.text (record { offset = l.initial.at; line = l.line; col = l.initial.col }) l.at l.col × Stops l.x l.y l.z

abbrev pub decreases-loop-at : goal.decreases-loop-at
decreases-loop-at l = length l.text - l.at
