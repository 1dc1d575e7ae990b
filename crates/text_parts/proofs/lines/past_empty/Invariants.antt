-- `text_parts::lines::past_empty` meets its contract. The invariant: the same is left as at the beginning. The measure is what the part
use Prim.Native.Nat.{◌-◌}
use lib.ListN.{length}
use Rattle.text_parts.proofs.Walking.{Passing}
use Rattle.text_parts.proofs.lines.past_empty.Given as goal

abbrev pub invariant-loop-at : goal.invariant-loop-at
invariant-loop-at l = Passing l.part l.initial.at l.at

abbrev pub decreases-loop-at : goal.decreases-loop-at
decreases-loop-at l = length l.part - l.at.to
