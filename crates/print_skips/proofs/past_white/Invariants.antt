-- `past_white` meets its contract. From the beginning to where the loop stands all is passed. Assumes nothing.
use Prim.Native.Nat.{◌-◌}
use lib.ListN.{length}
use Rattle.print_skips.specs.Gaps.{Passed}
use Rattle.print_skips.proofs.past_white.Given as goal

abbrev pub invariant-loop-b : goal.invariant-loop-b
invariant-loop-b l = Passed l.text l.from l.at

abbrev pub decreases-loop-b : goal.decreases-loop-b
decreases-loop-b l = length l.text - l.at
