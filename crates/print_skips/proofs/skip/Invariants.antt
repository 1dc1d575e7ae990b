-- `skip` meets its contract. From the beginning to where the loop stands all is passed. Assumes nothing.
use Prim.Native.Nat.{◌-◌}
use lib.ListN.{length}
use Rattle.print_skips.specs.Gaps.{Passed}
use Rattle.print_skips.proofs.skip.Given as goal

abbrev pub invariant-loop-w : goal.invariant-loop-w
invariant-loop-w l = Passed l.text l.from l.next

abbrev pub decreases-loop-w : goal.decreases-loop-w
decreases-loop-w l = length l.text - l.next
