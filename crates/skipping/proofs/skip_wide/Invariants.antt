-- `walks::skip::skip_wide` meets its contract. From the beginning to where the loop stands nothing is yielded. Assumes nothing.
use Prim.Native.Nat.{◌-◌}
use lib.ListN.{length}
use Rattle.skipping.proofs.Skips.{Gap}
use Rattle.skipping.proofs.skip_wide.Given as goal

abbrev pub invariant-loop-at : goal.invariant-loop-at
invariant-loop-at l = Gap l.text l.initial.at l.at

abbrev pub decreases-loop-at : goal.decreases-loop-at
decreases-loop-at l = length l.text - l.at.offset
