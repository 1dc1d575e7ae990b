-- `walks::skip::skip_white` meets its contract. From the beginning to where the loop stands nothing is yielded. Assumes nothing.
use Prim.Native.Nat.{◌-◌}
use lib.ListN.{length}
use Rattle.skipping.proofs.Skips.{Gap}
use Rattle.skipping.proofs.skip_white.Given as goal

abbrev pub invariant-loop-q : goal.invariant-loop-q
invariant-loop-q l = Gap l.text l.initial.at l.at

abbrev pub decreases-loop-q : goal.decreases-loop-q
decreases-loop-q l = length l.text - l.at.offset
