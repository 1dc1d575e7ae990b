-- `walks::skip::skip` meets its contract. From the beginning to where the loop stands nothing is yielded; the buffer is as it was. Assumes nothing.
use mathlib.Core.Path.{◌≡◌}
use Prim.Native.Nat.{◌-◌}
use lib.ListN.{length}
use Rattle.skipping.proofs.Skips.{Gap}
use Rattle.skipping.proofs.skip.Given as goal

abbrev pub invariant-loop-c : goal.invariant-loop-c
invariant-loop-c l = Gap l.text l.initial.at l.at × (l.errors ≡ l.initial.errors)

abbrev pub decreases-loop-c : goal.decreases-loop-c
decreases-loop-c l = length l.text - l.at.offset
