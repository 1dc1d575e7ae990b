use Prim.Native.Nat.{◌-◌, ◌≤◌}
use lib.ListN.{length}
use Rattle.string_runs.specs.Runs.{Wrote}
use Rattle.string_runs.proofs.put_simple.Given as goal

abbrev pub invariant-loop-at : goal.invariant-loop-at
invariant-loop-at l = Wrote l.text l.initial.at l.at l.initial.texts l.texts l.used_texts l.made × (l.used_texts ≤ 1099512676352)

abbrev pub decreases-loop-at : goal.decreases-loop-at
decreases-loop-at l = length l.text - l.at.offset
