use Prim.Native.Nat.{◌-◌, ◌≤◌}
use lib.ListN.{length}
use Rattle.string_runs.specs.Runs.{Wrote}
use Rattle.string_runs.proofs.put_escapes.Given as goal

abbrev pub invariant-loop-v : goal.invariant-loop-v
invariant-loop-v l = Wrote l.text l.initial.at l.at l.initial.texts l.texts l.used_texts l.made × (l.used_texts ≤ 1099513724928)

abbrev pub decreases-loop-v : goal.decreases-loop-v
decreases-loop-v l = length l.text - l.at.offset
