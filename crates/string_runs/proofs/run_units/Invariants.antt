use Prim.Native.Nat.{◌-◌}
use lib.ListN.{length}
use Rattle.string_runs.proofs.Rows.{Sofar}
use Rattle.string_runs.proofs.run_units.Given as goal

abbrev pub invariant-loop-u : goal.invariant-loop-u
invariant-loop-u l = Sofar l.text l.initial.at l.at l.initial.texts l.texts l.used_texts l.made l.initial.errors l.errors l.used_errors l.noted

abbrev pub decreases-loop-u : goal.decreases-loop-u
decreases-loop-u l = length l.text - l.at.offset
