-- `doc_lines::trimmed_line` meets its contract. The invariant: the characters passed, and where the last of them that is no white space
-- ends. Assumes nothing.
use mathlib.Core.Bool.{Bool, not}
use Prim.Native.Nat.{◌-◌, ◌≤◌}
use lib.ListN.{length}
use Rattle.doc_lines.specs.Lines.{Tells, in_line}
use Rattle.doc_lines.proofs.Places.{Ending}
use Rattle.doc_lines.proofs.trimmed_line.Given as goal

abbrev pub invariant-loop-c : goal.invariant-loop-c
invariant-loop-c g l =
    (l.at ≤ length l.part)
    × ((split : Bool) → Tells (λ c b. goal.E-post g l.ends c b) (λ c. not (in_line split c)) → Ending (in_line split) l.part l.from l.at l.to)

abbrev pub decreases-loop-c : goal.decreases-loop-c
decreases-loop-c g l = length l.part - l.at
