-- `doc_lines::past_chars` meets its contract. The invariant: what is passed from here on is passed from the start on. Assumes nothing.
use mathlib.Core.Bool.{Bool}
use Prim.Native.Nat.{◌-◌, ◌≤◌}
use lib.ListN.{length}
use Rattle.rules.specs.Text.{Char}
use Rattle.doc_lines.specs.Lines.{Tells}
use Rattle.doc_lines.proofs.Places.{Skipping}
use Rattle.doc_lines.proofs.past_chars.Given as goal

abbrev pub invariant-loop-c : goal.invariant-loop-c
invariant-loop-c g l =
    (l.place ≤ length l.part) × ((test : Char → Bool) → Tells (λ c b. goal.F-post g l.test c b) test → Skipping test l.part l.from l.place)

abbrev pub decreases-loop-c : goal.decreases-loop-c
decreases-loop-c g l = length l.part - l.place
