-- `print_strings::put_string` meets its contract. The invariant: the string was written up to here, and what is still to be written
use mathlib.Core.List.{List, [], ◌∷◌}
use Prim.Native.Nat.{ℕ, ◌-◌}
use lib.ListN.{length}
use Rattle.rules.specs.Text.{ch}
use Rattle.output.specs.Writing.{Put}
use Rattle.print_strings.proofs.Loops.{StringingAt}
use Rattle.print_strings.proofs.put_string.Given as goal

abbrev pub invariant-loop-r : goal.invariant-loop-r
invariant-loop-r l = (first : List ℕ) → Put first l.initial.out l.at (ch "\"" ∷ []) l.initial.place → StringingAt l.s l.from first l.out l.at l.c l.place l.named

abbrev pub decreases-loop-r : goal.decreases-loop-r
decreases-loop-r l = length l.s - l.c
