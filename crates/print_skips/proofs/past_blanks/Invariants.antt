-- `past_blanks` meets its contract. From the beginning to where the loop stands all is passed. Assumes nothing.
use mathlib.Core.Path.{◌≡◌}
use Prim.Native.Nat.{◌-◌}
use lib.ListN.{length, get_or}
use Rattle.classes.specs.Classes.{class_of}
use Rattle.print_skips.specs.Gaps.{Passed}
use Rattle.print_skips.proofs.past_blanks.Given as goal

abbrev pub invariant-loop-class : goal.invariant-loop-class
invariant-loop-class l = Passed l.text l.from l.at × (l.class ≡ class_of (get_or l.text l.at 0))

abbrev pub decreases-loop-class : goal.decreases-loop-class
decreases-loop-class l = length l.text - l.at
