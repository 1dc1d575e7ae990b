-- `print_strings::put_units` meets its contract. The invariant: the units so far were written as a literal, without an error. The
use Prim.Native.Nat.{◌-◌}
use lib.ListN.{length}
use Rattle.bridge.specs.Bridge.{placed, Within}
use Rattle.print_strings.proofs.Rows.{RowingAt}
use Rattle.print_strings.proofs.put_units.Given as goal

abbrev pub invariant-loop-n : goal.invariant-loop-n
invariant-loop-n l = RowingAt l.s l.initial.c l.named l.initial.out l.out l.at l.c l.place l.name × Within l.s (placed l.initial.c)

abbrev pub decreases-loop-n : goal.decreases-loop-n
decreases-loop-n l = length l.s - l.c
