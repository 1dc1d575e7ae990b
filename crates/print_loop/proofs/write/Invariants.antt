-- `write` meets its contract: what is still to be written after each turn completes the print, and less of the text is left. Assumes nothing.
use Prim.Native.Nat.{◌-◌}
use lib.ListN.{length}
use Rattle.print_loop.proofs.Walks.{Walking}
use Rattle.print_loop.proofs.write.Given as goal

abbrev pub invariant-loop-w : goal.invariant-loop-w
invariant-loop-w l = Walking l.script.bytes.now l.text l.initial.out l.out l.from l.due l.at

abbrev pub decreases-loop-w : goal.decreases-loop-w
decreases-loop-w l = length l.text - l.from
