-- `docs::clean_doc` meets its contract. The invariant: the lines still to be written, written from here on, give the cleaned text
use Prim.Native.Nat.{◌-◌}
use lib.ListN.{length}
use Rattle.docs.proofs.Cleaning.{Cleaning}
use Rattle.docs.proofs.clean_doc.Given as goal

abbrev pub invariant-loop-next : goal.invariant-loop-next
invariant-loop-next l = Cleaning l.part l.initial.texts l.texts l.at l.place l.feeds l.end

abbrev pub decreases-loop-next : goal.decreases-loop-next
decreases-loop-next l = length l.part - l.place
