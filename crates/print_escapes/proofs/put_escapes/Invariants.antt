-- `print_escapes::put_escapes` meets its contract. The invariant: what is still to be written, written from here on, gives what the
use Prim.Native.Nat.{◌-◌}
use lib.ListN.{length}
use Rattle.print_escapes.proofs.Walks.{Escaping}
use Rattle.print_escapes.proofs.put_escapes.Given as goal

abbrev pub invariant-loop-quote : goal.invariant-loop-quote
invariant-loop-quote l = Escaping l.quote l.text l.initial.out l.out 0 (length l.text) l.at l.next l.place

abbrev pub decreases-loop-quote : goal.decreases-loop-quote
decreases-loop-quote l = length l.text - l.next
