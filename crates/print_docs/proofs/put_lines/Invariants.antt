-- `print_docs::put_lines` meets its contract. The invariant: what the cursor still gives, written from here on, gives what the whole
use Rattle.text_parts.specs.Lines.{left_size}
use Rattle.print_docs.proofs.Lining.{Lining}
use Rattle.print_docs.proofs.put_lines.Given as goal

abbrev pub invariant-loop-x : goal.invariant-loop-x
invariant-loop-x l = Lining l.part l.initial.out l.out l.at l.initial.cursor l.cursor l.place

abbrev pub decreases-loop-x : goal.decreases-loop-x
decreases-loop-x l = left_size l.part l.cursor
