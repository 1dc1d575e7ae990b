-- `output::put_bytes` meets its contract. The invariant: the bytes copied so far stand in the buffer
use lib.ListN.{take}
use lib.Seq.{sets}
use mathlib.Core.Path.{◌≡◌}
use Rattle.output.proofs.put_bytes.Given as goal

abbrev pub invariant-loop-i : goal.invariant-loop-i
invariant-loop-i l = l.buf ≡ sets l.initial.buf l.at (take l.i l.part)
