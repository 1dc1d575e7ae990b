-- `docs::put_feeds` meets its contract. The invariant: the line feeds still to be written, written from here on, give all of them
use Prim.Native.Nat.{◌-◌}
use lib.ListN.{replicate}
use Rattle.rules.specs.Text.{LF}
use Rattle.output.proofs.Buffers.{Writing}
use Rattle.docs.proofs.put_feeds.Given as goal

abbrev pub invariant-loop : goal.invariant-loop
invariant-loop l = Writing l.initial.texts l.texts l.at l.place (replicate (l.n - l.counter) LF) (replicate l.n LF)
