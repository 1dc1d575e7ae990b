-- `put_errors` meets its contract. The invariant: the lines of those still to be read complete the whole.
use Prim.Native.Nat.{◌-◌}
use Rattle.listing_reading.proofs.Turns.{Errors}
use Rattle.listing_reading.proofs.put_errors.Given as goal

abbrev pub invariant-loop-turn : goal.invariant-loop-turn
invariant-loop-turn l = Errors l.s l.initial.buf l.buf l.count l.at l.place (l.count - l._turn) l.p
