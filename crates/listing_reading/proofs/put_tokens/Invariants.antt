-- `put_tokens` meets its contract. The invariant: the lines of those still to be read complete the whole.
use Prim.Native.Nat.{◌-◌}
use Rattle.listing_reading.proofs.Turns.{Tokens}
use Rattle.listing_reading.proofs.put_tokens.Given as goal

abbrev pub invariant-loop-turn : goal.invariant-loop-turn
invariant-loop-turn l = Tokens l.script l.texts l.tokens l.initial.buf l.buf l.count l.place (l.count - l._turn) l.p
