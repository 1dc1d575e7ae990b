-- `put_hex` meets its contract. The invariant: what is still to be written, written from here on, gives the whole. Assumes
use Rattle.listing_fields.proofs.Hex.{Hexing}
use Rattle.listing_fields.proofs.put_hex.Given as goal

abbrev pub invariant-loop-b : goal.invariant-loop-b
invariant-loop-b l = Hexing l.text l.initial.buf l.buf l.at l.b-index l.p
