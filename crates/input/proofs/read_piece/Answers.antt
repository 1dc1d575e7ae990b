-- The rest of the buffer has room for at least one byte, and a piece of it lies within the buffer and is what the reader lost.
use Rattle.std.proofs.Common.{ℕ, arith, length-append, length-take, length-drop}
use Rattle.input.proofs.Pieces.{piece_within, piece_taken}
use Rattle.input.proofs.read_piece.Goals as goal

pub returns-clause-piece_within : goal.returns-clause-piece_within
returns-clause-piece_within g c =
    piece_within _ _ _ _ _ c.read.ensures.bound
    (omega (arith, length-append {A = ℕ}, length-take {A = ℕ}, length-drop {A = ℕ}))
    c.piece_of.ensures

pub returns-clause-taken : goal.returns-clause-taken
returns-clause-taken g c =
    piece_taken _ _ _ _ _ _ _ _ c.read.ensures.bound c.read.ensures.bytes
    (omega (arith, length-take {A = ℕ}))
    (omega (arith, length-take {A = ℕ}, length-drop {A = ℕ}))
    c.piece_of.ensures
