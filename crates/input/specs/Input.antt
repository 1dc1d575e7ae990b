-- What the reads of an input give. Which bytes they put into the buffer is known of a reader whose type says what it has left.
use Rattle.std.specs.Prelude.{ℕ, zero, suc, ◌+◌, ◌≤◌, ◌<◌, List, [], length, take, drop, Option, Some, None, Result, Ok, Err}
use Rattle.std.specs.Io.KnownBytes.{Consumes, IsAtEnd}

-- What a read gave, as its answer says: only 0 is the end of the input, and only an error is a read that failed.
abbrev pub piece_of : {E : Type 0} → Result ℕ E → Result (Option ℕ) E
piece_of (Ok zero) = Ok None
piece_of (Ok (suc k)) = Ok (Some (suc k))
piece_of (Err e) = Err e

-- A piece that was read from a place on has at least one byte, and lies inside of a buffer of so many bytes.
abbrev pub PieceWithin : {E : Type 0} → Result (Option ℕ) E → ℕ → ℕ → Type 0
PieceWithin (Ok (Some n)) at size = (0 < n) × (at + n ≤ size)
PieceWithin (Ok None) at size = Unit {0}
PieceWithin (Err e) at size = Unit {0}

-- The bytes that were read are bytes of the buffer.
abbrev pub InputWithin : {E : Type 0} → Result ℕ E → List ℕ → Type 0
InputWithin (Ok n) bytes = n ≤ length bytes
InputWithin (Err e) bytes = Unit {0}

-- A piece that was read from a place on is what the reader lost, which is nothing where there is no piece. At the end of the input the
-- reader has nothing left.
abbrev pub PieceTaken : {E : Type 0} → Option (List ℕ) → Option (List ℕ) → Result (Option ℕ) E → ℕ → List ℕ → Type 0
PieceTaken old new (Ok (Some n)) at bytes = Consumes old new (take n (drop at bytes))
PieceTaken old new (Ok None) at bytes = Consumes old new [] × IsAtEnd new
PieceTaken old new (Err e) at bytes = Consumes old new []

-- The bytes at the front are what the reader lost, in its order. It has nothing left where they do not fill the buffer, unless a read
-- failed: then some bytes at the front are what it lost before.
abbrev pub InputTaken : {E : Type 0} → Option (List ℕ) → Option (List ℕ) → Result ℕ E → List ℕ → Type 0
InputTaken old new (Ok n) bytes = Consumes old new (take n bytes) × (n < length bytes → IsAtEnd new)
InputTaken old new (Err e) bytes = (n : ℕ) × Consumes old new (take n bytes)
