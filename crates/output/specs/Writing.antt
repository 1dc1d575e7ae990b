-- Bytes written into a lent buffer from a place on. `sets` passes over what lies outside the buffer, so a write asks for no room:
-- where the buffer is too small the bytes that fit are written, and the place after the whole is answered all the same.
use Rattle.std.specs.Prelude.{◌≡◌, List, ℕ, ◌+◌, length}
use Rattle.std.proofs.lemmas.List.Edits.{sets}

-- The places up to which a write is asked for: far behind the end of every buffer, and so far below 2^64 that a place and the length of
-- what is written there have a sum. It is asked of each place and is no type: the place behind a write would have to be tested anew.
abbrev pub PLACES : ℕ
PLACES = 1152921504606846976

-- How many hexadecimal digits there are.
abbrev pub HEX : ℕ
HEX = 16

-- The buffer `old` became `new`: the bytes stand from `at` on, all else keeps, and `r` is the place after them.
pub record Put (old new : List ℕ) (at : ℕ) (bytes : List ℕ) (r : ℕ) : Type 0 where
  pub written : new ≡ sets old at bytes
  pub place : r ≡ at + length bytes
