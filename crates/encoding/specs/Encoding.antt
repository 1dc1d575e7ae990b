-- A character written into a lent buffer at a place, whatever the number and the place.
use Rattle.std.specs.Prelude.{ℕ, ◌+◌, Bool, ◌&&◌, List, leb, length, if◌then◌else◌, Option, Some, None}
use Rattle.std.proofs.lemmas.List.Edits.{sets}
use Rattle.characters.specs.Utf8.{is_scalar, width, encode_char}

-- The number is a character, and a buffer of so many octets has room for it at the place.
unfoldable pub has_room : ℕ → ℕ → ℕ → Bool
has_room c at size = is_scalar c && leb (at + width c) size

-- The answer: the number of octets written, or a refusal.
unfoldable pub encoded_at : ℕ → ℕ → ℕ → Option ℕ
encoded_at c at size = if has_room c at size then Some (width c) else None

-- The buffer afterwards: the character's octets from the place on, and all else kept. A refusal keeps the whole.
unfoldable pub buffer_after : ℕ → ℕ → List ℕ → List ℕ
buffer_after c at buf = if has_room c at (length buf) then sets buf at (encode_char c) else buf
