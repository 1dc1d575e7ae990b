-- Parts of a text.
use Rattle.std.specs.Prelude.{List, [], ℕ, ◌≤◌, ◌<◌, length}
use Rattle.std.proofs.Math.Seq.{slice}
use Rattle.characters.specs.Utf8.{encode_char}
use Rattle.text_parts.specs.declared.Part.{Part}
use Rattle.text_parts.specs.declared.Part.TheVariants as part

-- The bytes of a part; `s` is the slice that the text is read from.
abbrev pub part_bytes : List ℕ → Part → List ℕ
part_bytes s (part.Bytes from to) = slice from to s
part_bytes s (part.Char c) = encode_char c
part_bytes s part.Nothing = []

-- A part lies inside the slice, and its character can be encoded.
abbrev pub PartWithin : List ℕ → Part → Type 0
PartWithin s (part.Bytes from to) = (from < to) × (to ≤ length s)
PartWithin s (part.Char c) = c ≤ 0x10FFFF
PartWithin s part.Nothing = Unit {0}
