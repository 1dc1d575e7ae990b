-- The fields of a line, each after a space (document 01, under "Small scripts").
use Rattle.std.specs.Prelude.{ℕ, List, [], ◌∷◌, ◌++◌}
use Rattle.std.proofs.Math.Option.{Option, none, some}
use Rattle.spans.specs.declared.Span.{Span}
use Rattle.spellings.specs.Spelling.{ascii}
use Rattle.listing_fields.specs.Numbers.{decimal, hex_of}

unfoldable pub field : ℕ → List ℕ
field n = ascii " " ++ decimal n

-- "six span fields", in the order of the records.
unfoldable pub span_fields : Span → List ℕ
span_fields s =
    field s.start ++ field s.end ++ field s.start_line ++ field s.start_col ++ field s.end_line ++ field s.end_col

-- "text (a fixed spelling too) in hexadecimal, or `-` where it is empty"
unfoldable pub text_field : List ℕ → List ℕ
text_field [] = ascii " -"
text_field (b ∷ bs) = ascii " " ++ hex_of (b ∷ bs)

-- "code point if any"
unfoldable pub code_field : Option ℕ → List ℕ
code_field none = []
code_field (some c) = field c
