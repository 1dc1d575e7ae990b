-- The bytes of a record: the kind, the six span fields and what the kind adds, each number 32-bit little-endian (document 01,
-- "Records").
use Rattle.std.specs.Prelude.{ℕ, ◌/◌, ◌%◌, List, [], ◌∷◌, ◌++◌, if◌then◌else◌}
use Rattle.spans.specs.declared.Span.{Span}
use Rattle.records.specs.Kinds.{has_text, has_code}

unfoldable pub le32 : ℕ → List ℕ
le32 n = n % 256 ∷ n / 256 % 256 ∷ n / 65536 % 256 ∷ n / 16777216 % 256 ∷ []

unfoldable pub pair_bytes : ℕ → ℕ → List ℕ
pair_bytes a b = le32 a ++ le32 b

unfoldable pub span_bytes : Span → List ℕ
span_bytes s = pair_bytes s.start s.end ++ pair_bytes s.start_line s.start_col ++ pair_bytes s.end_line s.end_col

unfoldable pub head_bytes : ℕ → Span → List ℕ
head_bytes kind span = kind ∷ span_bytes span

-- A token's record, with its text's offset and length where its kind has them.
unfoldable pub token_record : ℕ → Span → ℕ → ℕ → List ℕ
token_record kind span offset size = head_bytes kind span ++ (if has_text kind then pair_bytes offset size else [])

-- An error's record, with its code point where its kind has one.
unfoldable pub error_record : ℕ → Span → ℕ → List ℕ
error_record kind span code = head_bytes kind span ++ (if has_code kind then le32 code else [])
