-- The lines of a listing (document 01, under "Small scripts").
use Rattle.std.specs.Prelude.{ℕ, Bool, List, [], ◌∷◌, ◌++◌, if◌then◌else◌}
use Rattle.spans.specs.declared.Span.{Span}
use Rattle.rules.specs.Text.{ch, LF}
use Rattle.rules.specs.Tokens.{Token, TokenizeError}
use Rattle.spellings.specs.Spelling.{ascii}
use Rattle.listing_fields.specs.Fields.{field, span_fields, text_field, code_field}

-- The line feed that ends each line.
abbrev pub ending : List ℕ
ending = LF ∷ []

-- A letter, a kind and a span.
unfoldable pub head_of : ℕ → ℕ → Span → List ℕ
head_of letter kind span = letter ∷ field kind ++ span_fields span

unfoldable pub token_line : Token → List ℕ
token_line t = head_of (ch "T") t.kind t.span ++ text_field t.text ++ ending

unfoldable pub token_lines : List Token → List ℕ
token_lines [] = []
token_lines (t ∷ ts) = token_line t ++ token_lines ts

unfoldable pub error_line : TokenizeError → List ℕ
error_line e = head_of (ch "E") e.kind e.span ++ code_field e.char ++ ending

unfoldable pub error_lines : List TokenizeError → List ℕ
error_lines [] = []
error_lines (e ∷ es) = error_line e ++ error_lines es

unfoldable pub closed_line : Bool → List ℕ
closed_line closed = (if closed then ascii "closed" else ascii "open") ++ ending

-- "a refusal: `refused`, number, figure"
unfoldable pub refused_line : ℕ → ℕ → List ℕ
refused_line number figure = ascii "refused" ++ field number ++ field figure ++ ending
