-- What reading records back answers to the host, as numbers.
use Rattle.std.specs.Prelude.{ℕ, List, [], ◌∷◌, ◌++◌}
use Rattle.spans.specs.declared.Span.{Span}
use Rattle.records.specs.Layout.{code_of}
use Rattle.records.specs.Errors.{kind_number, kind_char}
use Rattle.records.specs.declared.answers.TokenRecord.{TokenRecord}
use Rattle.records.specs.declared.answers.ErrorRecord.{ErrorRecord}

-- The six fields of a span.
unfoldable pub span_values : Span → List ℕ
span_values s = s.start ∷ s.end ∷ s.start_line ∷ s.start_col ∷ s.end_line ∷ s.end_col ∷ []

-- What each record begins with: the next place, the kind, and those.
unfoldable pub record_values : ℕ → ℕ → Span → List ℕ
record_values place kind s = place ∷ kind ∷ span_values s

-- The next token: those, and the text's offset and length.
unfoldable pub token_values : ℕ → TokenRecord → List ℕ
token_values place r = record_values place r.kind r.span ++ (r.offset ∷ r.length ∷ [])

-- The next error: those, and the code point.
unfoldable pub error_values : ℕ → ErrorRecord → List ℕ
error_values place r = record_values place (kind_number r.kind) r.span ++ (code_of (kind_char r.kind) ∷ [])

-- The text check has no values.
unfoldable pub no_values : Unit {0} → List ℕ
no_values u = []
