-- How the tokens and the errors of a script lie in the three buffers (document 01, "Records").
use Rattle.std.specs.Prelude.{ℕ, ◌+◌, List, [], ◌∷◌, ◌++◌, length, if◌then◌else◌}
use Rattle.std.proofs.Math.Option.{Option, none, some}
use Rattle.rules.specs.Tokens.{Token, TokenizeError}
use Rattle.records.specs.Kinds.{is_made}
use Rattle.records.specs.Records.{token_record, error_record}

-- ── Texts: they fill the front of the text buffer, in the order of their tokens and without gaps (document 02, order 3) ──

-- What a token adds to the text buffer.
unfoldable pub made_text : Token → List ℕ
made_text t = if is_made t.kind then t.text else []

unfoldable pub text_bytes : List Token → List ℕ
text_bytes [] = []
text_bytes (t ∷ ts) = made_text t ++ text_bytes ts

-- Where the text of a token lies, after so many bytes of the texts before it. A part of the script lies where its token starts.
unfoldable pub text_offset : ℕ → Token → ℕ
text_offset used t = if is_made t.kind then used else t.span.start

-- ── Tokens ──

unfoldable pub record_of : ℕ → Token → List ℕ
record_of used t = token_record t.kind t.span (text_offset used t) (length t.text)

-- The records of tokens, after so many bytes of the texts before them.
unfoldable pub token_bytes_from : ℕ → List Token → List ℕ
token_bytes_from used [] = []
token_bytes_from used (t ∷ ts) = record_of used t ++ token_bytes_from (used + length (made_text t)) ts

unfoldable pub token_bytes : List Token → List ℕ
token_bytes ts = token_bytes_from 0 ts

-- ── Errors, in the order recorded ──

unfoldable pub code_of : Option ℕ → ℕ
code_of none = 0
code_of (some c) = c

unfoldable pub error_record_of : TokenizeError → List ℕ
error_record_of e = error_record e.kind e.span (code_of e.char)

unfoldable pub error_bytes : List TokenizeError → List ℕ
error_bytes [] = []
error_bytes (e ∷ es) = error_record_of e ++ error_bytes es
