-- The lists that readers of the buffers meet, and the lists that the records hold whole.
use Rattle.std.specs.Prelude.{◌≡◌, ℕ, zero, suc, ◌+◌, ◌≤◌, true, false, List, [], ◌∷◌, length, take, drop, if◌then◌else◌}
use Rattle.std.proofs.Math.Option.{none, some}
use Rattle.characters.specs.Choice.{◌is◌}
use Rattle.byte_order_mark.specs.Mark.{after_mark}
use Rattle.rules.specs.Tokens.{Token, TokenizeError}
use Rattle.rules.specs.Tables.{EOF, Error, UnexpectedCharacter, UnterminatedDocComment}
use Rattle.rules.specs.Bounds.{Small, SpanFits}
use Rattle.records.specs.Kinds.{has_text, is_made, has_code}
use Rattle.spellings.specs.Spelling.{spelling}
pub use Rattle.records.specs.Errors.{error_of}
use Rattle.refusals.specs.Answers.{Answer, got, refused}
use Rattle.record_reading.specs.Reading.{next_at, next_error_at}
use Rattle.record_texts.specs.Texts.{text_check_at, text_at}
use Rattle.records.specs.declared.answers.TokenRecord.{TokenRecord}
use Rattle.records.specs.declared.answers.ErrorRecord.{ErrorRecord}

-- ── What a reader meets that goes on from a place ──

-- The text of a record: the text call's, or the fixed spelling of its kind.
unfoldable pub word_of : ℕ → List ℕ → List ℕ
word_of kind text = if has_text kind then text else spelling kind

-- A turn: the token, and then the tokens from the next place on. It is the last at EOF, and there is none where next or the
-- text check refuses.
unfoldable pub token_turn : (ℕ → List Token) → List ℕ → Answer (Unit {0}) → Answer TokenRecord → ℕ → List Token
token_turn rest text (got ok) (got r) place =
    record { kind = r.kind; text = word_of r.kind text; span = r.span } ∷ (if r.kind is EOF then [] else rest place)
token_turn rest text (got ok) (refused n f) place = []
token_turn rest text (refused n f) a place = []

-- The tokens from a place on, in so many turns at most.
unfoldable pub tokens_from : ℕ → List ℕ → List ℕ → List ℕ → ℕ → List Token
tokens_from zero script texts s at = []
tokens_from (suc turns) script texts s at =
    token_turn (tokens_from turns script texts s) (text_at script texts s at) (text_check_at script texts s at) (next_at s at).answer (next_at s at).place

unfoldable pub error_turn : (ℕ → List TokenizeError) → Answer ErrorRecord → ℕ → List TokenizeError
error_turn rest (got r) place = error_of r ∷ rest place
error_turn rest (refused n f) place = []

-- The errors from a place on, in so many turns at most. It ends where next refuses.
unfoldable pub errors_from : ℕ → List ℕ → ℕ → List TokenizeError
errors_from zero s at = []
errors_from (suc turns) s at = error_turn (errors_from turns s) (next_error_at s at).answer (next_error_at s at).place

-- ── The lists that records hold whole ──

-- A text is the part of a buffer that begins at an offset.
pub record IsPart (home : List ℕ) (offset : ℕ) (text : List ℕ) : Type 0 where
  pub inside : offset + length text ≤ length home
  pub same : take (length text) (drop offset home) ≡ text

-- A token of a known kind and with fields that fit. A text that is a part of the script stands there where the token starts, and
-- a kind that carries no text has its spelling for it.
pub record TokenFits (script : List ℕ) (t : Token) : Type 0 where
  pub kind : t.kind ≤ Error
  pub span : SpanFits t.span
  pub size : Small (length t.text)
  pub part : has_text t.kind ≡ true → is_made t.kind ≡ false → IsPart (after_mark script) t.span.start t.text
  pub fixed : has_text t.kind ≡ false → t.text ≡ spelling t.kind

-- EOF stands last, and nowhere else.
unfoldable pub Ended : List Token → Type 0
Ended [] = ⊥
Ended (t ∷ []) = t.kind ≡ EOF
Ended (t ∷ u ∷ ts) = (t.kind ≡ EOF → ⊥) × Ended (u ∷ ts)

-- An error of a known kind and with fields that fit, which names a code point where its kind has one.
pub record ErrorFits (e : TokenizeError) : Type 0 where
  pub low : UnexpectedCharacter ≤ e.kind
  pub high : e.kind ≤ UnterminatedDocComment
  pub span : SpanFits e.span
  pub code : has_code e.kind ≡ true → (c : ℕ) × (e.char ≡ some c) × Small c
  pub bare : has_code e.kind ≡ false → e.char ≡ none
