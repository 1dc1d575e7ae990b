-- What a step inside a string promises.
use Rattle.std.specs.Prelude.{◌≡◌, Bool, true, false, not, List, [], ◌∷◌, ℕ, ◌+◌, ◌*◌, ◌-◌, ◌≤◌, ◌<◌, length}
use Rattle.characters.specs.Utf8.{chars_at, encode}
use Rattle.spans.specs.declared.Position.{Position}
use Rattle.rules.specs.Text.{Text}
use Rattle.rules.specs.Tokens.{Token, TokenizeError}
use Rattle.rules.specs.Tables.{StringLiteral}
use Rattle.rules.specs.Lexer.{span}
use Rattle.cursor.specs.declared.Cursor.{Cursor}
use Rattle.cursor.specs.declared.Cursor.TheVariants.{Outside, InString}
use Rattle.cursor.specs.Cursor.{and_then, held, left, position}
use Rattle.records.specs.declared.answers.TokenRecord.{TokenRecord}
use Rattle.bridge.specs.Bridge.{Within}
use Rattle.output.specs.Writing.{Put}
use Rattle.records.specs.Kinds.{is_made}
use Rattle.records.specs.Layout.{error_bytes}
use Rattle.string_runs.specs.declared.Run.{Run}
use Rattle.records.specs.Fields.{LONGEST_ERROR}
use Rattle.interpolations.specs.declared.Given.{Given}
use Rattle.strings.specs.declared.Piece.{Piece}
use Rattle.strings.specs.declared.Piece.TheVariants as piece

-- The literal of a run, with its span from `start` to `end` and its text from the place `from` of the texts on.
abbrev pub literal_piece : Position → Position → ℕ → Run → Cursor → Bool → ℕ → Piece
literal_piece start end from r next ran_out errors =
    piece.Token
    (record {
      token = record { kind = StringLiteral; span = span start end; offset = from; length = r.texts - from };
      next = next;
      ran_out = ran_out;
      texts = r.texts;
      errors = errors;
    })

-- The token of a record whose text is `t`.
abbrev pub token_of : TokenRecord → Text → Token
token_of r t = record { kind = r.kind; text = t; span = r.span }

-- A string's errors may take LONGEST_ERROR bytes for each byte passed; its opening quote counts where it is left.
abbrev pub credit : Cursor → ℕ
credit (Outside p) = LONGEST_ERROR
credit (InString start p) = 0

-- A token: what was left inside the string is the token and its errors, and then what is left from the next cursor on. Its text is
-- written at `ut` of the texts, its errors at `ue` of the errors.
pub record Gives (s : List ℕ) (p start : Position) (first : Bool) (texts texts' : List ℕ) (ut : ℕ) (errors errors' : List ℕ) (ue : ℕ) (r : Given) : Type 0 where
  pub text : Text
  pub recorded : List TokenizeError
  pub same :
      held (not first) start p [] (chars_at s p.offset)
      ≡ and_then (token_of r.token text ∷ []) recorded r.ran_out (left r.next (chars_at s (position r.next).offset))
  pub kind_made : is_made r.token.kind ≡ true
  pub offset : r.token.offset ≡ ut
  pub size : r.token.length ≡ length (encode text)
  pub made : Put texts texts' ut (encode text) r.texts
  pub noted : Put errors errors' ue (error_bytes recorded) r.errors
  pub within : Within s (position r.next)
  pub forth : p.offset ≤ (position r.next).offset
  pub small : r.texts ≤ ut + 3 * ((position r.next).offset - p.offset)
  pub few : r.errors ≤ ue + LONGEST_ERROR * ((position r.next).offset - p.offset) + credit r.next

-- The string is over at `q`, without a token: what was left is the errors, and then what is left outside from `q` on.
pub record Over (s : List ℕ) (p start : Position) (first : Bool) (texts texts' errors errors' : List ℕ) (ue : ℕ) (q : Position) (me : ℕ) : Type 0 where
  pub recorded : List TokenizeError
  pub same :
      held (not first) start p [] (chars_at s p.offset)
      ≡ and_then [] recorded false (left (Outside q) (chars_at s q.offset))
  pub later : first ≡ false
  pub kept : texts' ≡ texts
  pub noted : Put errors errors' ue (error_bytes recorded) me
  pub within : Within s q
  pub forth : p.offset < q.offset
  pub few : me ≤ ue + LONGEST_ERROR * (q.offset - p.offset)

abbrev pub PieceAt : List ℕ → Position → Position → Bool → List ℕ → List ℕ → ℕ → List ℕ → List ℕ → ℕ → Piece → Type 0
PieceAt s p start first texts texts' ut errors errors' ue (piece.Token r) = Gives s p start first texts texts' ut errors errors' ue r
PieceAt s p start first texts texts' ut errors errors' ue (piece.Over q me) = Over s p start first texts texts' errors errors' ue q me
