-- What the functions below a scanning step promise.
use Rattle.std.specs.Prelude.{◌≡◌, Bool, true, false, List, [], ◌∷◌, ℕ, ◌-◌}
use Rattle.characters.specs.Utf8.{chars_at}
use Rattle.spans.specs.declared.Position.{Position}
use Rattle.rules.specs.Tokens as rules
use Rattle.rules.specs.Tables.{EOF, Error}
use Rattle.rules.specs.Lexer.{current_span, span}
use Rattle.rules.specs.Script.{as_bytes}
use Rattle.cursor.specs.Cursor.{Yields}
use Rattle.cursor.specs.declared.Cursor as cursor
use Rattle.cursor.specs.declared.Cursor.TheVariants as cur
use Rattle.records.specs.Records.{token_record}
use Rattle.records.specs.Layout.{made_text, record_of, error_bytes}
use Rattle.bridge.specs.Bridge.{onward}
use Rattle.output.specs.Writing.{Put}
use Rattle.lexemes.specs.declared.Word.{Word}
use Rattle.skipping.specs.Skips.{is_skipped}
use Rattle.steps.specs.Step.{Good, GivenBy, rest_outside}
use Rattle.steps.specs.declared.Within as W
use Rattle.steps.specs.declared.Within.TheVariants.{Outside, Inside, Ended}
use Rattle.steps.specs.declared.Cursor.{Cursor}
use Rattle.steps.specs.declared.Fill.{Fill}
use Rattle.steps.specs.declared.Token.{Token}
use Rattle.steps.specs.declared.Step.{Step}
use Rattle.steps.specs.declared.Step.TheVariants as step

-- ── Steps by their parts ──

abbrev pub outside_at : Position → Cursor
outside_at p = record { at = p; within = Outside }

abbrev pub end_token : Position → Fill → Bool → Token
end_token p fill o =
    record { fields = record { kind = EOF; span = current_span p; offset = 0; length = 0 }; fill = fill; ran_out = o }

abbrev pub end_step : Position → Fill → Bool → Step
end_step p fill o = step.Token (end_token p fill o) (record { at = p; within = Ended })

abbrev pub word_token : Position → Word → Fill → Token
word_token p w fill =
    record {
      fields = record { kind = w.kind; span = span p (onward p w.extent); offset = p.offset; length = w.length };
      fill = fill;
      ran_out = false;
    }

abbrev pub word_step : Position → Word → Fill → Step
word_step p w fill = step.Token (word_token p w fill) (outside_at (onward p w.length))

abbrev pub made_token : ℕ → Position → Position → ℕ → Fill → Bool → Token
made_token kind p q offset fill o =
    record {
      fields = record { kind = kind; span = span p q; offset = offset; length = fill.texts - offset };
      fill = fill;
      ran_out = o;
    }

abbrev pub made_step : ℕ → Position → Position → ℕ → Fill → Bool → Step
made_step kind p q offset fill o = step.Token (made_token kind p q offset fill o) (outside_at q)

abbrev pub part_token : Position → Position → Fill → Token
part_token p q fill =
    record {
      fields = record { kind = Error; span = span p q; offset = p.offset; length = q.offset - p.offset };
      fill = fill;
      ran_out = false;
    }

abbrev pub part_step : Position → Position → Fill → Step
part_step p q fill = step.Token (part_token p q fill) (outside_at q)

-- ── A token that was found ──

-- The rules' cursor, for one that has not ended.
abbrev pub cursor_of : W.Within → Position → cursor.Cursor
cursor_of Outside p = cur.Outside p
cursor_of (Inside o l c) p = cur.InString (record { offset = o; line = l; col = c }) p
cursor_of Ended p = cur.Outside p

unfoldable pub is_ended : W.Within → Bool
is_ended Outside = false
is_ended (Inside o l c) = false
is_ended Ended = true

-- The token `t` of the code is the token `token` of the rules with the errors `es`: its record, its text written behind the texts
-- before it, and the errors' records behind those before them.
pub record Written (texts₀ : List ℕ) (usedTexts : ℕ) (errors₀ : List ℕ) (usedErrors : ℕ) (t : Token) (token : rules.Token)
    (es : List rules.TokenizeError) (texts₁ errors₁ : List ℕ) : Type 0 where
  pub kind : t.fields.kind ≡ token.kind
  pub entry : token_record t.fields.kind t.fields.span t.fields.offset t.fields.length ≡ record_of usedTexts (as_bytes token)
  pub texts : Put texts₀ texts₁ usedTexts (made_text (as_bytes token)) t.fill.texts
  pub errors : Put errors₀ errors₁ usedErrors (error_bytes es) t.fill.errors

-- From the rules' cursor `c`, which stands at a place: the next token is `t`, and then the cursor `c'`.
pub record Found (s : List ℕ) (c : cursor.Cursor) (place : ℕ) (texts₀ : List ℕ) (usedTexts : ℕ) (errors₀ : List ℕ) (usedErrors : ℕ)
    (t : Token) (c' : Cursor) (texts₁ errors₁ : List ℕ) : Type 0 where
  pub token : rules.Token
  pub errors : List rules.TokenizeError
  pub yields : Yields c (chars_at s place) (token ∷ []) errors t.ran_out (cursor_of c'.within c'.at) (chars_at s c'.at.offset)
  pub written : Written texts₀ usedTexts errors₀ usedErrors t token errors texts₁ errors₁
  pub good : Good s c'
  pub goes_on : is_ended c'.within ≡ false

abbrev pub FoundBy : List ℕ → cursor.Cursor → ℕ → List ℕ → ℕ → List ℕ → ℕ → Step → List ℕ → List ℕ → Type 0
FoundBy s c place texts₀ usedTexts errors₀ usedErrors (step.Token t c') texts₁ errors₁ =
    Found s c place texts₀ usedTexts errors₀ usedErrors t c' texts₁ errors₁
FoundBy s c place texts₀ usedTexts errors₀ usedErrors step.End texts₁ errors₁ = ⊥

-- The token at a position outside of strings.
abbrev pub FoundAt : List ℕ → Position → List ℕ → ℕ → List ℕ → ℕ → Step → List ℕ → List ℕ → Type 0
FoundAt s p texts₀ usedTexts errors₀ usedErrors r texts₁ errors₁ =
    FoundBy s (cur.Outside p) p.offset texts₀ usedTexts errors₀ usedErrors r texts₁ errors₁

-- The same where nothing is written, whatever the buffers hold.
abbrev pub FoundBare : List ℕ → Position → ℕ → ℕ → Step → Type 0
FoundBare s p usedTexts usedErrors r =
    (texts errors : List ℕ) → FoundAt s p texts usedTexts errors usedErrors r texts errors

-- What a step gives outside of strings, from a position on.
abbrev pub GivenAt : List ℕ → Position → List ℕ → ℕ → List ℕ → ℕ → Step → List ℕ → List ℕ → Type 0
GivenAt s p texts₀ usedTexts errors₀ usedErrors r texts₁ errors₁ =
    GivenBy (rest_outside s p) s texts₀ usedTexts errors₀ usedErrors r texts₁ errors₁

-- Nothing that is skipped stands at a position.
abbrev pub Kept : List ℕ → Position → Type 0
Kept s p = is_skipped (chars_at s p.offset) ≡ false
