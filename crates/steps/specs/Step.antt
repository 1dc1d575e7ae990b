-- What a scanning step promises.
use Rattle.std.specs.Prelude.{◌≡◌, Bool, false, ◌||◌, List, [], ◌∷◌, ◌++◌, ℕ, ◌+◌, ◌≤◌, length}
use Rattle.std.proofs.lemmas.List.Edits.{sets}
use Rattle.characters.specs.Utf8.{chars_at}
use Rattle.spans.specs.declared.Position.{Position}
use Rattle.rules.specs.Text.{Text}
use Rattle.rules.specs.Tokens as rules
use Rattle.rules.specs.Lexer.{Lexed, eof, origin}
use Rattle.rules.specs.Script.{as_bytes}
use Rattle.cursor.specs.Cursor.{left}
use Rattle.cursor.specs.declared.Cursor.TheVariants as cursor
use Rattle.records.specs.Records.{token_record}
use Rattle.records.specs.Layout.{made_text, record_of, error_bytes}
use Rattle.bridge.specs.Bridge as bridge
use Rattle.steps.specs.declared.Within as W
use Rattle.steps.specs.declared.Within.TheVariants.{Outside, Inside, Ended}
use Rattle.steps.specs.declared.Cursor.{Cursor}
use Rattle.steps.specs.declared.Token.{Token}
use Rattle.steps.specs.declared.Step.{Step}
use Rattle.steps.specs.declared.Step.TheVariants as step

-- ── What is still to come from a cursor on ──

-- The tokens with EOF, the errors, and whether the text runs out in something.
pub record Rest : Type 0 where
  pub tokens : List rules.Token
  pub errors : List rules.TokenizeError
  pub ran_out : Bool

unfoldable pub rest_of : Lexed → Rest
rest_of r = record { tokens = r.body ++ (eof r.stop ∷ []); errors = r.errors; ran_out = r.open_end }

abbrev pub nothing_left : Rest
nothing_left = record { tokens = []; errors = []; ran_out = false }

unfoldable pub rest_within : W.Within → Position → Text → Rest
rest_within Outside p cs = rest_of (left (cursor.Outside p) cs)
rest_within (Inside o l c) p cs = rest_of (left (cursor.InString (record { offset = o; line = l; col = c }) p) cs)
rest_within Ended p cs = nothing_left

-- From the cursor `c` on, of the text `s`.
unfoldable pub rest : List ℕ → Cursor → Rest
rest s c = rest_within c.within c.at (chars_at s c.at.offset)

-- The cursor at the beginning of a text.
abbrev pub begin : Cursor
begin = record { at = origin; within = Outside }

-- ── A step ──

-- The token `t` and the errors `es`, whether the text ran out in them, and then `r`.
abbrev pub and_then : rules.Token → List rules.TokenizeError → Bool → Rest → Rest
and_then t es o r = record { tokens = t ∷ r.tokens; errors = es ++ r.errors; ran_out = o || r.ran_out }

-- A cursor in a text.
pub record Good (s : List ℕ) (c : Cursor) : Type 0 where
  pub at : bridge.Within s c.at

-- The bytes that may be used in a buffer before a step. No script takes so many, and every sum with them fits. It is asked and is no type,
-- as PLACES of output.
abbrev pub BeforeStep : ℕ
BeforeStep = 4294967296

-- The same of the error buffer within a step: behind a string, whose rest may have had errors, and behind comments, which may too.
abbrev pub AfterString : ℕ
AfterString = 5368709120

abbrev pub AfterComment : ℕ
AfterComment = 6442450944

-- The bytes used in the two buffers before a step.
pub record Used (usedTexts usedErrors : ℕ) : Type 0 where
  pub texts : usedTexts ≤ BeforeStep
  pub errors : usedErrors ≤ BeforeStep

-- The same within a step, which has written errors already.
pub record Roomy (most usedTexts usedErrors : ℕ) : Type 0 where
  pub texts : usedTexts ≤ BeforeStep
  pub errors : usedErrors ≤ most

-- A step where `r` is still to come, that gave `t` and goes on from `c'`, with the buffers before and after it: the rules give the
-- token `token` and the errors `errors` next; `t` has the token's record, its text was written behind the texts before it, and the
-- errors' records behind those before them.
pub record GivesOf (r : Rest) (s : List ℕ) (texts₀ : List ℕ) (usedTexts : ℕ) (errors₀ : List ℕ) (usedErrors : ℕ)
    (t : Token) (c' : Cursor) (texts₁ errors₁ : List ℕ) : Type 0 where
  pub token : rules.Token
  pub errors : List rules.TokenizeError
  pub same : r ≡ and_then token errors t.ran_out (rest s c')
  pub kind : t.fields.kind ≡ token.kind
  pub entry : token_record t.fields.kind t.fields.span t.fields.offset t.fields.length ≡ record_of usedTexts (as_bytes token)
  pub text_written : texts₁ ≡ sets texts₀ usedTexts (made_text (as_bytes token))
  pub text_used : t.fill.texts ≡ usedTexts + length (made_text (as_bytes token))
  pub errors_written : errors₁ ≡ sets errors₀ usedErrors (error_bytes errors)
  pub errors_used : t.fill.errors ≡ usedErrors + length (error_bytes errors)
  pub good : Good s c'

-- A step from the cursor `c`.
abbrev pub Gives : List ℕ → Cursor → List ℕ → ℕ → List ℕ → ℕ → Token → Cursor → List ℕ → List ℕ → Type 0
Gives s c texts₀ usedTexts errors₀ usedErrors t c' texts₁ errors₁ =
    GivesOf (rest s c) s texts₀ usedTexts errors₀ usedErrors t c' texts₁ errors₁

-- The same for a step that may be none.
abbrev pub GivenBy : Rest → List ℕ → List ℕ → ℕ → List ℕ → ℕ → Step → List ℕ → List ℕ → Type 0
GivenBy r s texts₀ usedTexts errors₀ usedErrors (step.Token t c') texts₁ errors₁ =
    GivesOf r s texts₀ usedTexts errors₀ usedErrors t c' texts₁ errors₁
GivenBy r s texts₀ usedTexts errors₀ usedErrors step.End texts₁ errors₁ = ⊥

-- What is still to come outside of strings from a position on.
abbrev pub rest_outside : List ℕ → Position → Rest
rest_outside s p = rest_of (left (cursor.Outside p) (chars_at s p.offset))

-- The end: nothing is left, and nothing was written.
pub record Ends (s : List ℕ) (c : Cursor) (texts₀ errors₀ texts₁ errors₁ : List ℕ) : Type 0 where
  pub same : rest s c ≡ nothing_left
  pub texts_kept : texts₁ ≡ texts₀
  pub errors_kept : errors₁ ≡ errors₀

abbrev pub Stepped : List ℕ → Cursor → List ℕ → ℕ → List ℕ → ℕ → Step → List ℕ → List ℕ → Type 0
Stepped s c texts₀ usedTexts errors₀ usedErrors (step.Token t c') texts₁ errors₁ =
    Gives s c texts₀ usedTexts errors₀ usedErrors t c' texts₁ errors₁
Stepped s c texts₀ usedTexts errors₀ usedErrors step.End texts₁ errors₁ = Ends s c texts₀ errors₀ texts₁ errors₁
