-- What the functions of a character literal promise.
use Rattle.std.specs.Prelude.{◌≡◌, Bool, true, false, List, [], ◌∷◌, ℕ, ◌+◌, ◌*◌, ◌-◌, ◌≤◌, take, if◌then◌else◌, Result, Ok, Err}
use Rattle.characters.specs.Choice.{◌is◌}
use Rattle.characters.specs.Utf8.{chars_at, encode}
use Rattle.spans.specs.declared.Position.{Position}
use Rattle.rules.specs.Text.{Char, Text, ch}
use Rattle.rules.specs.Scan.{next}
use Rattle.rules.specs.Tables.{CharLiteral, UnterminatedCharacter}
use Rattle.rules.specs.Strings.{escape}
use Rattle.cursor.specs.Strings.{StringUnit, plain_unit}
use Rattle.bridge.specs.Bridge.{Reach, onward, exactly}
use Rattle.output.specs.Writing.{Put}
use Rattle.multiline.specs.declared.Made.{Made}
use Rattle.records.specs.Layout.{error_bytes}
use Rattle.walks.specs.Errors.{unclosed}
use Rattle.walks.specs.Segments.{segment_at, errors_at, OneToken}
use Rattle.string_units.specs.Units.{UnitAt}
use Rattle.records.specs.Fields.{LONGEST_ERROR}
use Rattle.string_units.specs.declared.Unit as code

-- An escape with the letter `e`, before `cs`, as a unit (lexer.rs, lines 785 to 831).
unfoldable pub escape_letter : Char → Text → StringUnit
escape_letter e cs =
    let x = escape 1 (record { text = e ∷ []; extra = 0; faults = [] }) e cs in
    record { chars = ch "\\" ∷ e ∷ take x.extra cs; made = x.text; faults = x.faults }

-- What stands behind the opening quote, as a unit: a character, or an escape.
unfoldable pub letter_of : Text → StringUnit
letter_of [] = record { chars = []; made = []; faults = [] }
letter_of (c ∷ []) = plain_unit c
letter_of (c ∷ e ∷ cs) = if c is ch "\\" then escape_letter e cs else plain_unit c

-- The text runs out behind the opening quote, or behind the backslash there (document 01, "Open at the end").
unfoldable pub runs_out : Text → Bool
runs_out [] = true
runs_out (c ∷ []) = c is ch "\\"
runs_out (c ∷ e ∷ cs) = false

-- What stands at `p`, behind the opening quote; or the text ran out, and then all that is left was passed.
abbrev pub LetterAt : List ℕ → Position → Result code.Unit Position → Type 0
LetterAt s p (Ok u) =
    (runs_out (chars_at s p.offset) ≡ false) × UnitAt s p (letter_of (chars_at s p.offset)) u
LetterAt s p (Err q) =
    (runs_out (chars_at s p.offset) ≡ true) × Reach s p (chars_at s p.offset) q × (chars_at s q.offset ≡ [])

-- The closing quote stands at `p`, or its error is written.
unfoldable pub closed : List ℕ → Position → Bool
closed s p = next (exactly (ch "'")) (chars_at s p.offset)

pub record ClosedAt (s : List ℕ) (p : Position) (ut : ℕ) (errors errors' : List ℕ) (ue : ℕ) (r : Made) : Type 0 where
  pub at : r.at ≡ (if closed s p then onward p 1 else p)
  pub texts : r.texts ≡ ut
  pub written : Put errors errors' ue (error_bytes (unclosed (closed s p) UnterminatedCharacter p p)) r.errors
  pub ran_out : r.ran_out ≡ false

-- The character literal at `p`: its text is written from `ut` on, its errors from `ue` on.
pub record CharacterAt (s : List ℕ) (p : Position) (texts texts' : List ℕ) (ut : ℕ) (errors errors' : List ℕ) (ue : ℕ) (r : Made) : Type 0 where
  pub text : Text
  pub one : OneToken s p CharLiteral text r.at r.at
  pub made : Put texts texts' ut (encode text) r.texts
  pub written : Put errors errors' ue (error_bytes (errors_at s p)) r.errors
  pub open_end : (segment_at s p).open_end ≡ r.ran_out
  pub small : r.texts ≤ ut + 3 * (r.at.offset - p.offset)
  pub few : r.errors ≤ ue + LONGEST_ERROR * (r.at.offset - p.offset)
