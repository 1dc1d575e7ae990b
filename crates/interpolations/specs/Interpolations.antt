-- What the functions of an interpolation promise.
use Rattle.std.specs.Prelude.{◌≡◌, Bool, not, List, [], ◌∷◌, ℕ, ◌+◌, length, if◌then◌else◌}
use Rattle.characters.specs.Utf8.{chars_at, encode}
use Rattle.spans.specs.declared.Position.{Position}
use Rattle.rules.specs.Text.{ch}
use Rattle.rules.specs.Tables.{StringInterpStart}
use Rattle.rules.specs.Lexer.{span}
use Rattle.cursor.specs.declared.Cursor.TheVariants.{InString}
use Rattle.cursor.specs.Strings.{Interpolation, interpolation_of}
use Rattle.cursor.specs.Cursor.{position, interpolation_errors}
use Rattle.bridge.specs.Bridge.{Reach}
use Rattle.output.specs.Writing.{Put}
use Rattle.walks.specs.declared.Closing.{Closing}
use Rattle.records.specs.Layout.{error_bytes}
use Rattle.interpolations.specs.declared.Given.{Given}

-- The interpolation whose dollar sign stands at `p`.
abbrev pub interpolation_at : List ℕ → Position → Interpolation
interpolation_at s p = interpolation_of (chars_at s (p.offset + 1))

-- It ends where `c` says, and is closed or not.
pub record PastAt (s : List ℕ) (p : Position) (c : Closing) : Type 0 where
  pub reach : Reach s p (interpolation_at s p).chars c.at
  pub same : (interpolation_at s p).open_end ≡ not c.found

-- The brace that is missing where no closing brace was found.
unfoldable pub missing : Bool → List ℕ
missing found = if found then [] else ch "}" ∷ []

-- The token of the interpolation at `p`, in the string that began at `start`: its text is written at `ut` of the texts, its errors
-- at `ue` of the errors, and the next cursor stands behind it, inside the string.
pub record InterpolationAt (s : List ℕ) (p start : Position) (texts texts' : List ℕ) (ut : ℕ) (errors errors' : List ℕ) (ue : ℕ) (r : Given) : Type 0 where
  pub next : r.next ≡ InString start (position r.next)
  pub reach : Reach s p (interpolation_at s p).chars (position r.next)
  pub kind : r.token.kind ≡ StringInterpStart
  pub span : r.token.span ≡ span start (position r.next)
  pub offset : r.token.offset ≡ ut
  pub size : r.token.length ≡ length (encode (interpolation_at s p).text)
  pub ran_out : r.ran_out ≡ (interpolation_at s p).open_end
  pub made : Put texts texts' ut (encode (interpolation_at s p).text) r.texts
  pub noted : Put errors errors' ue (error_bytes (interpolation_errors (position r.next) (interpolation_at s p))) r.errors
