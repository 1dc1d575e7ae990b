-- What the functions of one unit promise.
use Rattle.std.specs.Prelude.{◌≡◌, true, false, List, [], ◌∷◌, ◌++◌, ℕ, ◌+◌, ◌≤◌, ◌<◌, length, take, Option, Some, None}
use Rattle.std.proofs.Math.Option.{none, some}
use Rattle.std.proofs.Math.Seq.{slice}
use Rattle.characters.specs.Utf8.{chars_at, encode, encode_char}
use Rattle.spans.specs.declared.Position.{Position}
use Rattle.spans.specs.declared.Span.{Span}
use Rattle.rules.specs.Text.{Text, text}
use Rattle.rules.specs.Tokens.{TokenizeError}
use Rattle.rules.specs.Tables.{BadUnicodeEscape, BadEscape}
use Rattle.rules.specs.Strings.{hex_code, unicode_escape}
use Rattle.rules.specs.Lexer.{span}
use Rattle.cursor.specs.Strings.{StringUnit, unit_of, stands, unit_errors}
use Rattle.bridge.specs.Bridge.{onward, Reach}
use Rattle.string_units.specs.declared.Made.{Made}
use Rattle.string_units.specs.declared.Made.TheVariants as made
use Rattle.string_units.specs.declared.Mistake.{Mistake}
use Rattle.string_units.specs.declared.Mistake.TheVariants as mistake
use Rattle.string_units.specs.declared.Unit as code

abbrev pub backslash : Text
backslash = text "\\"

abbrev pub backslash_u : Text
backslash_u = text "\\u"

-- The unit of a backslash and a u; `cs` is what stands behind them.
unfoldable pub unicode_unit : Text → StringUnit
unicode_unit cs =
    let x = unicode_escape 1 (hex_code 4 0 cs) in
    record { chars = backslash_u ++ take x.extra cs; made = x.text; faults = x.faults }

-- The bytes that a unit makes, whose own bytes are `own`.
abbrev pub made_of : List ℕ → Made → List ℕ
made_of own made.Nothing = []
made_of own made.Own = own
made_of own (made.Char c) = encode_char c

-- The same, of a unit from the place `from` to the place `to`.
abbrev pub made_bytes : List ℕ → ℕ → ℕ → Made → List ℕ
made_bytes s from to m = made_of (slice from to s) m

-- A character that is made can be encoded.
abbrev pub IsChar : Made → Type 0
IsChar made.Nothing = Unit {0}
IsChar made.Own = Unit {0}
IsChar (made.Char c) = c ≤ 0x10FFFF

-- The span of an error that stands behind the backslash at `p`.
abbrev pub span_behind : Position → Span
span_behind p = span (onward p 1) (onward p 1)

-- The errors of a unit at the position `p`.
abbrev pub mistakes : Position → Option Mistake → List TokenizeError
mistakes p None = []
mistakes p (Some mistake.BadUnicode) = record { kind = BadUnicodeEscape; span = span_behind p; char = none } ∷ []
mistakes p (Some (mistake.BadEscape e)) = record { kind = BadEscape; span = span_behind p; char = some e } ∷ []

-- The unit `u` of the rules, at the position `p`.
pub record UnitAt (s : List ℕ) (p : Position) (u : StringUnit) (r : code.Unit) : Type 0 where
  pub reach : Reach s p u.chars r.next
  pub made : encode u.made ≡ made_bytes s p.offset r.next.offset r.made
  pub errors : unit_errors p u ≡ mistakes p r.mistake
  pub char : IsChar r.made
  pub forth : p.offset < r.next.offset
  pub small : p.offset + length (encode u.made) ≤ r.next.offset

-- The unit at a position, or none stands there.
abbrev pub FoundAt : List ℕ → Position → Option code.Unit → Type 0
FoundAt s p (Some r) = (stands (chars_at s p.offset) ≡ true) × UnitAt s p (unit_of (chars_at s p.offset)) r
FoundAt s p None = stands (chars_at s p.offset) ≡ false

abbrev pub plain_found : Position → Option code.Unit
plain_found q = Some (record { next = q; made = made.Own; mistake = None })
