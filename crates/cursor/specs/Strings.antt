-- What stands inside a string: units and interpolations. Neither depends on its place in the string or on what stands before it.
use Rattle.std.specs.Prelude.{Bool, true, false, not, List, [], ◌∷◌, ◌++◌, ℕ, zero, suc, take, drop, if◌then◌else◌}
use Rattle.characters.specs.Choice.{◌is◌}
use Rattle.spans.specs.declared.Position.{Position}
use Rattle.rules.specs.Text.{Char, Text, ch, text, LF, is_ident_part}
use Rattle.rules.specs.Scan.{next, starts_with, run, Upto, up_to, closing}
use Rattle.rules.specs.Tokens.{TokenizeError}
use Rattle.rules.specs.Segment.{Fault, string, skipped}
use Rattle.rules.specs.Strings.{escape, other_escape, is_interp_start}
use Rattle.rules.specs.Lexer.{size_behind_first, advance, errors_of}

-- ── Units ──

-- A unit is a character or an escape: the characters that it takes, the text that it makes, and its errors, with places that count
-- from its first character.
pub record StringUnit : Type 0 where
  pub chars : Text
  pub made : Text
  pub faults : List Fault

unfoldable pub plain_unit : Char → StringUnit
plain_unit c = record { chars = c ∷ []; made = c ∷ []; faults = [] }

-- An escape (lexer.rs, lines 643 to 700): `cs` is what stands behind the backslash.
unfoldable pub escape_unit : Text → StringUnit
escape_unit [] = record { chars = ch "\\" ∷ []; made = []; faults = [] }
escape_unit (e ∷ cs) =
    let x = escape 1 (other_escape 1 e) e cs in
    record { chars = ch "\\" ∷ e ∷ take x.extra cs; made = x.text; faults = x.faults }

-- The unit at the front of a text.
unfoldable pub unit_of : Text → StringUnit
unit_of [] = record { chars = []; made = []; faults = [] }
unit_of (c ∷ cs) = if c is ch "\\" then escape_unit cs else plain_unit c

-- A unit stands at the front of the text: no line feed, no quote and no interpolation (lines 628 to 641 and 701 to 706).
unfoldable pub stands : Text → Bool
stands [] = false
stands (c ∷ cs) =
    if c is LF then false
    else if c is ch "\"" then false
    else if c is ch "$" then not (next is_interp_start cs)
    else true

-- The errors of a unit whose first character stands at `p`.
unfoldable pub unit_errors : Position → StringUnit → List TokenizeError
unit_errors p u = errors_of p (skipped string u.chars u.faults false) u.faults

-- ── The units of a part of a text ──

-- What the units of the next `k` characters make: `skip` of these characters belong to the unit before.
unfoldable pub made_from : ℕ → ℕ → Text → Text
made_from skip zero cs = []
made_from skip (suc k) [] = []
made_from (suc skip) (suc k) (c ∷ cs) = made_from skip k cs
made_from zero (suc k) (c ∷ cs) =
    let u = unit_of (c ∷ cs) in
    u.made ++ made_from (size_behind_first u.chars) k cs

unfoldable pub units_made : ℕ → Text → Text
units_made k cs = made_from 0 k cs

-- Their errors, where the first character stands at `p`.
unfoldable pub errors_from : ℕ → ℕ → Position → Text → List TokenizeError
errors_from skip zero p cs = []
errors_from skip (suc k) p [] = []
errors_from (suc skip) (suc k) p (c ∷ cs) = errors_from skip k (advance p c) cs
errors_from zero (suc k) p (c ∷ cs) =
    let u = unit_of (c ∷ cs) in
    unit_errors p u ++ errors_from (size_behind_first u.chars) k (advance p c) cs

unfoldable pub units_errors : ℕ → Position → Text → List TokenizeError
units_errors k p cs = errors_from 0 k p cs

-- How many characters the units at the front of a text take: all before the first place where none stands.
unfoldable pub ahead_from : ℕ → Text → ℕ
ahead_from skip [] = 0
ahead_from (suc skip) (c ∷ cs) = suc (ahead_from skip cs)
ahead_from zero (c ∷ cs) =
    let more = suc (ahead_from (size_behind_first (unit_of (c ∷ cs)).chars) cs) in
    if stands (c ∷ cs) then more else 0

unfoldable pub units_ahead : Text → ℕ
units_ahead cs = ahead_from 0 cs

-- ── Interpolations ──

-- An interpolation: the characters that it takes, the text of its token, and whether the text ran out in it.
pub record Interpolation : Type 0 where
  pub chars : Text
  pub text : Text
  pub open_end : Bool

-- `${` and what `u` tells, up to the next brace (lines 711 to 737). The token's text has the brace even where the text ran out.
unfoldable pub braces : Upto → Interpolation
braces u =
    record {
      chars = text "${" ++ (u.before ++ closing (text "}") u);
      text = text "${" ++ (u.before ++ text "}");
      open_end = u.open_end;
    }

-- `$` and a name (lines 738 to 755).
unfoldable pub named : Text → Interpolation
named name = record { chars = ch "$" ∷ name; text = ch "$" ∷ name; open_end = false }

-- The interpolation at a dollar sign that stands before `cs`.
unfoldable pub interpolation_of : Text → Interpolation
interpolation_of cs =
    if starts_with (text "{") cs then braces (up_to (text "}") (drop 1 cs)) else named (run is_ident_part cs).taken
