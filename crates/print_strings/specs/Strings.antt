-- What the functions of a string's print promise.
use Rattle.std.specs.Prelude.{◌≡◌, Bool, true, false, ◌&&◌, List, [], ◌++◌, ℕ, ◌+◌, ◌*◌, ◌-◌, ◌≤◌, Result, Ok, Err}
use Rattle.characters.specs.Utf8.{chars_at, encode}
use Rattle.spans.specs.declared.Position.{Position}
use Rattle.rules.specs.Text.{is_empty}
use Rattle.cursor.specs.Strings.{stands}
use Rattle.bridge.specs.Bridge.{Within, Reach}
use Rattle.output.specs.Writing.{Put}
use Rattle.string_runs.specs.Runs.{run_chars, run_made, run_errors}
use Rattle.interpolations.specs.Interpolations.{interpolation_at}
use Rattle.prints.specs.Print.{literal, parting, is_name}
use Rattle.text_parts.specs.Parts.{part_bytes}
use Rattle.print_places.specs.declared.Flawed.{Flawed}
use Rattle.text_parts.specs.declared.Part.{Part}
use Rattle.text_parts.specs.declared.Part.TheVariants as part
use Rattle.print_places.specs.Places.{no_errors}
use Rattle.print_strings.specs.declared.Row.{Row}

-- A part as it is written, and whether a `$name` stands right before what follows it.
abbrev pub emitted_part : Bool → List ℕ → Part → List ℕ
emitted_part named s x = literal named (part_bytes s x)

abbrev pub named_behind : Bool → Part → Bool
named_behind named (part.Bytes from to) = false
named_behind named (part.Char c) = false
named_behind named part.Nothing = named

-- Where a row of units or an interpolation ends: a position, the place behind its bytes, and whether a `$name` stands right before what
-- follows. The code has the place of the position alone.
pub record Spot : Type 0 where
  pub at : Position
  pub out : ℕ
  pub named : Bool

abbrev pub spot_of : Position → Row → Spot
spot_of p r = record { at = p; out = r.out; named = r.named }

-- The units from `p` on, up to where none stands, without an error: what they make was written as a literal.
pub record RowWritten (s : List ℕ) (p : Position) (named : Bool) (out out' : List ℕ) (at : ℕ) (r : Spot) : Type 0 where
  pub reach : Reach s p (run_chars s p) r.at
  pub stops : stands (chars_at s r.at.offset) ≡ false
  pub right : run_errors s p ≡ []
  pub put : Put out out' at (literal named (encode (run_made s p))) r.out
  pub name : r.named ≡ (named && is_empty (run_made s p))
  pub forth : p.offset ≤ r.at.offset
  pub small : r.out ≤ at + 6 * (r.at.offset - p.offset)

abbrev pub RowBy : List ℕ → Position → Bool → List ℕ → List ℕ → ℕ → Result Row Flawed → Type 0
RowBy s p named out out' at (Ok r) = (e : Position) × (e.offset ≡ r.at) × RowWritten s p named out out' at (spot_of e r)
RowBy s p named out out' at (Err e) = no_errors (run_errors s p) ≡ false

-- The units from a place on, whatever line and column it has.
abbrev pub RowAt : List ℕ → ℕ → Bool → List ℕ → List ℕ → ℕ → Result Row Flawed → Type 0
RowAt s from named out out' at r = (p : Position) → p.offset ≡ from → Within s p → RowBy s p named out out' at r

-- The interpolation at `p`, closed, was written; or it is not closed.
pub record InterpolationWritten (s : List ℕ) (p : Position) (named : Bool) (out out' : List ℕ) (at : ℕ) (r : Spot) : Type 0 where
  pub reach : Reach s p (interpolation_at s p).chars r.at
  pub shut : (interpolation_at s p).open_end ≡ false
  pub put : Put out out' at (parting named ++ encode (interpolation_at s p).text) r.out
  pub name : r.named ≡ is_name (encode (interpolation_at s p).text)
  pub forth : p.offset ≤ r.at.offset
  pub small : r.out ≤ at + 7 * (r.at.offset - p.offset)

abbrev pub InterpolationBy : List ℕ → Position → Bool → List ℕ → List ℕ → ℕ → Result Row Flawed → Type 0
InterpolationBy s p named out out' at (Ok r) = (e : Position) × (e.offset ≡ r.at) × InterpolationWritten s p named out out' at (spot_of e r)
InterpolationBy s p named out out' at (Err _) =
    (e : Position) × ((interpolation_at s p).open_end ≡ true) × Reach s p (interpolation_at s p).chars e

-- The interpolation at a place, whatever line and column it has.
abbrev pub InterpolationAt : List ℕ → ℕ → Bool → List ℕ → List ℕ → ℕ → Result Row Flawed → Type 0
InterpolationAt s from named out out' at r = (p : Position) → p.offset ≡ from → Within s p → InterpolationBy s p named out out' at r
