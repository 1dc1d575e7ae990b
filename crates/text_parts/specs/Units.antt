-- The text of a string's piece in parts.
use Rattle.std.specs.Prelude.{◌≡◌, true, false, not, List, ℕ, ◌<◌, Option, Some, None}
use Rattle.characters.specs.Utf8.{chars_at, encode}
use Rattle.spans.specs.declared.Position.{Position}
use Rattle.rules.specs.Text.{ch, is_empty}
use Rattle.cursor.specs.Strings.{stands}
use Rattle.bridge.specs.Bridge.{Within, is_plain, PastRun}
use Rattle.string_units.specs.declared.Made.{Made}
use Rattle.string_units.specs.declared.Made.TheVariants as made
use Rattle.string_runs.specs.Runs.{run_made, Units}
use Rattle.text_parts.specs.Parts.{part_bytes, PartWithin}
use Rattle.text_parts.specs.declared.Part.{Part}
use Rattle.text_parts.specs.declared.Part.TheVariants as part
use Rattle.text_parts.specs.declared.units.Step.{Step}

-- The part that a unit from one place to another makes.
abbrev pub part_of : ℕ → ℕ → Made → Part
part_of from to made.Nothing = part.Nothing
part_of from to made.Own = part.Bytes from to
part_of from to (made.Char c) = part.Char c

-- What the units from a position on still give: the text of the piece that begins there.
abbrev pub text_left : List ℕ → Position → List ℕ
text_left s p = encode (run_made s p)

-- The next part: the units from `p` on are it, and then the units from where it ends; `notes` are its errors. Where it says so, it is all
-- the plain characters at `p`.
pub record GoesOn (s : List ℕ) (p : Position) (r : Step) : Type 0 where
  pub notes : List ℕ
  pub end : Position
  pub ends : end.offset ≡ r.at
  pub units : Units s p end (part_bytes s r.part) notes
  pub inside : PartWithin s r.part
  pub plain :
      r.plain ≡ true → (r.part ≡ part.Bytes p.offset end.offset) × PastRun (is_plain (ch "\"") (ch "$") (ch "\\")) s p end
  pub bad : r.bad ≡ not (is_empty notes)
  pub forth : p.offset < end.offset

-- The next part, or no unit stands there.
abbrev pub NextBy : List ℕ → Position → Option Step → Type 0
NextBy s p (Some r) = GoesOn s p r
NextBy s p None = stands (chars_at s p.offset) ≡ false

-- The next part from a place on, whatever line and column it has.
abbrev pub NextAt : List ℕ → ℕ → Option Step → Type 0
NextAt s at r = (p : Position) → p.offset ≡ at → Within s p → NextBy s p r
