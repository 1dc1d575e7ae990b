-- The parts of a doc text of more than one line.
use Rattle.std.specs.Prelude.{◌≡◌, false, List, ℕ, ◌≤◌, length}
use Rattle.std.proofs.Math.Seq.{slice}
use Rattle.rules.specs.Text.{LF, one_of}
use Rattle.text_parts.specs.declared.Part.{Part}
use Rattle.text_parts.specs.declared.Part.TheVariants as part

-- Bytes of the slice without a line feed, or a line feed.
abbrev pub LinePart : List ℕ → Part → Type 0
LinePart s (part.Bytes from to) = (from ≤ to) × (to ≤ length s) × (one_of (slice from to s) LF ≡ false)
LinePart s (part.Char c) = c ≡ LF
LinePart s part.Nothing = Unit {0}
