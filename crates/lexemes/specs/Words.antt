-- Words: what their scanners promise.
use Rattle.std.specs.Prelude.{◌≡◌, List, ◌++◌, ℕ, ◌+◌, ◌≤◌, length, if◌then◌else◌}
use Rattle.std.proofs.Math.Seq.{slice}
use Rattle.characters.specs.Choice.{◌is◌}
use Rattle.characters.specs.Utf8.{chars_at}
use Rattle.rules.specs.Text.{Text, text}
use Rattle.rules.specs.Tables.{DoubleColonT}
use Rattle.rules.specs.Segment.{Segment, piece, token}
use Rattle.bridge.specs.Bridge.{Flat}

-- The text of a word: its characters, but for the kind that has a spelling of its own.
unfoldable pub word_text : ℕ → Text → Text
word_text k t = if k is DoubleColonT then text "::=" else t

-- A segment that is one word: the `n` bytes from `at` on, each a character of one line, with a token of the kind `k` whose span
-- ends `e` characters behind its start, no error, and closed.
pub record WordAt (s : List ℕ) (at : ℕ) (g : Segment) (k n e : ℕ) : Type 0 where
  pub same : g ≡ token (slice at (at + n) s) (piece k (word_text k (slice at (at + n) s)) e)
  pub whole : chars_at s at ≡ slice at (at + n) s ++ chars_at s (at + n)
  pub flat : Flat (slice at (at + n) s)
  pub inside : at + n ≤ length s
  pub some : 1 ≤ n
  pub short : e ≤ n
