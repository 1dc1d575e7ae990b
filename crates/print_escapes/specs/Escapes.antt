-- Places of a print, and the bytes between quotes that are written as they stand.
use Rattle.std.specs.Prelude.{◌≡◌, Bool, true, ◌&&◌, ◌||◌, List, ℕ, ◌≤◌, ◌<◌, get_or}
use Rattle.std.proofs.Math.Seq.{slice}
use Rattle.characters.specs.Choice.{◌is◌}
use Rattle.rules.specs.Text.{Char, ch, LF}
use Rattle.prints.specs.Print.{escapes}

-- The places up to which a part of a print is asked for: more than a print has, and so far below the places that a write is asked for
-- that what is added still has places. It is asked and is no type, as PLACES.
abbrev pub MOST : ℕ
MOST = 1099511627776

-- A character between quotes of the sort `q` that is not written as it stands.
unfoldable pub is_escaped : Char → Char → Bool
is_escaped q c = c is ch "\\" || c is q || c is LF || (c is ch "$" && q is ch "\"")

-- The bytes from a place up to `r` are written as they stand, and the byte at `r` is not, unless that is the end.
pub record PastBare (q : Char) (s : List ℕ) (from to r : ℕ) : Type 0 where
  pub forth : from ≤ r
  pub inside : r ≤ to
  pub bare : escapes q (slice from r s) ≡ slice from r s
  pub stops : r < to → is_escaped q (get_or s r 0) ≡ true
