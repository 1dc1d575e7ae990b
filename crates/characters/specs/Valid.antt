-- The check of a text from a place on, for the functions that rely on it.
use Rattle.std.specs.Prelude.{List, ℕ, drop, Option}
use Rattle.characters.specs.Utf8.{check_past}

-- The first bad sequence from a place on.
unfoldable pub bad_from : List ℕ → ℕ → Option ℕ
bad_from s at = check_past (drop at s) 0 at
