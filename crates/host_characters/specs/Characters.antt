-- What the host's calls on characters answer, as numbers.
use Rattle.std.specs.Prelude.{ℕ, List, drop, Option, Some, None}
use Rattle.characters.specs.Utf8.{bad_class}

-- 0 for a yes, else the number of the refusal.
unfoldable pub check_number : List ℕ → Option ℕ → ℕ
check_number s None = 0
check_number s (Some at) = bad_class (drop at s)

-- The figure: a yes keeps what was there.
unfoldable pub check_figure : Option ℕ → ℕ → ℕ
check_figure None old = old
check_figure (Some at) old = at

-- The bytes written, 0 for a refusal.
unfoldable pub written : Option ℕ → ℕ
written (Some n) = n
written None = 0
