-- The table of marks, by the classes of the first and the next mark.
use Rattle.std.specs.Prelude.{List, ℕ, zero, suc, leb, get_or, Option as Answer, if◌then◌else◌}
use Rattle.std.proofs.Math.Option.{Option, none, some}
use Rattle.rules.specs.Text.{Char}
use Rattle.rules.specs.Tables.{Row, MARKS, THIRDS, lookup}
use Rattle.bridge.specs.Bridge.{value_of}
use Rattle.lexemes.specs.Lists.{rows_of}
use Rattle.classes.specs.Classes.{mark_chars, LAST_MARK}

-- The mark of a class; 0, which is no mark, for the class 0.
unfoldable pub char_of : ℕ → Char
char_of zero = 0
char_of (suc i) = get_or mark_chars i 0

-- The class of the last mark that can be second, and how many columns a row has: one for each class up to it, and column 0.
abbrev pub LAST_COLUMN : ℕ
LAST_COLUMN = 11

abbrev pub COLUMNS : ℕ
COLUMNS = 12

-- The column of a next character's class: 0 for all that cannot be second.
unfoldable pub column_of : ℕ → ℕ
column_of k = if leb k LAST_COLUMN then k else 0

-- What a look-up found, or else a number.
unfoldable pub found_or : ℕ → Option ℕ → ℕ
found_or k none = k
found_or k (some x) = x

-- The kind of a first mark's row before the character `d`: that of the two, or that of the first alone.
unfoldable pub kind_in : Option Row → Char → ℕ
kind_in none d = 0
kind_in (some r) d = found_or r.alone (lookup d r.columns)

unfoldable pub pair_kind : Char → Char → ℕ
pair_kind c d = kind_in (lookup c MARKS) d

-- The kind with a third mark equal to the second, where there is one.
unfoldable pub third_kind : ℕ → Answer ℕ
third_kind k = value_of (lookup k THIRDS)

unfoldable pub mark_table : List (List ℕ)
mark_table = rows_of (λ i j. pair_kind (char_of (suc i)) (char_of j)) COLUMNS LAST_MARK
