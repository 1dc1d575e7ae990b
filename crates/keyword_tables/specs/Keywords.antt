-- The tables of keywords.
use Rattle.std.specs.Prelude.{List, [], ◌∷◌, ℕ, suc, ◌+◌, ◌-◌, ◌*◌, ◌/◌, ◌%◌, length, get_or, if◌then◌else◌}
use Rattle.characters.specs.Choice.{◌is◌}
use Rattle.rules.specs.Text.{Text}
use Rattle.rules.specs.Tables.{Ident, KEYWORDS}
use Rattle.lexemes.specs.Lists.{table_of, rows_of}

-- How many slots there are.
abbrev pub SLOT_COUNT : ℕ
SLOT_COUNT = 256

-- How many letters the longest keyword has.
abbrev pub LONGEST : ℕ
LONGEST = 9

-- The rows of the table of keywords, and its columns: the length, LONGEST letters, the kind.
abbrev pub ROWS : ℕ
ROWS = 60

abbrev pub KIND_COLUMN : ℕ
KIND_COLUMN = 10

abbrev pub COLUMNS : ℕ
COLUMNS = 11

-- The multipliers of a slot. They were found by search, so that no two keywords share a slot.
abbrev pub MIDDLE_FACTOR : ℕ
MIDDLE_FACTOR = 2

abbrev pub LAST_FACTOR : ℕ
LAST_FACTOR = 33

abbrev pub LENGTH_FACTOR : ℕ
LENGTH_FACTOR = 42

-- The keywords of a list: the words whose kind is not that of a name.
unfoldable pub keywords_of : List (Text × ℕ) → List (Text × ℕ)
keywords_of [] = []
keywords_of (row ∷ rows) = if row.1 is Ident then keywords_of rows else row ∷ keywords_of rows

-- Row 0 is no keyword, and then each has a row.
unfoldable pub keyword_rows : List (Text × ℕ)
keyword_rows = ([], Ident) ∷ keywords_of KEYWORDS

unfoldable pub letters_of : ℕ → Text
letters_of row = (get_or keyword_rows row ([], Ident)).0

unfoldable pub kind_of : ℕ → ℕ
kind_of row = (get_or keyword_rows row ([], Ident)).1

-- The slot of a word, by its first, middle and last character and its length.
unfoldable pub slot_of : Text → ℕ
slot_of t =
    (get_or t 0 0 + MIDDLE_FACTOR * get_or t (length t / 2) 0 + LAST_FACTOR * get_or t (length t - 1) 0 + LENGTH_FACTOR * length t)
    % SLOT_COUNT

-- The first row that has a slot, counted from `i`; 0 where there is none.
unfoldable pub row_from : ℕ → List (Text × ℕ) → ℕ → ℕ
row_from i [] slot = 0
row_from i (row ∷ rows) slot = if slot_of row.0 is slot then i else row_from (suc i) rows slot

unfoldable pub row_of : ℕ → ℕ
row_of slot = row_from 1 (keywords_of KEYWORDS) slot

unfoldable pub slot_table : List ℕ
slot_table = table_of row_of SLOT_COUNT

-- A row of the table: the length, the letters (0 past the end) and the kind.
unfoldable pub keyword_entry : ℕ → ℕ → ℕ
keyword_entry row j =
    if j is 0 then length (letters_of row)
    else if j is KIND_COLUMN then kind_of row
    else get_or (letters_of row) (j - 1) 0

unfoldable pub keyword_table : List (List ℕ)
keyword_table = rows_of keyword_entry COLUMNS ROWS
