-- The cleaned text of a doc comment, line by line.
use Rattle.std.specs.Prelude.{Bool, List, [], ◌∷◌, ◌++◌, map, ℕ, ◌+◌, ◌≤◌, length, replicate, if◌then◌else◌, Option, Some, None}
use Rattle.characters.specs.Choice.{◌is◌}
use Rattle.characters.specs.Utf8.{chars_at, encode}
use Rattle.rules.specs.Text.{Text, LF, is_empty}
use Rattle.rules.specs.Docs.{lines, clean_line}
use Rattle.output.specs.Writing.{Put}

-- What a line adds: nothing where it is empty, else the line feeds that wait, and the line.
unfoldable pub line_text : ℕ → Text → Text
line_text k l = if is_empty l then [] else (replicate k LF ++ l)

-- The largest number of the code.
abbrev pub LARGEST : ℕ
LARGEST = 0xFFFFFFFFFFFFFFFF

-- The line feeds that wait after a line, by whether it is empty: none before the first line that is not, one after such a line, and
-- one more after each empty line.
unfoldable pub feeds_after : ℕ → Bool → ℕ
feeds_after k empty = if empty then (if k is 0 then 0 else (k + 1)) else 1

unfoldable pub lines_text : ℕ → List Text → Text
lines_text k [] = []
lines_text k (l ∷ ls) = line_text k l ++ lines_text (feeds_after k (is_empty l)) ls

-- The cleaned lines of `s` from a place on, if there are any.
abbrev pub lines_from : List ℕ → Option ℕ → List Text
lines_from s None = []
lines_from s (Some at) = map clean_line (lines (chars_at s at))

-- A text was written from a place on, with no more bytes than the part has.
pub record Written (s old new : List ℕ) (at : ℕ) (t : Text) (r : ℕ) : Type 0 where
  pub put : Put old new at (encode t) r
  pub small : r ≤ at + length s
