-- The fields of a record (document 01, "Records"): where each lies, and how long the parts are, in bytes.
use Rattle.std.specs.Prelude.{ℕ}
pub use Rattle.rules.specs.Bounds.{WORD}

-- Two numbers of 4 bytes each.
abbrev pub PAIR : ℕ
PAIR = 8

-- A span: six such numbers. Where those after the first lie in it, and its length.
abbrev pub END : ℕ
END = 4

abbrev pub START_LINE : ℕ
START_LINE = 8

abbrev pub START_COL : ℕ
START_COL = 12

abbrev pub END_LINE : ℕ
END_LINE = 16

abbrev pub END_COL : ℕ
END_COL = 20

abbrev pub SPAN : ℕ
SPAN = 24

-- The head of every record: a kind and a span.
abbrev pub HEAD : ℕ
HEAD = 25

-- A text's offset and length, where the kind has them.
abbrev pub TEXT_OFFSET : ℕ
TEXT_OFFSET = 25

abbrev pub TEXT_LENGTH : ℕ
TEXT_LENGTH = 29

abbrev pub WITH_TEXT : ℕ
WITH_TEXT = 33

-- A code point, where the kind has one.
abbrev pub CODE_POINT : ℕ
CODE_POINT = 25

abbrev pub WITH_CODE : ℕ
WITH_CODE = 29

-- The longest record of a token, and of an error.
abbrev pub LONGEST_TOKEN : ℕ
LONGEST_TOKEN = WITH_TEXT

abbrev pub LONGEST_ERROR : ℕ
LONGEST_ERROR = WITH_CODE
