-- The classes of the ASCII characters, by what begins with one: the choice of `next_token` (lexer.rs, lines 193 to 257).
use Rattle.std.specs.Prelude.{List, [], ◌∷◌, ℕ, suc, leb, if◌then◌else◌}
use Rattle.characters.specs.Choice.{◌is◌}
use Rattle.characters.specs.Space.{is_white}
use Rattle.rules.specs.Text.{Char, Text, ch, text, is_digit, is_ident_start}
use Rattle.lexemes.specs.Lists.{table_of}

-- The marks, in the order of their classes, from 1. Those that can be second come first: 11 of them.
unfoldable pub mark_chars : Text
mark_chars = text "=+-><|&:.?!*/%(){}[],;@#^"

-- The class of the last of them.
abbrev pub LAST_MARK : ℕ
LAST_MARK = 25

-- The place of a character in a text whose first place is `i`; 0 where it is not there.
unfoldable pub place_from : ℕ → Text → Char → ℕ
place_from i [] c = 0
place_from i (d ∷ ds) c = if c is d then i else place_from (suc i) ds c

abbrev pub OTHER : ℕ
OTHER = 0

abbrev pub SLASH : ℕ
SLASH = 13

abbrev pub SPACE : ℕ
SPACE = 26

abbrev pub APOSTROPHE : ℕ
APOSTROPHE = 27

abbrev pub QUOTE : ℕ
QUOTE = 28

abbrev pub DOLLAR : ℕ
DOLLAR = 29

abbrev pub LETTER : ℕ
LETTER = 30

abbrev pub DIGIT : ℕ
DIGIT = 31

-- How many characters ASCII has.
abbrev pub ASCII : ℕ
ASCII = 128

-- The class of a byte; one that is no ASCII character is of the class OTHER.
unfoldable pub class_of : ℕ → ℕ
class_of b =
    if leb ASCII b then OTHER
    else if is_white b then SPACE
    else if b is ch "$" then DOLLAR
    else if b is ch "\"" then QUOTE
    else if b is ch "'" then APOSTROPHE
    else if is_digit b then DIGIT
    else if is_ident_start b then LETTER
    else place_from 1 mark_chars b

unfoldable pub class_table : List ℕ
class_table = table_of class_of ASCII
