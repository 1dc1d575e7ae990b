-- Texts and the classes of characters. A character is its code point, and a text is a list of characters.
-- A quoted text stands for its characters: `text "val"` is the list 118, 97, 108, and `ch "a"` is 97.
use Rattle.std.specs.Prelude.{Bool, true, false, ◌&&◌, ◌||◌, List, [], ◌∷◌, ℕ, ◌-◌, if◌then◌else◌}
use Prim.Native.Char.{Char as Letter, code}
use Prim.Native.String.{String, [] as no_letter, ◌∷◌ as ◌letter_then◌}
use Rattle.characters.specs.Choice.{◌is◌, within}

abbrev pub Char : Type 0
Char = ℕ

abbrev pub Text : Type 0
Text = List Char

abbrev pub ch : Letter → Char
ch c = code c

abbrev pub text : String → Text
text no_letter = []
text (c letter_then s) = code c ∷ text s

-- The line feed.
abbrev pub LF : Char
LF = 10

-- The character is one of these.
unfoldable pub one_of : Text → Char → Bool
one_of [] c = false
one_of (d ∷ ds) c = c is d || one_of ds c

unfoldable pub is_empty : Text → Bool
is_empty [] = true
is_empty (c ∷ cs) = false

unfoldable pub same_text : Text → Text → Bool
same_text [] [] = true
same_text [] (d ∷ ds) = false
same_text (c ∷ cs) [] = false
same_text (c ∷ cs) (d ∷ ds) = c is d && same_text cs ds

-- `is_ascii_digit`, `is_ascii_alphabetic`
unfoldable pub is_digit : Char → Bool
is_digit c = within (ch "0") (ch "9") c

unfoldable pub is_letter : Char → Bool
is_letter c = within (ch "A") (ch "Z") c || within (ch "a") (ch "z") c

-- `is_hex_digit` (lexer.rs, lines 1259 to 1261)
unfoldable pub is_hex_digit : Char → Bool
is_hex_digit c = is_digit c || within (ch "A") (ch "F") c || within (ch "a") (ch "f") c

-- `is_ident_start` (lines 1251 to 1253)
unfoldable pub is_ident_start : Char → Bool
is_ident_start c = is_letter c || c is ch "_" || c is ch "$"

-- `is_ident_part` (lines 1255 to 1257)
unfoldable pub is_ident_part : Char → Bool
is_ident_part c = is_letter c || is_digit c || c is ch "_" || c is ch "$"

-- The value of a hexadecimal digit (`to_digit(16)`): `A` and `a` are 10.
unfoldable pub hex_value : Char → ℕ
hex_value c =
    if is_digit c then c - ch "0"
    else if within (ch "A") (ch "F") c then c - (ch "A" - 10)
    else c - (ch "a" - 10)
