-- The office print of a script (order 2): its elements written again in one layout.
use Rattle.std.specs.Prelude.{Bool, true, false, ◌&&◌, ◌||◌, not, List, [], ◌∷◌, ◌++◌, ℕ, ◌+◌, ◌-◌, ◌/◌, ◌%◌, leb, if◌then◌else◌}
use Rattle.characters.specs.Choice.{◌is◌}
use Rattle.characters.specs.Utf8.{encode}
use Rattle.rules.specs.Text.{Char, Text, ch, text, LF, one_of, is_empty, is_letter, is_digit}
use Rattle.rules.specs.Scan.{starts_with}
use Rattle.rules.specs.Tables.{CharLiteral, DoubleColonT, StringInterpStart, DocComment}
use Rattle.rules.specs.Docs.{lines}
use Rattle.rules.specs.Script.{script_text}
use Rattle.prints.specs.Elements.{Word, Element, lone, string, elements}

-- ── Escapes ──

-- A lower-case hex digit.
unfoldable pub hex_digit : ℕ → Char
hex_digit n = if leb n 9 then n + ch "0" else n + (ch "a" - 10)

-- A character below U+0100 by its number: `\u`, four lower-case hex digits.
unfoldable pub unicode : Char → Text
unicode c = text "\\u00" ++ (hex_digit (c / 16) ∷ hex_digit (c % 16) ∷ [])

-- A character between quotes of the sort `q`: escaped are the backslash and the quote itself, the line feed, and in a string every `$`.
unfoldable pub escaped : Char → Char → Text
escaped q c =
    if c is ch "\\" || c is q then ch "\\" ∷ c ∷ []
    else if c is LF then text "\\n"
    else if c is ch "$" && q is ch "\"" then text "\\u0024"
    else c ∷ []

unfoldable pub escapes : Char → Text → Text
escapes q [] = []
escapes q (c ∷ cs) = escaped q c ++ escapes q cs

-- ── Strings ──

-- An ASCII letter, an ASCII digit or an underscore.
unfoldable pub is_word : Char → Bool
is_word c = is_letter c || is_digit c || c is ch "_"

-- A literal piece. `named` says that a `$name` stands right before it.
unfoldable pub literal : Bool → Text → Text
literal named [] = []
literal named (c ∷ cs) = (if named && is_word c then unicode c else escaped (ch "\"") c) ++ escapes (ch "\"") cs

-- What parts a `$name` from a 121 right after it.
unfoldable pub parting : Bool → Text
parting named = if named then text "\\uD800" else []

-- A 121 of a string is a `$name` or begins with `${`.
unfoldable pub is_name : Text → Bool
is_name t = not (starts_with (text "${") t)

-- The pieces of a string. `named` says that a `$name` stands right before them.
unfoldable pub pieces : Bool → List Word → Text
pieces named [] = []
pieces named (w ∷ ws) =
    if w.kind is StringInterpStart then parting named ++ (w.text ++ pieces (is_name w.text) ws)
    else literal named w.text ++ pieces false ws

-- ── Characters and doc comments ──

unfoldable pub character : Text → Text
character t = if is_empty t then text "'\\uD800'" else text "'" ++ (escapes (ch "'") t ++ text "'")

unfoldable pub doc_lines : List Text → Text
doc_lines [] = []
doc_lines (l ∷ ls) = text "* " ++ (l ++ (LF ∷ doc_lines ls))

-- A doc text with a line feed is longer than one line.
unfoldable pub doc : Text → Text
doc t = if one_of t LF then text "/**\n" ++ (doc_lines (lines t) ++ text "*/") else text "/// " ++ t

-- ── The elements, printed ──

unfoldable pub emitted : Element → Text
emitted (string ws) = text "\"" ++ (pieces false ws ++ text "\"")
emitted (lone w) =
    if w.kind is CharLiteral then character w.text
    else if w.kind is DoubleColonT then text ":="
    else if w.kind is StringInterpStart then text "${}"
    else if w.kind is DocComment then doc w.text
    else w.text

-- ── The layout ──

unfoldable pub is_doc : Element → Bool
is_doc (string ws) = false
is_doc (lone w) = w.kind is DocComment

-- What stands behind an element: a line feed behind a doc comment; a space behind another element, and nothing behind the last.
unfoldable pub gap : Bool → List Element → Text
gap true ts = LF ∷ []
gap false [] = []
gap false (t ∷ ts) = ch " " ∷ []

unfoldable pub layout : List Element → Text
layout [] = []
layout (t ∷ ts) = emitted t ++ (gap (is_doc t) ts ++ layout ts)

-- The print of a text.
unfoldable pub print_text : Text → Text
print_text cs = layout (elements cs)

-- The print of a script given by its bytes.
unfoldable pub print_bytes : List ℕ → List ℕ
print_bytes s = encode (print_text (script_text s))
