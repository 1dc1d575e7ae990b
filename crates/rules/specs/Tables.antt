-- The tables of the lexer: kinds, keywords, marks, escapes. A kind is its place in `TokenKind` (token.rs, lines 6 to 158), from 0.
use Rattle.std.specs.Prelude.{List, [], ◌∷◌, ℕ, if◌then◌else◌}
use Rattle.std.proofs.Math.Option.{Option, none, some}
use Rattle.characters.specs.Choice.{◌is◌}
use Rattle.rules.specs.Text.{Char, Text, ch, text, same_text}

-- The kinds of tokens that the rules and the records name. (`Unit` of token.rs has another name here, since the library has one of
-- its own.)
abbrev pub IntLiteral : ℕ
IntLiteral = 0

abbrev pub FloatLiteral : ℕ
FloatLiteral = 1

abbrev pub StringLiteral : ℕ
StringLiteral = 2

abbrev pub CharLiteral : ℕ
CharLiteral = 3

abbrev pub Ident : ℕ
Ident = 5

abbrev pub UnitKeyword : ℕ
UnitKeyword = 39

abbrev pub LtLt : ℕ
LtLt = 94

abbrev pub GtGt : ℕ
GtGt = 95

abbrev pub GtGtGt : ℕ
GtGtGt = 96

abbrev pub DoubleColonT : ℕ
DoubleColonT = 114

abbrev pub DoubleDotOp : ℕ
DoubleDotOp = 116

abbrev pub TripleDotOp : ℕ
TripleDotOp = 117

abbrev pub StringInterpStart : ℕ
StringInterpStart = 121

abbrev pub DocComment : ℕ
DocComment = 123

abbrev pub EOF : ℕ
EOF = 124

abbrev pub Error : ℕ
Error = 125

-- The kinds of errors (document 01, "Records").
abbrev pub UnexpectedCharacter : ℕ
UnexpectedCharacter = 1

abbrev pub UnterminatedBlockComment : ℕ
UnterminatedBlockComment = 2

abbrev pub UnterminatedRawString : ℕ
UnterminatedRawString = 3

abbrev pub UnterminatedString : ℕ
UnterminatedString = 4

abbrev pub LineFeedInString : ℕ
LineFeedInString = 5

abbrev pub BadUnicodeEscape : ℕ
BadUnicodeEscape = 6

abbrev pub BadEscape : ℕ
BadEscape = 7

abbrev pub UnterminatedInterpolation : ℕ
UnterminatedInterpolation = 8

abbrev pub UnterminatedCharacter : ℕ
UnterminatedCharacter = 9

abbrev pub UnterminatedDocComment : ℕ
UnterminatedDocComment = 10

-- `KEYWORDS` (lexer.rs, lines 24 to 106), in the same order.
unfoldable pub KEYWORDS : List (Text × ℕ)
KEYWORDS =
    (text "val", 6) ∷ (text "var", 7) ∷ (text "fun", 8) ∷ (text "struct", 9) ∷ (text "class", 10)
    ∷ (text "interface", 11) ∷ (text "enum", 12) ∷ (text "actor", 13) ∷ (text "sealed", 14) ∷ (text "return", 15)
    ∷ (text "if", 16) ∷ (text "else", 17) ∷ (text "when", 18) ∷ (text "for", 19) ∷ (text "in", 20)
    ∷ (text "while", 21) ∷ (text "do", 22) ∷ (text "break", 23) ∷ (text "continue", 24) ∷ (text "try", 25)
    ∷ (text "catch", 26) ∷ (text "finally", 27) ∷ (text "throw", 28) ∷ (text "is", 29) ∷ (text "as", 30)
    ∷ (text "public", 31) ∷ (text "private", 32) ∷ (text "protected", 33) ∷ (text "internal", 34) ∷ (text "null", 35)
    ∷ (text "this", 36) ∷ (text "super", 37) ∷ (text "object", 38) ∷ (text "unit", 39) ∷ (text "typealias", 40)
    ∷ (text "override", 41) ∷ (text "suspend", 42) ∷ (text "inline", 43) ∷ (text "const", 44) ∷ (text "comptime", 45)
    ∷ (text "defer", 46) ∷ (text "extern", 47) ∷ (text "import", 48) ∷ (text "package", 49) ∷ (text "lazy", 50)
    ∷ (text "lateinit", 51) ∷ (text "data", 52) ∷ (text "value", 53) ∷ (text "await", 55) ∷ (text "to", 54)
    ∷ (text "async", 56) ∷ (text "select", 57) ∷ (text "box", 62) ∷ (text "weak", 63) ∷ (text "native", 68)
    ∷ (text "Int", 5) ∷ (text "Long", 5) ∷ (text "Short", 5) ∷ (text "Byte", 5) ∷ (text "Float", 5)
    ∷ (text "Double", 5) ∷ (text "Boolean", 5) ∷ (text "Char", 5) ∷ (text "String", 5) ∷ (text "Any", 5)
    ∷ (text "Nothing", 5) ∷ (text "Unit", 39) ∷ (text "true", 4) ∷ (text "false", 4) ∷ (text "it", 5)
    ∷ (text "by", 5) ∷ (text "in", 20) ∷ []

-- `lookup_keyword` (lines 109 to 116), and `Ident` for a name that is no keyword (line 550).
unfoldable pub keyword_in : List (Text × ℕ) → Text → ℕ
keyword_in [] t = Ident
keyword_in (row ∷ rows) t = if same_text t row.0 then row.1 else keyword_in rows t

unfoldable pub lookup_keyword : Text → ℕ
lookup_keyword t = keyword_in KEYWORDS t

-- The marks (lines 204 to 228 and 857 to 1221): a row for each first mark, with its kind when it stands alone, and a column for each
-- next mark, with the kind of the two.
abbrev pub Columns : Type 0
Columns = List (Char × ℕ)

pub record Row : Type 0 where
  pub alone : ℕ
  pub columns : Columns

abbrev pub row : ℕ → Columns → Row
row k cols = record { alone = k; columns = cols }

unfoldable pub MARKS : List (Char × Row)
MARKS =
    (ch "(", row 105 []) ∷ (ch ")", row 106 []) ∷ (ch "{", row 107 []) ∷ (ch "}", row 108 []) ∷ (ch "[", row 109 [])
    ∷ (ch "]", row 110 []) ∷ (ch ",", row 111 []) ∷ (ch ";", row 112 []) ∷ (ch "@", row 102 []) ∷ (ch "#", row 103 []) ∷ (ch "^", row 93 [])
    ∷ (ch ":", row 113 ((ch ":", 104) ∷ (ch "=", 114) ∷ []))
    ∷ (ch ".", row 115 ((ch ".", 116) ∷ []))
    ∷ (ch "?", row 118 ((ch "?", 119) ∷ []))
    ∷ (ch "|", row 92 ((ch "|", 89) ∷ []))
    ∷ (ch "&", row 91 ((ch "&", 88) ∷ []))
    ∷ (ch "+", row 69 ((ch "=", 77) ∷ (ch "+", 74) ∷ []))
    ∷ (ch "-", row 70 ((ch "=", 78) ∷ (ch "-", 75) ∷ (ch ">", 98) ∷ []))
    ∷ (ch "*", row 71 ((ch "=", 79) ∷ []))
    ∷ (ch "/", row 72 ((ch "=", 80) ∷ []))
    ∷ (ch "=", row 76 ((ch "=", 82) ∷ (ch ">", 99) ∷ []))
    ∷ (ch "!", row 90 ((ch "=", 83) ∷ (ch "!", 97) ∷ []))
    ∷ (ch "<", row 84 ((ch "=", 86) ∷ (ch "<", 94) ∷ []))
    ∷ (ch ">", row 85 ((ch "=", 87) ∷ (ch ">", 95) ∷ []))
    ∷ (ch "%", row 73 ((ch "=", 81) ∷ []))
    ∷ []

-- Where a third mark equal to the second makes another token (lines 1060 to 1075, 1094 to 1109, 1187 to 1201): the kind of the two,
-- and the kind of the three.
unfoldable pub THIRDS : List (ℕ × ℕ)
THIRDS = (LtLt, Error) ∷ (GtGt, GtGtGt) ∷ (DoubleDotOp, TripleDotOp) ∷ []

-- An escape's letter, and the character that it stands for (lines 650 to 662 and 788 to 800). `\u` is apart.
unfoldable pub ESCAPES : List (Char × Char)
ESCAPES =
    (ch "n", 0xA) ∷ (ch "t", 0x9) ∷ (ch "r", 0xD) ∷ (ch "\\", ch "\\") ∷ (ch "'", ch "'") ∷ (ch "\"", ch "\"")
    ∷ (ch "0", 0) ∷ (ch "b", 0x8) ∷ (ch "f", 0xC) ∷ (ch "v", 0xB) ∷ (ch "/", ch "/") ∷ []

-- What a table has for a number: the first row that has it.
unfoldable pub lookup : {A : Type 0} → ℕ → List (ℕ × A) → Option A
lookup c [] = none
lookup c (row ∷ rows) = if c is row.0 then some row.1 else lookup c rows
