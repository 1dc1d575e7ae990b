-- The fixed spellings (document 01, "Records"): the literal with which lexer.rs makes each kind that carries no text of its own.
use Rattle.std.specs.Prelude.{ℕ, List, [], ◌∷◌, get_or}
use Prim.Native.Char.{code}
use Prim.Native.String.{String, [] as no_letter, ◌∷◌ as ◌letter_then◌}

-- The bytes of a quoted text of ASCII characters.
abbrev pub ascii : String → List ℕ
ascii no_letter = []
ascii (c letter_then s) = code c ∷ ascii s

-- Kind by kind, from 0 to 125. There is none for the kinds that carry a text (0 to 5, 39, 121, 123, 125), for those that the
-- Rust never makes (58 to 61, 64 to 67, 100, 101, 120, 122) and for EOF (124).
abbrev pub spellings : List (List ℕ)
spellings =
    [] ∷ [] ∷ [] ∷ [] ∷ [] ∷ []  -- 0 to 5
    ∷ ascii "val" ∷ ascii "var" ∷ ascii "fun" ∷ ascii "struct" ∷ ascii "class" ∷ ascii "interface"  -- 6 to 11
    ∷ ascii "enum" ∷ ascii "actor" ∷ ascii "sealed" ∷ ascii "return" ∷ ascii "if" ∷ ascii "else"  -- 12 to 17
    ∷ ascii "when" ∷ ascii "for" ∷ ascii "in" ∷ ascii "while" ∷ ascii "do" ∷ ascii "break"  -- 18 to 23
    ∷ ascii "continue" ∷ ascii "try" ∷ ascii "catch" ∷ ascii "finally" ∷ ascii "throw" ∷ ascii "is"  -- 24 to 29
    ∷ ascii "as" ∷ ascii "public" ∷ ascii "private" ∷ ascii "protected" ∷ ascii "internal" ∷ ascii "null"  -- 30 to 35
    ∷ ascii "this" ∷ ascii "super" ∷ ascii "object" ∷ []  -- 36 to 39
    ∷ ascii "typealias" ∷ ascii "override" ∷ ascii "suspend" ∷ ascii "inline" ∷ ascii "const" ∷ ascii "comptime"  -- 40 to 45
    ∷ ascii "defer" ∷ ascii "extern" ∷ ascii "import" ∷ ascii "package" ∷ ascii "lazy" ∷ ascii "lateinit"  -- 46 to 51
    ∷ ascii "data" ∷ ascii "value" ∷ ascii "to" ∷ ascii "await" ∷ ascii "async" ∷ ascii "select"  -- 52 to 57
    ∷ [] ∷ [] ∷ [] ∷ []  -- 58 to 61
    ∷ ascii "box" ∷ ascii "weak"  -- 62 to 63
    ∷ [] ∷ [] ∷ [] ∷ []  -- 64 to 67
    ∷ ascii "native"  -- 68
    ∷ ascii "+" ∷ ascii "-" ∷ ascii "*" ∷ ascii "/" ∷ ascii "%" ∷ ascii "++" ∷ ascii "--"  -- 69 to 75
    ∷ ascii "=" ∷ ascii "+=" ∷ ascii "-=" ∷ ascii "*=" ∷ ascii "/=" ∷ ascii "%="  -- 76 to 81
    ∷ ascii "==" ∷ ascii "!=" ∷ ascii "<" ∷ ascii ">" ∷ ascii "<=" ∷ ascii ">="  -- 82 to 87
    ∷ ascii "&&" ∷ ascii "||" ∷ ascii "!" ∷ ascii "&" ∷ ascii "|" ∷ ascii "^"  -- 88 to 93
    ∷ ascii "<<" ∷ ascii ">>" ∷ ascii ">>>" ∷ ascii "!!" ∷ ascii "->" ∷ ascii "=>"  -- 94 to 99
    ∷ [] ∷ []  -- 100 to 101
    ∷ ascii "@" ∷ ascii "#" ∷ ascii "::"  -- 102 to 104
    ∷ ascii "(" ∷ ascii ")" ∷ ascii "{" ∷ ascii "}" ∷ ascii "[" ∷ ascii "]" ∷ ascii "," ∷ ascii ";"  -- 105 to 112
    ∷ ascii ":" ∷ ascii "::=" ∷ ascii "." ∷ ascii ".." ∷ ascii "..." ∷ ascii "?" ∷ ascii "??"  -- 113 to 119
    ∷ [] ∷ [] ∷ [] ∷ []  -- 120 to 123
    ∷ [] ∷ []  -- 124 to 125
    ∷ []

abbrev pub spelling : ℕ → List ℕ
spelling kind = get_or spellings kind []
