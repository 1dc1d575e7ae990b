-- Scripts, given by their bytes. The mark is dropped, and the characters are those of RFC 3629.
use Rattle.std.specs.Prelude.{Bool, ◌&&◌, List, map, ℕ, leb, length}
use Rattle.characters.specs.Utf8.{chars_of, is_utf8, encode}
use Rattle.byte_order_mark.specs.Mark.{after_mark}
use Rattle.rules.specs.Text.{Text}
use Rattle.rules.specs.Tokens.{Token, TokenizeError}
use Rattle.rules.specs.Lexer.{tokens, errors, closed}

-- The bytes that a script may have at most, its mark counted (question 1).
abbrev pub LIMIT : ℕ
LIMIT = 1048576

-- Questions 1 and 2: the text is short enough, and it is UTF-8.
unfoldable pub accepted : List ℕ → Bool
accepted s = leb (length s) LIMIT && is_utf8 s

-- The characters after the mark.
unfoldable pub script_text : List ℕ → Text
script_text s = chars_of (after_mark s)

-- A token with its text as bytes.
abbrev pub as_bytes : Token → Token
as_bytes t = record { kind = t.kind; text = encode t.text; span = t.span }

unfoldable pub script_tokens : List ℕ → List Token
script_tokens s = map as_bytes (tokens (script_text s))

unfoldable pub script_errors : List ℕ → List TokenizeError
script_errors s = errors (script_text s)

unfoldable pub script_closed : List ℕ → Bool
script_closed s = closed (script_text s)
