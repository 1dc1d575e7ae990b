-- The lexical elements of a script: its tokens by kind and text, grouped into strings. They tell all that a print has to keep: kinds and
-- texts, the grouping of pieces into strings, and whether a 121 stands in a string. Positions play no part in them.
use Rattle.std.specs.Prelude.{List, [], ◌∷◌, ◌++◌, map, ℕ, if◌then◌else◌}
use Rattle.characters.specs.Utf8.{encode}
use Rattle.rules.specs.Text.{Text, text}
use Rattle.rules.specs.Scan.{starts_with}
use Rattle.rules.specs.Tokens.{Token}
use Rattle.rules.specs.Segment.{Piece, Segment}
use Rattle.rules.specs.Lexer.{segments}
use Rattle.rules.specs.Script.{script_text}

-- A token's kind and text. As in a token, the text is a list of characters, and a list of bytes where a script is given by its bytes.
pub record Word : Type 0 where
  pub kind : ℕ
  pub text : List ℕ

-- A lexical element: a token that is no piece of a string, or a string with its pieces. A 121 stands in a string if it is one of the string's pieces.
pub data Element : Type 0 where
  lone : Word → Element
  string : List Word → Element

abbrev pub word : Piece → Word
word x = record { kind = x.kind; text = x.text }

-- A segment that begins with a quote is a string, ordinary or raw.
unfoldable pub elements_of : Segment → List Element
elements_of s =
    if starts_with (text "\"") s.chars then string (map word s.pieces) ∷ [] else map (λ x. lone (word x)) s.pieces

unfoldable pub elements_in : List Segment → List Element
elements_in [] = []
elements_in (s ∷ ss) = elements_of s ++ elements_in ss

unfoldable pub elements : Text → List Element
elements cs = elements_in (segments 0 cs)

-- ── Elements and tokens ──

abbrev pub token_word : Token → Word
token_word t = record { kind = t.kind; text = t.text }

-- The kinds and texts alone, one after another.
unfoldable pub words_of : List Element → List Word
words_of [] = []
words_of (lone w ∷ ts) = w ∷ words_of ts
words_of (string ws ∷ ts) = ws ++ words_of ts

-- ── Elements of a script given by its bytes ──

abbrev pub word_bytes : Word → Word
word_bytes w = record { kind = w.kind; text = encode w.text }

abbrev pub element_bytes : Element → Element
element_bytes (lone w) = lone (word_bytes w)
element_bytes (string ws) = string (map word_bytes ws)

unfoldable pub script_elements : List ℕ → List Element
script_elements s = map element_bytes (elements (script_text s))
