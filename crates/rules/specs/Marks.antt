-- Delimiters and marks: `delim_token` (lexer.rs, lines 313 to 320), `parse_plus` to `parse_question` (lines 857 to 1221), and a
-- character that begins nothing (lines 249 to 257).
use Rattle.std.specs.Prelude.{false, [], ◌∷◌, ℕ, if◌then◌else◌}
use Rattle.std.proofs.Math.Option.{Option, none, some}
use Rattle.characters.specs.Choice.{◌is◌}
use Rattle.rules.specs.Text.{Char, Text, text}
use Rattle.rules.specs.Scan.{starts_with}
use Rattle.rules.specs.Tables.{Error, UnexpectedCharacter, DoubleColonT, Row, MARKS, THIRDS, lookup}
use Rattle.rules.specs.Segment.{Segment, piece, fault_of, token, with_token, whole_token, word_token}

unfoldable pub unexpected : Char → Segment
unexpected c = with_token (c ∷ []) (piece Error (c ∷ []) 1) (fault_of UnexpectedCharacter 0 1 c ∷ []) false

-- `:=` is spelled `::=` (lines 1172 to 1178).
unfoldable pub spelling : ℕ → Char → Char → Text
spelling k c d = if k is DoubleColonT then text "::=" else c ∷ d ∷ []

-- Two marks `c` and `d` of the kind `k`, before `cs`; `third` is the kind with a third mark, if there is one.
unfoldable pub two_marks : ℕ → Option ℕ → Char → Char → Text → Segment
two_marks k none c d cs = token (c ∷ d ∷ []) (piece k (spelling k c d) 2)
two_marks k (some third) c d cs =
    if starts_with (d ∷ []) cs then whole_token third (c ∷ d ∷ d ∷ []) else whole_token k (c ∷ d ∷ [])

unfoldable pub mark_with : ℕ → Char → Option ℕ → Char → Text → Segment
mark_with alone c none d cs = word_token alone (c ∷ [])
mark_with alone c (some k) d cs = two_marks k (lookup k THIRDS) c d cs

unfoldable pub mark_in : Option Row → Char → Text → Segment
mark_in none c cs = unexpected c
mark_in (some r) c [] = word_token r.alone (c ∷ [])
mark_in (some r) c (d ∷ cs) = mark_with r.alone c (lookup d r.columns) d cs

-- A mark `c` before `cs`, by its row and column; a character with no row is unexpected.
unfoldable pub parse_mark : Char → Text → Segment
parse_mark c cs = mark_in (lookup c MARKS) c cs
