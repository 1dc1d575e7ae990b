-- Documentation comments, and what begins with a slash: `parse_slash_or_comment` (lexer.rs, lines 928 to 998).
use Rattle.std.specs.Prelude.{◌&&◌, not, List, [], ◌∷◌, ◌++◌, map, length, drop, if◌then◌else◌}
use Rattle.characters.specs.Choice.{◌is◌}
use Rattle.characters.specs.Space.{is_white}
use Rattle.rules.specs.Text.{Char, Text, ch, text, LF, is_empty}
use Rattle.rules.specs.Scan.{starts_with, run, Upto, up_to, closing}
use Rattle.rules.specs.Tables.{DocComment, UnterminatedDocComment}
use Rattle.rules.specs.Segment.{piece, fault, Segment, token, with_token}
use Rattle.rules.specs.Comments.{not_lf, line_comment, block_comment}
use Rattle.rules.specs.Marks.{parse_mark}

-- ── Trimming and cleaning ──

-- `trim_start`, `trim_end`, `trim`
unfoldable pub trim_start : Text → Text
trim_start [] = []
trim_start (c ∷ cs) = if is_white c then trim_start cs else c ∷ cs

unfoldable pub trim_end : Text → Text
trim_end [] = []
trim_end (c ∷ cs) = let r = trim_end cs in if is_white c && is_empty r then [] else c ∷ r

unfoldable pub trim : Text → Text
trim cs = trim_end (trim_start cs)

-- `trim_start_matches('*')`
unfoldable pub strip_stars : Text → Text
strip_stars [] = []
strip_stars (c ∷ cs) = if c is ch "*" then strip_stars cs else c ∷ cs

-- `lines`: the characters before the first line feed, and the same of what follows it. (The Rust's drops a carriage return before
-- a line feed and an empty last line; trimming does the same.)
unfoldable pub add_to_first : Char → List Text → List Text
add_to_first c [] = (c ∷ []) ∷ []
add_to_first c (l ∷ ls) = (c ∷ l) ∷ ls

unfoldable pub lines : Text → List Text
lines [] = [] ∷ []
lines (c ∷ cs) = if c is LF then [] ∷ lines cs else add_to_first c (lines cs)

-- `join("\n")`
unfoldable pub join_lines : List Text → Text
join_lines [] = []
join_lines (l ∷ []) = l
join_lines (l ∷ m ∷ ms) = l ++ (LF ∷ join_lines (m ∷ ms))

-- Lines 973 to 981: each line trimmed, leading stars and then space off, joined by line feeds, trimmed.
unfoldable pub clean_line : Text → Text
clean_line l = trim_start (strip_stars (trim l))

unfoldable pub clean_doc : Text → Text
clean_doc cs = trim (join_lines (map clean_line (lines cs)))

-- ── The comments ──

-- Lines 931 to 946: `rest` is what stands behind the three slashes.
unfoldable pub line_doc : Text → Segment
line_doc rest =
    let t = (run not_lf rest).taken in
    token (text "///" ++ t) (piece DocComment (trim t) (length (text "///" ++ t)))

-- Lines 948 to 983: `u` is what stands behind `/**`, up to the next `*/`.
unfoldable pub block_doc : Upto → Segment
block_doc u =
    let cs = text "/**" ++ (u.before ++ closing (text "*/") u) in
    with_token cs (piece DocComment (clean_doc u.before) (length cs))
    (if u.open_end then fault UnterminatedDocComment 0 (length cs) ∷ [] else [])
    u.open_end

-- `cs` is what stands behind the slash. `/**/` is an ordinary comment (lines 359 to 362 and 949).
unfoldable pub parse_slash_or_comment : Text → Segment
parse_slash_or_comment cs =
    if starts_with (text "//") cs then line_doc (drop 2 cs)
    else if starts_with (text "/") cs then line_comment (drop 1 cs)
    else if starts_with (text "**") cs && not (starts_with (text "**/") cs) then block_doc (up_to (text "*/") (drop 2 cs))
    else if starts_with (text "*") cs then block_comment (up_to (text "*/") (drop 1 cs))
    else parse_mark (ch "/") cs
