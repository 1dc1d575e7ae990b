-- White space and the comments that are skipped: `skip_whitespace_and_comments` (lexer.rs, lines 346 to 411).
use Rattle.std.specs.Prelude.{Bool, false, not, [], ◌∷◌, ◌++◌, length, if◌then◌else◌}
use Rattle.characters.specs.Choice.{◌is◌}
use Rattle.rules.specs.Text.{Char, Text, text, LF}
use Rattle.rules.specs.Scan.{run, Upto, closing}
use Rattle.rules.specs.Tables.{UnterminatedBlockComment}
use Rattle.rules.specs.Segment.{Segment, space, comment, skipped, fault}

-- Lines 349 to 355.
unfoldable pub white_space : Char → Segment
white_space c = skipped space (c ∷ []) [] false

abbrev pub not_lf : Char → Bool
not_lf c = not (c is LF)

-- Lines 366 to 373: `rest` is what stands behind the two slashes.
unfoldable pub line_comment : Text → Segment
line_comment rest = skipped comment (text "//" ++ (run not_lf rest).taken) [] false

-- Lines 374 to 403: `u` is what stands behind `/*`, up to the next `*/`.
unfoldable pub block_comment : Upto → Segment
block_comment u =
    let cs = text "/*" ++ (u.before ++ closing (text "*/") u) in
    skipped comment cs (if u.open_end then fault UnterminatedBlockComment 0 (length cs) ∷ [] else []) u.open_end
