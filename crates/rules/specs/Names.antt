-- Names and keywords: `parse_identifier_or_keyword` (lexer.rs, lines 536 to 553).
use Rattle.rules.specs.Text.{Text, is_ident_part}
use Rattle.rules.specs.Scan.{run}
use Rattle.rules.specs.Tables.{lookup_keyword}
use Rattle.rules.specs.Segment.{Segment, word_token}

unfoldable pub parse_identifier_or_keyword : Text → Segment
parse_identifier_or_keyword cs =
    let name = (run is_ident_part cs).taken in
    word_token (lookup_keyword name) name
