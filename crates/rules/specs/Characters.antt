-- Character literals: `parse_char` (lexer.rs, lines 776 to 851).
use Rattle.std.specs.Prelude.{Bool, true, false, List, [], ◌∷◌, ◌++◌, length, take, drop, if◌then◌else◌}
use Rattle.characters.specs.Choice.{◌is◌}
use Rattle.rules.specs.Text.{Text, ch, text}
use Rattle.rules.specs.Scan.{starts_with}
use Rattle.rules.specs.Tables.{CharLiteral, UnterminatedCharacter}
use Rattle.rules.specs.Segment.{piece, Fault, fault, Segment, with_token}
use Rattle.rules.specs.Strings.{escape}

-- The literal of the characters `cs`, with its text `t`.
abbrev pub char_token : Text → Text → List Fault → Bool → Segment
char_token cs t fs o = with_token cs (piece CharLiteral t (length cs)) fs o

-- The closing quote is expected (lines 839 to 850): `cs` are the characters taken, `t` the literal's text, `fs` the errors so far,
-- `rest` what follows.
unfoldable pub close_char : Text → Text → List Fault → Text → Segment
close_char cs t fs rest =
    if starts_with (text "'") rest then char_token (cs ++ text "'") t fs false
    else char_token cs t (fs ++ (fault UnterminatedCharacter (length cs) (length cs) ∷ [])) false

-- Lines 782 to 832: `cs` is what stands behind the backslash. A letter that is no escape's stands for itself (line 826).
unfoldable pub char_escape : Text → Segment
char_escape [] = char_token (text "'\\") [] (fault UnterminatedCharacter 2 2 ∷ []) true
char_escape (e ∷ cs) =
    let x = escape 2 (record { text = e ∷ []; extra = 0; faults = [] }) e cs in
    close_char (text "'\\" ++ (e ∷ take x.extra cs)) x.text x.faults (drop x.extra cs)

-- `cs` is what stands behind the opening quote.
unfoldable pub parse_char : Text → Segment
parse_char [] = char_token (text "'") [] (fault UnterminatedCharacter 1 1 ∷ []) true
parse_char (c ∷ cs) =
    if c is ch "\\" then char_escape cs else close_char (ch "'" ∷ c ∷ []) (c ∷ []) [] cs
