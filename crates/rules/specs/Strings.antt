-- Raw strings, escapes, and ordinary strings with interpolation: `parse_raw_string` (lexer.rs, lines 564 to 592) and
-- `parse_string_tokens` (lines 601 to 770).
use Rattle.std.specs.Prelude.{Bool, true, false, ◌&&◌, ◌||◌, not, List, [], ◌∷◌, ◌++◌, ℕ, zero, suc, ◌+◌, ◌*◌, length, drop, if◌then◌else◌}
use Rattle.std.proofs.Math.Option.{Option, none, some}
use Rattle.characters.specs.Choice.{◌is◌, within}
use Rattle.rules.specs.Text.{Char, Text, ch, text, LF, is_hex_digit, is_ident_start, is_ident_part, hex_value, is_empty}
use Rattle.rules.specs.Scan.{next, starts_with, run, Upto, up_to, closing}
use Rattle.rules.specs.Tables.{StringLiteral, StringInterpStart, UnterminatedRawString, UnterminatedString, LineFeedInString, BadUnicodeEscape, BadEscape, UnterminatedInterpolation, ESCAPES, lookup}
use Rattle.rules.specs.Segment.{Piece, piece, Fault, fault, fault_of, Segment, string, with_token}

-- ── Raw strings ──

-- `u` is what stands behind the three quotes, up to the next three.
unfoldable pub parse_raw_string : Upto → Segment
parse_raw_string u =
    let cs = text "\"\"\"" ++ (u.before ++ closing (text "\"\"\"") u) in
    with_token cs (piece StringLiteral u.before (length cs))
    (if u.open_end then fault UnterminatedRawString 0 (length cs) ∷ [] else [])
    u.open_end

-- ── Escapes, of strings (lines 647 to 700) and of characters (lines 785 to 831) ──

-- What an escape makes. `extra` is how many characters behind the escape's letter belong to it (`hex_extra`).
pub record Escape : Type 0 where
  pub text : Text
  pub extra : ℕ
  pub faults : List Fault

-- The value of the next `k` characters, if all are hexadecimal digits.
unfoldable pub hex_code : ℕ → ℕ → Text → Option ℕ
hex_code zero value cs = some value
hex_code (suc k) value [] = none
hex_code (suc k) value (c ∷ cs) = let more = hex_code k (value * 16 + hex_value c) cs in if is_hex_digit c then more else none

-- `char::from_u32`: a value between D800 and DFFF is no character.
unfoldable pub char_of : ℕ → Text
char_of value = if within 0xD800 0xDFFF value then [] else value ∷ []

-- `\u`, whose letter stands at the place `i`, with the value of its four digits.
unfoldable pub unicode_escape : ℕ → Option ℕ → Escape
unicode_escape i none = record { text = []; extra = 0; faults = fault BadUnicodeEscape i i ∷ [] }
unicode_escape i (some value) = record { text = char_of value; extra = 4; faults = [] }

unfoldable pub plain_escape : Escape → Option Char → Escape
plain_escape other none = other
plain_escape other (some c) = record { text = c ∷ []; extra = 0; faults = [] }

-- The escape with the letter `e`, which stands at the place `i`, before `cs`; `other` is the answer for a letter that is no escape's.
unfoldable pub escape : ℕ → Escape → Char → Text → Escape
escape i other e cs =
    if e is ch "u" then unicode_escape i (hex_code 4 0 cs) else plain_escape other (lookup e ESCAPES)

-- ── Ordinary strings ──

-- Places in a string count from its opening quote, which is at 0. `buf` and `interp` are the Rust's `buf` and `has_interpolation`.

-- `c` and then what `s` takes.
abbrev pub first : Char → Segment → Segment
first c s =
    record { sort = s.sort; chars = c ∷ s.chars; pieces = s.pieces; faults = s.faults; open_end = s.open_end }

-- Tokens, errors and whether the text ran out, in front of those of `s`.
abbrev pub before : List Piece → List Fault → Bool → Segment → Segment
before ps fs o s =
    record { sort = s.sort; chars = s.chars; pieces = ps ++ s.pieces; faults = fs ++ s.faults; open_end = o || s.open_end }

-- The text ran out at the place `i` of the string (lines 617 to 623).
unfoldable pub string_ran_out : ℕ → Text → Segment
string_ran_out i buf =
    record { sort = string; chars = []; pieces = piece StringLiteral buf i ∷ []; faults = fault UnterminatedString i i ∷ []; open_end = true }

-- A line feed stands at the place `i`. It is not taken (lines 628 to 636).
unfoldable pub string_broken : ℕ → Text → Segment
string_broken i buf =
    record { sort = string; chars = []; pieces = piece StringLiteral buf i ∷ []; faults = fault LineFeedInString 0 i ∷ []; open_end = false }

-- The closing quote stands at the place `i` (lines 638 to 641 and 765 to 769).
unfoldable pub string_ended : ℕ → Text → Bool → Segment
string_ended i buf interp =
    record {
      sort = string;
      chars = ch "\"" ∷ [];
      pieces = if is_empty buf && interp then [] else piece StringLiteral buf (suc i) ∷ [];
      faults = [];
      open_end = false;
    }

-- One turn of the loop (lines 616 to 763), at one character: the string stops here; or it goes on, with new tokens and errors,
-- whether the text ran out in this turn, how many of the characters that follow are dealt with, and the new values of `buf` and
-- `has_interpolation`.
pub data Turn : Type 0 where
  stop : Segment → Turn
  on : List Piece → List Fault → Bool → ℕ → Text → Bool → Turn

-- `flush_lit!` (lines 606 to 614).
unfoldable pub flush : ℕ → Text → List Piece
flush i buf = if is_empty buf then [] else piece StringLiteral buf i ∷ []

-- A letter that is no escape's keeps its backslash (lines 688 to 695).
unfoldable pub other_escape : ℕ → Char → Escape
other_escape i e = record { text = ch "\\" ∷ e ∷ []; extra = 0; faults = fault_of BadEscape i i e ∷ [] }

-- The backslash stands at the place `i`, before the text (lines 643 to 701).
unfoldable pub string_escape : ℕ → Text → Bool → Text → Turn
string_escape i buf interp [] = on [] [] true 0 buf interp
string_escape i buf interp (e ∷ cs) =
    let x = escape (suc i) (other_escape (suc i) e) e cs in
    on [] x.faults false (suc x.extra) (buf ++ x.text) interp

-- `${` stands at the place `i`, before what `u` tells (lines 711 to 736).
unfoldable pub brace_interp : ℕ → Text → Upto → Turn
brace_interp i buf u =
    let cs = text "${" ++ (u.before ++ closing (text "}") u) in
    let end = i + length cs in
    on
    (flush i buf ++ (piece StringInterpStart (text "${" ++ (u.before ++ text "}")) end ∷ []))
    (if u.open_end then fault UnterminatedInterpolation end end ∷ [] else [])
    u.open_end
    (suc (length (u.before ++ closing (text "}") u)))
    []
    true

-- `$` and a name stand at the place `i` (lines 737 to 753).
unfoldable pub name_interp : ℕ → Text → Text → Turn
name_interp i buf name =
    on
    (flush i buf ++ (piece StringInterpStart (ch "$" ∷ name) (i + suc (length name)) ∷ []))
    []
    false
    (length name)
    []
    true

-- An interpolation begins with this character behind the dollar sign (`is_interp`, lines 704 to 706).
unfoldable pub is_interp_start : Char → Bool
is_interp_start c = c is ch "{" || (is_ident_start c && not (c is ch "$"))

-- A `$` stands at the place `i`, before the text (lines 702 to 758).
unfoldable pub string_dollar : ℕ → Text → Bool → Text → Turn
string_dollar i buf interp cs =
    if next is_interp_start cs then
    if starts_with (text "{") cs then brace_interp i buf (up_to (text "}") (drop 1 cs))
    else name_interp i buf (run is_ident_part cs).taken
    else on [] [] false 0 (buf ++ text "$") interp

-- The turn at the character `c`, which stands at the place `i`, before `cs`.
unfoldable pub turn : ℕ → Text → Bool → Char → Text → Turn
turn i buf interp c cs =
    if c is LF then stop (string_broken i buf)
    else if c is ch "\"" then stop (string_ended i buf interp)
    else if c is ch "\\" then string_escape i buf interp cs
    else if c is ch "$" then string_dollar i buf interp cs
    else on [] [] false 0 (buf ++ (c ∷ [])) interp

abbrev pub follow : Char → Turn → (ℕ → Text → Bool → Segment) → Segment
follow c (stop s) go = s
follow c (on ps fs o skip buf interp) go = first c (before ps fs o (go skip buf interp))

-- A string from its place `i` on: `skip` characters are dealt with already.
unfoldable pub string_from : ℕ → ℕ → Text → Bool → Text → Segment
string_from skip i buf interp [] = string_ran_out i buf
string_from (suc k) i buf interp (c ∷ cs) = first c (string_from k (suc i) buf interp cs)
string_from zero i buf interp (c ∷ cs) =
    follow c (turn i buf interp c cs) (λ k b t. string_from k (suc i) b t cs)

-- `cs` is what stands behind the opening quote.
unfoldable pub parse_string_tokens : Text → Segment
parse_string_tokens cs = first (ch "\"") (string_from 0 1 [] false cs)

-- ── The choice between the two (lines 230 to 242) ──

-- `cs` is what stands behind the quote.
unfoldable pub parse_quote : Text → Segment
parse_quote cs =
    if starts_with (text "\"\"") cs then parse_raw_string (up_to (text "\"\"\"") (drop 2 cs)) else parse_string_tokens cs
