-- The lexer. `segment` looks at the front of what is left of a text and answers one lexical element: a character of white space, a
-- comment, a token, or a whole string with all its pieces. `segments` cuts a text into such elements, one after another, and `place`
-- gives each its positions.
use Rattle.std.specs.Prelude.{Bool, true, false, ◌||◌, not, List, [], ◌∷◌, ◌++◌, ℕ, zero, suc, ◌+◌, length, take, drop, if◌then◌else◌}
use Rattle.characters.specs.Choice.{◌is◌}
use Rattle.characters.specs.Utf8.{width}
use Rattle.characters.specs.Space.{is_white}
use Rattle.spans.specs.declared.Position.{Position}
use Rattle.spans.specs.declared.Span.{Span}
use Rattle.spans.specs.Span.{single, merge}
use Rattle.rules.specs.Text.{Char, Text, ch, text, LF, is_digit, is_ident_start}
use Rattle.rules.specs.Scan.{starts_with, Upto, up_to, closing}
use Rattle.rules.specs.Tokens.{Token, TokenizeError}
use Rattle.rules.specs.Tables.{Ident, StringInterpStart, EOF}
use Rattle.rules.specs.Segment.{Piece, piece, Fault, Sort, space, comment, one_token, string, Segment, skipped, with_token, word_token}
use Rattle.rules.specs.Comments.{white_space}
use Rattle.rules.specs.Numbers.{parse_number}
use Rattle.rules.specs.Names.{parse_identifier_or_keyword}
use Rattle.rules.specs.Marks.{parse_mark}
use Rattle.rules.specs.Strings.{parse_quote}
use Rattle.rules.specs.Characters.{parse_char}
use Rattle.rules.specs.Docs.{parse_slash_or_comment}

-- ── The dollar sign outside of strings: `parse_dollar` (lexer.rs, lines 1223 to 1244) ──

-- `u` is what stands behind `${`, up to the next brace. It has no error where the text runs out.
unfoldable pub dollar_braces : Upto → Segment
dollar_braces u =
    let cs = text "${" ++ (u.before ++ closing (text "}") u) in
    with_token cs (piece StringInterpStart (text "${...}") (length cs)) [] u.open_end

-- `cs` is what stands behind the dollar sign.
unfoldable pub parse_dollar : Text → Segment
parse_dollar cs =
    if starts_with (text "{") cs then dollar_braces (up_to (text "}") (drop 1 cs)) else word_token Ident (ch "$" ∷ [])

-- ── One lexical element: `skip_whitespace_and_comments` and `next_token` (lines 184 to 261) ──

unfoldable pub segment : Text → Segment
segment [] = skipped space [] [] false
segment (c ∷ cs) =
    if is_white c then white_space c
    else if c is ch "/" then parse_slash_or_comment cs
    else if c is ch "$" then parse_dollar cs
    else if c is ch "\"" then parse_quote cs
    else if c is ch "'" then parse_char cs
    else if is_digit c then parse_number (c ∷ cs)
    else if is_ident_start c then parse_identifier_or_keyword (c ∷ cs)
    else parse_mark c cs

abbrev pub size_behind_first : Text → ℕ
size_behind_first [] = 0
size_behind_first (c ∷ cs) = length cs

-- The text cut into segments: `skip` characters belong to the segment before.
unfoldable pub segments : ℕ → Text → List Segment
segments skip [] = []
segments (suc k) (c ∷ cs) = segments k cs
segments zero (c ∷ cs) =
    let s = segment (c ∷ cs) in
    s ∷ segments (size_behind_first s.chars) cs

-- ── Positions ──

-- `advance` (lines 322 to 333).
unfoldable pub advance : Position → Char → Position
advance p c =
    if c is LF then record { offset = p.offset + width c; line = suc p.line; col = 1 }
    else record { offset = p.offset + width c; line = p.line; col = suc p.col }

unfoldable pub advances : Position → Text → Position
advances p [] = p
advances p (c ∷ cs) = advances (advance p c) cs

-- The column that a line feed skipped as space leaves: 2 (lines 350 to 355, `self.col = 1` and then `self.col += 1`).
unfoldable pub skipped_line_column : ℕ
skipped_line_column = 2

-- Past a character of white space (lines 349 to 355).
unfoldable pub skip : Position → Char → Position
skip p c =
    if c is LF then record { offset = p.offset + width c; line = suc p.line; col = skipped_line_column }
    else record { offset = p.offset + width c; line = p.line; col = suc p.col }

unfoldable pub skips : Position → Text → Position
skips p [] = p
skips p (c ∷ cs) = skips (skip p c) cs

unfoldable pub is_space : Sort → Bool
is_space space = true
is_space comment = false
is_space one_token = false
is_space string = false

-- The position behind a segment that starts at `p`.
unfoldable pub after : Position → Segment → Position
after p s = if is_space s.sort then skips p s.chars else advances p s.chars

-- ── Spans ──

-- `current_span` (lines 292 to 299).
abbrev pub current_span : Position → Span
current_span p = single p.offset p.line p.col

-- `Span::merge(&start, &self.current_span())`
unfoldable pub span : Position → Position → Span
span p q = merge (current_span p) (current_span q)

-- The position in a segment that starts at `p`, behind its first `k` characters.
abbrev pub place_in : Position → Segment → ℕ → Position
place_in p s k = advances p (take k s.chars)

unfoldable pub tokens_of : Position → Segment → List Piece → List Token
tokens_of p s [] = []
tokens_of p s (x ∷ xs) =
    record { kind = x.kind; text = x.text; span = span p (place_in p s x.end) } ∷ tokens_of p s xs

unfoldable pub errors_of : Position → Segment → List Fault → List TokenizeError
errors_of p s [] = []
errors_of p s (x ∷ xs) =
    record { kind = x.kind; span = span (place_in p s x.from) (place_in p s x.to); char = x.char } ∷ errors_of p s xs

-- ── The whole list: `tokenize` and `errors` (lines 162 to 178) ──

pub record Lexed : Type 0 where
  pub body : List Token  -- the tokens but EOF
  pub errors : List TokenizeError
  pub open_end : Bool
  pub stop : Position  -- where EOF stands

-- The tokens and errors of `s`, which starts at `p`, and then those of `r`.
abbrev pub behind : Position → Segment → Lexed → Lexed
behind p s r =
    record {
      body = tokens_of p s s.pieces ++ r.body;
      errors = errors_of p s s.faults ++ r.errors;
      open_end = s.open_end || r.open_end;
      stop = r.stop;
    }

-- The segments, the first of which starts at `p`.
unfoldable pub place : Position → List Segment → Lexed
place p [] = record { body = []; errors = []; open_end = false; stop = p }
place p (s ∷ ss) = behind p s (place (after p s) ss)

-- From the position `p` on: `skip` characters belong to the segment before.
abbrev pub lex : ℕ → Position → Text → Lexed
lex skip p cs = place p (segments skip cs)

abbrev pub origin : Position
origin = record { offset = 0; line = 1; col = 1 }

abbrev pub lexed : Text → Lexed
lexed cs = lex 0 origin cs

-- `eof_token` (lines 305 to 307).
abbrev pub eof : Position → Token
eof p = record { kind = EOF; text = []; span = current_span p }

unfoldable pub tokens : Text → List Token
tokens cs = (lexed cs).body ++ (eof (lexed cs).stop ∷ [])

unfoldable pub errors : Text → List TokenizeError
errors cs = (lexed cs).errors

-- Nothing is open at the text's end (document 01, "Open at the end"): the text ran out inside no segment.
unfoldable pub closed : Text → Bool
closed cs = not (lexed cs).open_end
