-- Bounds: a segment has at most as many tokens, and at most as many errors, as characters; and the segments of a text, one behind
-- another, are the text. Assumes nothing.
use Rattle.std.specs.Prelude.{if◌then◌else◌}
use mathlib.Core.Path.{◌≡◌, refl, ap}
use mathlib.Core.Bool.{Bool, false, ◌&&◌, not}
use mathlib.Core.List.{List, [], ◌∷◌, ◌++◌}
use mathlib.Core.Option.{Option, none, some}
use Prim.Native.Nat.{ℕ, zero, suc, ◌+◌, ◌≤◌, zero-le}
use native.Mathlib.Omega.{arith}
use lib.ListN.{length, drop, length-append}
use Rattle.characters.specs.Choice.{◌is◌}
use Rattle.characters.specs.Space.{is_white}
use Rattle.characters.proofs.Choice.{if_all, if_both}
use Rattle.spans.specs.declared.Position.{Position}
use Rattle.rules.specs.Text.{Char, Text, ch, text, LF, is_empty, is_digit, is_ident_start}
use Rattle.rules.specs.Scan.{next, starts_with, Upto, up_to}
use Rattle.rules.specs.Tables.{UnterminatedCharacter, MARKS, THIRDS, ESCAPES, lookup, Row}
use Rattle.rules.specs.Segment.{Piece, Fault, fault, Segment}
use Rattle.rules.specs.Comments.{white_space, line_comment, block_comment}
use Rattle.rules.specs.Numbers.{radix, decimal, zero_then, parse_number}
use Rattle.rules.specs.Names.{parse_identifier_or_keyword}
use Rattle.rules.specs.Marks.{unexpected, two_marks, mark_with, mark_in, parse_mark}
use Rattle.rules.specs.Strings.{parse_raw_string, Escape, hex_code, unicode_escape, plain_escape, escape, string_ran_out, string_broken, string_ended, Turn, stop, on, flush, other_escape, string_escape, brace_interp, name_interp, is_interp_start, string_dollar, turn, follow, string_from, parse_string_tokens, parse_quote}
use Rattle.rules.specs.Characters.{close_char, char_escape, parse_char}
use Rattle.rules.specs.Docs.{line_doc, block_doc, parse_slash_or_comment}
use Rattle.rules.specs.Lexer.{dollar_braces, parse_dollar, segment, size_behind_first, segments, after, tokens_of, errors_of, place, lex, origin, lexed, eof, tokens, errors}
use Rattle.rules.specs.Bounds.{chars_of_all}
use Rattle.rules.proofs.Front.{Takes, slash_takes, dollar_takes, number_takes, name_takes, start_part, mark_takes, segment_takes}
use Rattle.rules.proofs.Join.{size_fits, rest_is}

-- At most one token, and at most one error.
abbrev pub AtMostOne : Segment → Type 0
AtMostOne s = (length s.pieces ≤ 1) × (length s.faults ≤ 1)

-- No more tokens than characters, and no more errors.
abbrev pub FewerThanChars : Segment → Type 0
FewerThanChars s = (length s.pieces ≤ length s.chars) × (length s.faults ≤ length s.chars)

one_small : {c : Char} {cs : Text} {s : Segment} → Takes c cs s → AtMostOne s → FewerThanChars s
one_small {c} {cs} {s} t (a, b) =
    let n : length s.chars ≡ suc (length t.more) = ap length t.took in (omega arith, omega arith)

-- The one error of a segment that goes up to a closing mark.
abbrev few : List Fault → Type 0
few fs = length fs ≤ 1

block_comment_one : (u : Upto) → AtMostOne (block_comment u)
unfolding block_comment
block_comment_one u = (omega arith, if_all few u.open_end (λ _. omega arith) (λ _. omega arith))

block_doc_one : (u : Upto) → AtMostOne (block_doc u)
unfolding block_doc
block_doc_one u = (omega arith, if_all few u.open_end (λ _. omega arith) (λ _. omega arith))

pub raw_one : (u : Upto) → AtMostOne (parse_raw_string u)
unfolding parse_raw_string
raw_one u = (omega arith, if_all few u.open_end (λ _. omega arith) (λ _. omega arith))

pub mark_one : (c : Char) (cs : Text) → AtMostOne (parse_mark c cs)
unfolding parse_mark mark_in mark_with unexpected two_marks
mark_one c cs = row (lookup c MARKS) cs
  where
    two : (k : ℕ) (o : Option ℕ) (d : Char) (cs : Text) → AtMostOne (two_marks k o c d cs)
    two k none d cs = (omega arith, omega arith)
    two k (some third) d cs = if_all AtMostOne (starts_with (d ∷ []) cs) (λ _. (omega arith, omega arith)) (λ _. (omega arith, omega arith))

    column : (alone : ℕ) (o : Option ℕ) (d : Char) (cs : Text) → AtMostOne (mark_with alone c o d cs)
    column alone none d cs = (omega arith, omega arith)
    column alone (some k) d cs = two k (lookup k THIRDS) d cs

    row : (o : Option Row) (cs : Text) → AtMostOne (mark_in o c cs)
    row none cs = (omega arith, omega arith)
    row (some r) [] = (omega arith, omega arith)
    row (some r) (d ∷ cs) = column r.alone (lookup d r.columns) d cs

pub slash_one : (cs : Text) → AtMostOne (parse_slash_or_comment cs)
unfolding parse_slash_or_comment line_doc line_comment
slash_one cs =
    if_all AtMostOne (starts_with (text "//") cs) (λ _. (omega arith, omega arith))
    (λ _. if_all AtMostOne (starts_with (text "/") cs) (λ _. (omega arith, omega arith))
    (λ _. if_all AtMostOne (starts_with (text "**") cs && not (starts_with (text "**/") cs)) (λ _. block_doc_one _)
    (λ _. if_all AtMostOne (starts_with (text "*") cs) (λ _. block_comment_one _) (λ _. mark_one (ch "/") cs))))

pub dollar_one : (cs : Text) → AtMostOne (parse_dollar cs)
unfolding parse_dollar dollar_braces
dollar_one cs = if_all AtMostOne (starts_with (text "{") cs) (λ _. (omega arith, omega arith)) (λ _. (omega arith, omega arith))

pub number_one : (cs : Text) → AtMostOne (parse_number cs)
unfolding parse_number radix decimal
number_one cs =
    if_all AtMostOne (zero_then (text "xX") cs) (λ _. (omega arith, omega arith))
    (λ _. if_all AtMostOne (zero_then (text "bB") cs) (λ _. (omega arith, omega arith)) (λ _. (omega arith, omega arith)))

pub name_one : (cs : Text) → AtMostOne (parse_identifier_or_keyword cs)
unfolding parse_identifier_or_keyword
name_one cs = (omega arith, omega arith)

-- ── Strings ──

-- An escape has at most one error.
pub escape_one : (i : ℕ) (other : Escape) (e : Char) (cs : Text) → length other.faults ≤ 1 → length (escape i other e cs).faults ≤ 1
unfolding escape unicode_escape plain_escape
escape_one i other e cs h =
    if_all (λ (x : Escape). length x.faults ≤ 1) (e is ch "u") (λ _. uni (hex_code 4 0 cs)) (λ _. plain (lookup e ESCAPES))
  where
    uni : (o : Option ℕ) → length (unicode_escape i o).faults ≤ 1
    uni none = omega arith
    uni (some v) = omega arith

    plain : (o : Option Char) → length (plain_escape other o).faults ≤ 1
    plain none = h
    plain (some c) = omega arith

-- What the text held back may add: one token, if there is any.
held : Text → ℕ
held buf = if is_empty buf then 0 else 1

held_nil : held [] ≡ 0
unfolding held is_empty
held_nil = refl

held_one : (buf : Text) → held buf ≤ 1
unfolding held
held_one buf = if_all (λ (n : ℕ). n ≤ 1) (is_empty buf) (λ _. omega arith) (λ _. omega arith)

flush_held : (i : ℕ) (buf : Text) → length (flush i buf) ≡ held buf
unfolding flush held
flush_held i buf = if_both (λ (ps : List Piece) (n : ℕ). length ps ≡ n) (is_empty buf) (λ _. refl) (λ _. refl)

-- A turn adds at most the held token and one more than the next turn holds back, and at most one error.
abbrev TurnSmall : Text → Turn → Type 0
TurnSmall buf (stop s) = (length s.pieces ≤ 1) × (length s.faults ≤ 1)
TurnSmall buf (on ps fs o k b x) = (length ps + held b ≤ 1 + held buf) × (length fs ≤ 1)

turn_small : (i : ℕ) (buf : Text) (interp : Bool) (c : Char) (cs : Text) → TurnSmall buf (turn i buf interp c cs)
unfolding turn string_broken string_ended string_escape other_escape string_dollar brace_interp name_interp
turn_small i buf interp c cs =
    if_all (TurnSmall buf) (c is LF) (λ _. (omega arith, omega arith))
    (λ _. if_all (TurnSmall buf) (c is ch "\"")
    (λ _. (if_all (λ (ps : List Piece). length ps ≤ 1) (is_empty buf && interp) (λ _. omega arith) (λ _. omega arith), omega arith))
    (λ _. if_all (TurnSmall buf) (c is ch "\\") (λ _. esc cs)
    (λ _. if_all (TurnSmall buf) (c is ch "$")
    (λ _. if_all (TurnSmall buf) (next is_interp_start cs)
    (λ _. if_all (TurnSmall buf) (starts_with (text "{") cs)
    (λ _. (piece_behind _, if_all few (up_to (text "}") (drop 1 cs)).open_end (λ _. omega arith) (λ _. omega arith)))
    (λ _. (piece_behind _, omega arith)))
    (λ _. (omega (arith, held_one (buf ++ text "$")), omega arith)))
    (λ _. (omega (arith, held_one (buf ++ (c ∷ []))), omega arith)))))
  where
    piece_behind : (x : Piece) → length (flush i buf ++ (x ∷ [])) + held [] ≤ 1 + held buf
    piece_behind x = omega (arith, length-append (flush i buf) (x ∷ []), flush_held i buf, held_nil)

    esc : (cs : Text) → TurnSmall buf (string_escape i buf interp cs)
    esc [] = (omega arith, omega arith)
    esc (e ∷ cs) =
        let x = escape (suc i) (other_escape (suc i) e) e cs in
        (omega (arith, held_one (buf ++ x.text)), escape_one (suc i) (other_escape (suc i) e) e cs (omega arith))

abbrev StringSmall : Text → Segment → Type 0
StringSmall buf s = (length s.pieces ≤ length s.chars + 1 + held buf) × (length s.faults ≤ length s.chars + 1)

follow_small : (c : Char) (buf : Text) (t : Turn) (go : ℕ → Text → Bool → Segment) → TurnSmall buf t
    → ((k : ℕ) (b : Text) (x : Bool) → StringSmall b (go k b x)) → StringSmall buf (follow c t go)
follow_small c buf (stop s) go (a, b) hg = (omega arith, omega arith)
follow_small c buf (on ps fs o k b x) go (m, n) hg =
    let h = hg k b x in (
      omega (arith, h.0, length-append ps (go k b x).pieces),
      omega (arith, h.1, length-append fs (go k b x).faults),
    )

string_small : (k i : ℕ) (buf : Text) (interp : Bool) (cs : Text) → StringSmall buf (string_from k i buf interp cs)
unfolding string_from string_ran_out
string_small k i buf interp [] = (omega arith, omega arith)
string_small (suc k) i buf interp (c ∷ cs) = let h = string_small k (suc i) buf interp cs in (omega (arith, h.0), omega (arith, h.1))
string_small zero i buf interp (c ∷ cs) =
    follow_small c buf (turn i buf interp c cs) _ (turn_small i buf interp c cs) (λ k b x. string_small k (suc i) b x cs)

raw_small : (u : Upto) → FewerThanChars (parse_raw_string u)
unfolding parse_raw_string
raw_small u = let h = raw_one u in (omega arith, omega (arith, h.1))

quote_small : (cs : Text) → FewerThanChars (parse_quote cs)
unfolding parse_quote parse_string_tokens
quote_small cs =
    if_all FewerThanChars (starts_with (text "\"\"") cs) (λ _. raw_small _)
    (λ _. let h = string_small 0 1 [] false cs in (omega (arith, h.0, held_nil), omega (arith, h.1)))

-- ── Characters ──

close_char_small : (c d : Char) (pre t : Text) (fs : List Fault) (cs : Text) → length fs ≤ 1 → FewerThanChars (close_char (c ∷ d ∷ pre) t fs cs)
unfolding close_char
close_char_small c d pre t fs cs h =
    if_all FewerThanChars (starts_with (text "'") cs) (λ _. (omega arith, omega arith))
    (λ _. (omega arith, omega (arith, length-append fs (fault UnterminatedCharacter (length (c ∷ d ∷ pre)) (length (c ∷ d ∷ pre)) ∷ []))))

char_escape_small : (cs : Text) → FewerThanChars (char_escape cs)
unfolding char_escape
char_escape_small [] = (omega arith, omega arith)
char_escape_small (e ∷ cs) =
    close_char_small (ch "'") (ch "\\") _ _ _ _ (escape_one 2 (record { text = e ∷ []; extra = 0; faults = [] }) e cs (omega arith))

char_small : (cs : Text) → FewerThanChars (parse_char cs)
unfolding parse_char
char_small [] = (omega arith, omega arith)
char_small (c ∷ cs) =
    if_all FewerThanChars (c is ch "\\") (λ _. char_escape_small cs) (λ _. close_char_small (ch "'") c [] (c ∷ []) [] cs (omega arith))

-- ── Every segment ──

pub segment_small : (c : Char) (cs : Text) → FewerThanChars (segment (c ∷ cs))
unfolding segment white_space
segment_small c cs =
    if_all FewerThanChars (is_white c) (λ _. (omega arith, omega arith))
    (λ _. if_all FewerThanChars (c is ch "/") (λ _. one_small (slash_takes cs) (slash_one cs))
    (λ _. if_all FewerThanChars (c is ch "$") (λ _. one_small (dollar_takes cs) (dollar_one cs))
    (λ _. if_all FewerThanChars (c is ch "\"") (λ _. quote_small cs)
    (λ _. if_all FewerThanChars (c is ch "'") (λ _. char_small cs)
    (λ _. if_all FewerThanChars (is_digit c) (λ d. one_small (number_takes c cs d) (number_one (c ∷ cs)))
    (λ _. if_all FewerThanChars (is_ident_start c) (λ d. one_small (name_takes c cs (start_part c d)) (name_one (c ∷ cs))) (λ _. one_small (mark_takes c cs) (mark_one c cs))))))))

-- ── The whole text ──

pub tokens_length : (p : Position) (s : Segment) (xs : List Piece) → length (tokens_of p s xs) ≡ length xs
unfolding tokens_of
tokens_length p s [] = refl
tokens_length p s (x ∷ xs) = ap suc (tokens_length p s xs)

pub errors_length : (p : Position) (s : Segment) (xs : List Fault) → length (errors_of p s xs) ≡ length xs
unfolding errors_of
errors_length p s [] = refl
errors_length p s (x ∷ xs) = ap suc (errors_length p s xs)

chars_size : (c : Char) (cs : Text) → length (segment (c ∷ cs)).chars ≡ suc (size_behind_first (segment (c ∷ cs)).chars)
chars_size c cs = rw (segment_takes c cs).took

lex_small : (k : ℕ) (p : Position) (cs : Text) → k ≤ length cs
    → (k + length (lex k p cs).body ≤ length cs) × (k + length (lex k p cs).errors ≤ length cs)
unfolding segments place
lex_small k p [] h = (omega arith, omega arith)
lex_small (suc k) p (c ∷ cs) h = let r = lex_small k p cs (omega arith) in (omega (arith, r.0), omega (arith, r.1))
lex_small zero p (c ∷ cs) h =
    let s = segment (c ∷ cs) in
    let few = segment_small c cs in
    let r = lex_small (size_behind_first s.chars) (after p s) cs (size_fits c cs) in (
      omega (arith, r.0, few.0, chars_size c cs, tokens_length p s s.pieces, length-append (tokens_of p s s.pieces) (lex (size_behind_first s.chars) (after p s) cs).body),
      omega (arith, r.1, few.1, chars_size c cs, errors_length p s s.faults, length-append (errors_of p s s.faults) (lex (size_behind_first s.chars) (after p s) cs).errors),
    )

-- A text of c characters has at most c + 1 tokens, EOF counted, and at most c errors.
pub token_bound : (cs : Text) → length (tokens cs) ≤ length cs + 1
unfolding tokens
token_bound cs = omega (arith, (lex_small 0 origin cs zero-le).0, length-append (lexed cs).body (eof (lexed cs).stop ∷ []))

pub error_bound : (cs : Text) → length (errors cs) ≤ length cs
unfolding errors
error_bound cs = omega (arith, (lex_small 0 origin cs zero-le).1)

-- ── Every character belongs to one segment ──

skipped_are_text : (k : ℕ) (cs : Text) → k ≤ length cs → chars_of_all (segments k cs) ≡ drop k cs
unfolding segments chars_of_all
skipped_are_text zero [] h = refl
skipped_are_text (suc k) [] h = absurd (omega arith)
skipped_are_text (suc k) (c ∷ cs) h = skipped_are_text k cs (omega arith)
skipped_are_text zero (c ∷ cs) h =
    let t = segment_takes c cs in
    rw (skipped_are_text (size_behind_first (segment (c ∷ cs)).chars) cs (size_fits c cs), rest_is c cs, t.took)
    (ap (λ x. c ∷ x) t.split)

pub segments_are_text : (cs : Text) → chars_of_all (segments 0 cs) ≡ cs
segments_are_text cs = skipped_are_text 0 cs zero-le
