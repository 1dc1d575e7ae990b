-- Sizes: the texts of all tokens have at most 2 n + 2 bytes for a script of n bytes. Assumes nothing.
use Rattle.std.specs.Prelude.{if◌then◌else◌}
use mathlib.Core.Path.{◌≡◌, refl, sym, ap, ◌∙◌}
use mathlib.Core.Bool.{Bool, true, false, ◌&&◌, not}
use mathlib.Core.List.{List, [], ◌∷◌, ◌++◌, map}
use mathlib.Core.Option.{Option, none, some}
use Prim.Native.Nat.{ℕ, zero, suc, ◌+◌, ◌*◌, ◌-◌, min, max, ◌≤◌, zero-le}
use native.Mathlib.Omega.{arith}
use lib.ListN.{length, take, drop}
use lib.Seq.{take-append_seam}
use Rattle.characters.specs.Choice.{◌is◌, within}
use Rattle.characters.specs.Space.{is_white}
use Rattle.characters.specs.Utf8.{width, bytes}
use Rattle.characters.proofs.Choice.{if_all}
use Rattle.characters.proofs.Widths.{width_bounds}
use Rattle.characters.proofs.Texts.{bytes_append}
use Rattle.spans.specs.declared.Position.{Position}
use Rattle.rules.specs.Text.{Char, Text, ch, text, LF, is_empty, is_digit, is_ident_start, is_ident_part}
use Rattle.rules.specs.Scan.{next, starts_with, run, Upto, up_to, closing}
use Rattle.rules.specs.Tokens.{Token}
use Rattle.rules.specs.Tables.{StringInterpStart, DoubleColonT, MARKS, THIRDS, ESCAPES, lookup, Row}
use Rattle.rules.specs.Segment.{Piece, piece, Fault, Segment}
use Rattle.rules.specs.Comments.{white_space, not_lf, line_comment, block_comment}
use Rattle.rules.specs.Numbers.{radix, decimal, zero_then, parse_number}
use Rattle.rules.specs.Names.{parse_identifier_or_keyword}
use Rattle.rules.specs.Marks.{unexpected, spelling, two_marks, mark_with, mark_in, parse_mark}
use Rattle.rules.specs.Strings.{parse_raw_string, Escape, hex_code, char_of, unicode_escape, plain_escape, escape, string_ran_out, string_broken, string_ended, Turn, stop, on, flush, other_escape, string_escape, brace_interp, name_interp, is_interp_start, string_dollar, turn, follow, string_from, parse_string_tokens, parse_quote}
use Rattle.rules.specs.Characters.{close_char, char_escape, parse_char}
use Rattle.rules.specs.Docs.{trim_start, trim_end, trim, strip_stars, add_to_first, lines, join_lines, clean_line, clean_doc, line_doc, block_doc, parse_slash_or_comment}
use Rattle.rules.specs.Lexer.{dollar_braces, parse_dollar, segment, size_behind_first, segments, after, tokens_of, place, lex, origin, lexed, eof, tokens}
use Rattle.rules.specs.Bounds.{texts_size}
use Rattle.rules.proofs.Front.{starts_split, up_to_splits, run_splits, segment_takes}
use Rattle.rules.proofs.Join.{size_fits, rest_is}

-- ── Bytes ──

pub width_low : (c : Char) → 1 ≤ width c
width_low c = (width_bounds c).0

pub width_high : (c : Char) → width c ≤ 4
width_high c = (width_bounds c).1

-- A character has at least one byte.
pub chars_few : (cs : Text) → length cs ≤ bytes cs
unfolding bytes
chars_few [] = zero-le
chars_few (c ∷ cs) = omega (arith, chars_few cs, width_low c)

-- The bytes of the texts of a segment's tokens.
unfoldable pub piece_bytes : List Piece → ℕ
piece_bytes [] = 0
piece_bytes (x ∷ xs) = bytes x.text + piece_bytes xs

pieces_append : (xs ys : List Piece) → piece_bytes (xs ++ ys) ≡ piece_bytes xs + piece_bytes ys
unfolding piece_bytes
pieces_append [] ys = omega arith
pieces_append (x ∷ xs) ys = omega (arith, pieces_append xs ys)

-- ── Trimming and the doc comment's cleaner never lengthen ──

trim_start_bytes : (cs : Text) → bytes (trim_start cs) ≤ bytes cs
unfolding trim_start bytes
trim_start_bytes [] = zero-le
trim_start_bytes (c ∷ cs) =
    if_all (λ (t : Text). bytes t ≤ width c + bytes cs) (is_white c) (λ _. omega (arith, trim_start_bytes cs)) (λ _. omega arith)

trim_end_bytes : (cs : Text) → bytes (trim_end cs) ≤ bytes cs
unfolding trim_end bytes
trim_end_bytes [] = zero-le
trim_end_bytes (c ∷ cs) =
    if_all (λ (t : Text). bytes t ≤ width c + bytes cs) (is_white c && is_empty (trim_end cs)) (λ _. omega arith) (λ _. omega (arith, trim_end_bytes cs))

pub trim_bytes : (cs : Text) → bytes (trim cs) ≤ bytes cs
unfolding trim
trim_bytes cs = omega (arith, trim_end_bytes (trim_start cs), trim_start_bytes cs)

strip_bytes : (cs : Text) → bytes (strip_stars cs) ≤ bytes cs
unfolding strip_stars bytes
strip_bytes [] = zero-le
strip_bytes (c ∷ cs) =
    if_all (λ (t : Text). bytes t ≤ width c + bytes cs) (c is ch "*") (λ _. omega (arith, strip_bytes cs)) (λ _. omega arith)

line_bytes_lem : (l : Text) → bytes (clean_line l) ≤ bytes l
unfolding clean_line
line_bytes_lem l = omega (arith, trim_start_bytes (strip_stars (trim l)), strip_bytes (trim l), trim_bytes l)

-- The bytes of lines, with a line feed for each.
unfoldable pub line_bytes : List Text → ℕ
line_bytes [] = 0
line_bytes (l ∷ ls) = bytes l + 1 + line_bytes ls

joined_bytes : (ls : List Text) → bytes (join_lines ls) ≤ line_bytes ls - 1
unfolding join_lines line_bytes bytes width
joined_bytes [] = zero-le
joined_bytes (l ∷ []) = omega arith
joined_bytes (l ∷ m ∷ ms) = omega (arith, joined_bytes (m ∷ ms), bytes_append l (LF ∷ join_lines (m ∷ ms)))

cleaned_bytes : (ls : List Text) → line_bytes (map clean_line ls) ≤ line_bytes ls
unfolding line_bytes
cleaned_bytes [] = zero-le
cleaned_bytes (l ∷ ls) = omega (arith, cleaned_bytes ls, line_bytes_lem l)

added_bytes : (c : Char) (ls : List Text) → line_bytes (add_to_first c ls) ≤ width c + max 1 (line_bytes ls)
unfolding add_to_first line_bytes bytes
added_bytes c [] = omega arith
added_bytes c (l ∷ ls) = omega arith

pub lines_bytes : (cs : Text) → line_bytes (lines cs) ≤ 1 + bytes cs
unfolding lines line_bytes bytes
lines_bytes [] = omega arith
lines_bytes (c ∷ cs) =
    if_all (λ (ls : List Text). line_bytes ls ≤ 1 + (width c + bytes cs)) (c is LF)
    (λ _. omega (arith, lines_bytes cs, width_low c)) (λ _. omega (arith, lines_bytes cs, added_bytes c (lines cs)))

pub cleaner_bytes : (cs : Text) → bytes (clean_doc cs) ≤ bytes cs
unfolding clean_doc
cleaner_bytes cs =
    omega (arith, trim_bytes (join_lines (map clean_line (lines cs))), joined_bytes (map clean_line (lines cs)), cleaned_bytes (lines cs), lines_bytes cs)

-- ── One token ──

spelling_bytes : (k : ℕ) (c d : Char) → bytes (spelling k c d) ≤ 2 * (width c + (width d + 0))
unfolding spelling bytes width
spelling_bytes k c d =
    if_all (λ (t : Text). bytes t ≤ 2 * (width c + (width d + 0))) (k is DoubleColonT) (λ _. omega (arith, width_low c, width_low d)) (λ _. omega arith)

-- What the texts of a segment may have: twice its characters' bytes, and 2 more where the text ran out in it.
abbrev pub TextsFit : Segment → Type 0
TextsFit s = piece_bytes s.pieces ≤ 2 * bytes s.chars + (if s.open_end then 2 else 0)

upto_bytes : (pre mark : Text) (u : Upto) → bytes (pre ++ (u.before ++ closing mark u)) ≡ bytes pre + bytes u.before + bytes (closing mark u)
upto_bytes pre mark u = omega (arith, bytes_append pre (u.before ++ closing mark u), bytes_append u.before (closing mark u))

block_doc_fits : (u : Upto) → TextsFit (block_doc u)
unfolding block_doc piece_bytes
block_doc_fits u = omega (arith, cleaner_bytes u.before, upto_bytes (text "/**") (text "*/") u)

raw_fits : (u : Upto) → TextsFit (parse_raw_string u)
unfolding parse_raw_string piece_bytes
raw_fits u = omega (arith, upto_bytes (text "\"\"\"") (text "\"\"\"") u)

braces_fits : (u : Upto) → TextsFit (dollar_braces u)
unfolding dollar_braces piece_bytes bytes width
braces_fits u = go u.open_end refl
  where
    go : (o : Bool) → u.open_end ≡ o → 6 + 0 ≤ 2 * bytes (text "${" ++ (u.before ++ closing (text "}") u)) + (if u.open_end then 2 else 0)
    go true e = rw e (omega (arith, upto_bytes (text "${") [] u))
    go false e = rw e (omega (arith, bytes_append u.before (text "}")))

line_doc_fits : (cs : Text) → TextsFit (line_doc cs)
unfolding line_doc piece_bytes
line_doc_fits cs = omega (arith, trim_bytes (run not_lf cs).taken, bytes_append (text "///") (run not_lf cs).taken)

mark_fits : (c : Char) (cs : Text) → TextsFit (parse_mark c cs)
unfolding parse_mark mark_in mark_with unexpected two_marks piece_bytes bytes
mark_fits c cs = row (lookup c MARKS) cs
  where
    spelled : (k : ℕ) (d : Char) → bytes (spelling k c d) ≤ 2 * (width c + (width d + 0))
    spelled k d = spelling_bytes k c d

    two : (k : ℕ) (o : Option ℕ) (d : Char) (cs : Text) → TextsFit (two_marks k o c d cs)
    two k none d cs = omega (arith, spelled k d)
    two k (some third) d cs = if_all TextsFit (starts_with (d ∷ []) cs) (λ _. omega arith) (λ _. omega arith)

    column : (alone : ℕ) (o : Option ℕ) (d : Char) (cs : Text) → TextsFit (mark_with alone c o d cs)
    column alone none d cs = omega arith
    column alone (some k) d cs = two k (lookup k THIRDS) d cs

    row : (o : Option Row) (cs : Text) → TextsFit (mark_in o c cs)
    row none cs = omega arith
    row (some r) [] = omega arith
    row (some r) (d ∷ cs) = column r.alone (lookup d r.columns) d cs

slash_fits : (cs : Text) → TextsFit (parse_slash_or_comment cs)
unfolding parse_slash_or_comment line_comment block_comment piece_bytes
slash_fits cs =
    if_all TextsFit (starts_with (text "//") cs) (λ _. line_doc_fits _)
    (λ _. if_all TextsFit (starts_with (text "/") cs) (λ _. zero-le)
    (λ _. if_all TextsFit (starts_with (text "**") cs && not (starts_with (text "**/") cs)) (λ _. block_doc_fits _)
    (λ _. if_all TextsFit (starts_with (text "*") cs) (λ _. zero-le) (λ _. mark_fits (ch "/") cs))))

dollar_fits : (cs : Text) → TextsFit (parse_dollar cs)
unfolding parse_dollar piece_bytes
dollar_fits cs = if_all TextsFit (starts_with (text "{") cs) (λ _. braces_fits _) (λ _. omega arith)

number_fits : (cs : Text) → TextsFit (parse_number cs)
unfolding parse_number radix decimal piece_bytes
number_fits cs =
    if_all TextsFit (zero_then (text "xX") cs) (λ _. omega arith)
    (λ _. if_all TextsFit (zero_then (text "bB") cs) (λ _. omega arith) (λ _. omega arith))

name_fits : (cs : Text) → TextsFit (parse_identifier_or_keyword cs)
unfolding parse_identifier_or_keyword piece_bytes
name_fits cs = omega arith

-- ── Escapes ──

pub char_bytes : (v : ℕ) → bytes (char_of v) ≤ 4
unfolding char_of bytes
char_bytes v = if_all (λ (t : Text). bytes t ≤ 4) (within 0xD800 0xDFFF v) (λ _. omega arith) (λ _. omega (arith, width_high v))

escape_bytes : (i : ℕ) (other : Escape) (e : Char) (cs : Text) → bytes other.text ≤ 1 + width e → bytes (escape i other e cs).text ≤ 3 + width e
unfolding escape unicode_escape plain_escape bytes
escape_bytes i other e cs h =
    if_all (λ (x : Escape). bytes x.text ≤ 3 + width e) (e is ch "u") (λ _. uni (hex_code 4 0 cs)) (λ _. plain (lookup e ESCAPES))
  where
    uni : (o : Option ℕ) → bytes (unicode_escape i o).text ≤ 3 + width e
    uni none = zero-le
    uni (some v) = omega (arith, char_bytes v, width_low e)

    plain : (o : Option Char) → bytes (plain_escape other o).text ≤ 3 + width e
    plain none = omega arith
    plain (some c) = omega (arith, width_high c, width_low e)

close_char_fits : (cs t : Text) (fs : List Fault) (rest : Text) → bytes t ≤ 2 * bytes cs → TextsFit (close_char cs t fs rest)
unfolding close_char piece_bytes
close_char_fits cs t fs rest h =
    if_all TextsFit (starts_with (text "'") rest) (λ _. omega (arith, bytes_append cs (text "'"))) (λ _. omega arith)

char_escape_fits : (cs : Text) → TextsFit (char_escape cs)
unfolding char_escape piece_bytes bytes width
char_escape_fits [] = zero-le
char_escape_fits (e ∷ cs) =
    let other : Escape = record { text = e ∷ []; extra = 0; faults = [] } in
    close_char_fits _ _ _ _ (omega (arith, escape_bytes 2 other e cs (omega arith), width_low e))

char_fits : (cs : Text) → TextsFit (parse_char cs)
unfolding parse_char piece_bytes bytes
char_fits [] = zero-le
char_fits (c ∷ cs) = if_all TextsFit (c is ch "\\") (λ _. char_escape_fits cs) (λ _. close_char_fits (ch "'" ∷ c ∷ []) (c ∷ []) [] cs (omega arith))

-- ── Strings ──

-- A turn's tokens and what it holds back have at most what was held back and twice the bytes that it deals with.
abbrev TurnBytes : Text → Char → Text → Turn → Type 0
TurnBytes buf c cs (stop s) = piece_bytes s.pieces ≤ bytes buf
TurnBytes buf c cs (on ps fs o k b x) = piece_bytes ps + bytes b ≤ bytes buf + 2 * (width c + bytes (take k cs))

flush_bytes : (i : ℕ) (buf : Text) → piece_bytes (flush i buf) ≤ bytes buf
unfolding flush piece_bytes
flush_bytes i buf = if_all (λ (ps : List Piece). piece_bytes ps ≤ bytes buf) (is_empty buf) (λ _. zero-le) (λ _. omega arith)

piece_behind : (i : ℕ) (buf : Text) (k : ℕ) (t : Text) (e : ℕ) → piece_bytes (flush i buf ++ (piece k t e ∷ [])) ≤ bytes buf + bytes t
unfolding piece_bytes
piece_behind i buf k t e = omega (arith, pieces_append (flush i buf) (piece k t e ∷ []), flush_bytes i buf)

-- The characters that an interpolation takes behind its `$`.
pub brace_taken : (cs : Text) → starts_with (text "{") cs ≡ true
    → take (suc (length ((up_to (text "}") (drop 1 cs)).before ++ closing (text "}") (up_to (text "}") (drop 1 cs))))) cs
    ≡ ch "{" ∷ ((up_to (text "}") (drop 1 cs)).before ++ closing (text "}") (up_to (text "}") (drop 1 cs)))
brace_taken cs e =
    let u = up_to (text "}") (drop 1 cs) in
    let h = up_to_splits (text "}") (drop 1 cs) in
    ap (take (suc (length (u.before ++ closing (text "}") u)))) (sym (starts_split (text "{") cs e))
    ∙ ap (λ t. ch "{" ∷ t) (ap (take (length (u.before ++ closing (text "}") u))) (sym h.1) ∙ take-append_seam (u.before ++ closing (text "}") u) h.0)

pub run_taken : (p : Char → Bool) (cs : Text) → take (length (run p cs).taken) cs ≡ (run p cs).taken
run_taken p cs = ap (take (length (run p cs).taken)) (sym (run_splits p cs)) ∙ take-append_seam (run p cs).taken (run p cs).left

one_more : (buf : Text) (d : Char) → bytes (buf ++ (d ∷ [])) ≡ bytes buf + width d
unfolding bytes
one_more buf d = omega (arith, bytes_append buf (d ∷ []))

brace_bytes : (i : ℕ) (buf : Text) (c : Char) (cs : Text) → starts_with (text "{") cs ≡ true
    → TurnBytes buf c cs (brace_interp i buf (up_to (text "}") (drop 1 cs)))
unfolding brace_interp bytes width
brace_bytes i buf c cs e =
    let u = up_to (text "}") (drop 1 cs) in
    let t = text "${" ++ (u.before ++ text "}") in
    rw (brace_taken cs e)
    (omega (arith, piece_behind i buf StringInterpStart t (i + length (text "${" ++ (u.before ++ closing (text "}") u))), bytes_append u.before (text "}"), bytes_append u.before (closing (text "}") u), width_low c))

name_bytes : (i : ℕ) (buf : Text) (c : Char) (cs : Text) → TurnBytes buf c cs (name_interp i buf (run is_ident_part cs).taken)
unfolding name_interp bytes width
name_bytes i buf c cs =
    let name = (run is_ident_part cs).taken in
    rw (run_taken is_ident_part cs) (omega (arith, piece_behind i buf StringInterpStart (ch "$" ∷ name) (i + suc (length name)), width_low c))

turn_bytes : (i : ℕ) (buf : Text) (interp : Bool) (c : Char) (cs : Text) → TurnBytes buf c cs (turn i buf interp c cs)
unfolding turn string_broken string_ended string_escape other_escape string_dollar piece_bytes bytes width
turn_bytes i buf interp c cs =
    if_all (TurnBytes buf c cs) (c is LF) (λ _. omega arith)
    (λ _. if_all (TurnBytes buf c cs) (c is ch "\"")
    (λ _. if_all (λ (ps : List Piece). piece_bytes ps ≤ bytes buf) (is_empty buf && interp) (λ _. zero-le) (λ _. omega arith))
    (λ _. if_all (TurnBytes buf c cs) (c is ch "\\") (λ _. esc cs)
    (λ _. if_all (TurnBytes buf c cs) (c is ch "$")
    (λ _. if_all (TurnBytes buf c cs) (next is_interp_start cs)
    (λ _. if_all (TurnBytes buf c cs) (starts_with (text "{") cs) (λ e. brace_bytes i buf c cs e) (λ _. name_bytes i buf c cs))
    (λ _. omega (arith, one_more buf (ch "$"), width_low c)))
    (λ _. omega (arith, one_more buf c)))))
  where
    esc : (cs : Text) → TurnBytes buf c cs (string_escape i buf interp cs)
    esc [] = omega arith
    esc (e ∷ cs) =
        let x = escape (suc i) (other_escape (suc i) e) e cs in
        omega (arith, escape_bytes (suc i) (other_escape (suc i) e) e cs (omega arith), width_low e, width_low c, bytes_append buf x.text)

abbrev StringBytes : ℕ → Text → Text → Segment → Type 0
StringBytes k buf cs s = piece_bytes s.pieces + 2 * bytes (take k cs) ≤ 2 * bytes s.chars + bytes buf

follow_bytes : (c : Char) (cs buf : Text) (t : Turn) (go : ℕ → Text → Bool → Segment) → TurnBytes buf c cs t
    → ((k : ℕ) (b : Text) (x : Bool) → StringBytes k b cs (go k b x)) → StringBytes 0 buf (c ∷ cs) (follow c t go)
unfolding bytes
follow_bytes c cs buf (stop s) go h hg = omega arith
follow_bytes c cs buf (on ps fs o k b x) go h hg = omega (arith, hg k b x, pieces_append ps (go k b x).pieces)

string_bytes : (k i : ℕ) (buf : Text) (interp : Bool) (cs : Text) → StringBytes k buf cs (string_from k i buf interp cs)
unfolding string_from string_ran_out piece_bytes bytes
string_bytes zero i buf interp [] = omega arith
string_bytes (suc k) i buf interp [] = omega arith
string_bytes (suc k) i buf interp (c ∷ cs) = omega (arith, string_bytes k (suc i) buf interp cs)
string_bytes zero i buf interp (c ∷ cs) =
    follow_bytes c cs buf (turn i buf interp c cs) _ (turn_bytes i buf interp c cs) (λ k b x. string_bytes k (suc i) b x cs)

quote_fits : (cs : Text) → TextsFit (parse_quote cs)
unfolding parse_quote parse_string_tokens bytes
quote_fits cs = if_all TextsFit (starts_with (text "\"\"") cs) (λ _. raw_fits _) (λ _. omega (arith, string_bytes 0 1 [] false cs))

-- ── Every segment, and the whole text ──

pub segment_fits : (c : Char) (cs : Text) → TextsFit (segment (c ∷ cs))
unfolding segment white_space piece_bytes
segment_fits c cs =
    if_all TextsFit (is_white c) (λ _. zero-le)
    (λ _. if_all TextsFit (c is ch "/") (λ _. slash_fits cs)
    (λ _. if_all TextsFit (c is ch "$") (λ _. dollar_fits cs)
    (λ _. if_all TextsFit (c is ch "\"") (λ _. quote_fits cs)
    (λ _. if_all TextsFit (c is ch "'") (λ _. char_fits cs)
    (λ _. if_all TextsFit (is_digit c) (λ _. number_fits (c ∷ cs))
    (λ _. if_all TextsFit (is_ident_start c) (λ _. name_fits (c ∷ cs)) (λ _. mark_fits c cs)))))))

texts_append : (ts us : List Token) → texts_size (ts ++ us) ≡ texts_size ts + texts_size us
unfolding texts_size
texts_append [] us = omega arith
texts_append (t ∷ ts) us = omega (arith, texts_append ts us)

texts_of_lem : (p : Position) (s : Segment) (xs : List Piece) → texts_size (tokens_of p s xs) ≡ piece_bytes xs
unfolding texts_size tokens_of piece_bytes
texts_of_lem p s [] = refl
texts_of_lem p s (x ∷ xs) = omega (arith, texts_of_lem p s xs)

-- The bytes of a text that begins with a segment.
pub split_bytes : (c : Char) (cs : Text) → bytes (c ∷ cs) ≡ bytes (segment (c ∷ cs)).chars + bytes (segment_takes c cs).rest
unfolding bytes
split_bytes c cs =
    let t = segment_takes c cs in
    omega (arith, ap bytes t.took, ap bytes t.split, bytes_append t.more t.rest)

pub chars_low : (c : Char) (cs : Text) → 1 ≤ bytes (segment (c ∷ cs)).chars
unfolding bytes
chars_low c cs = omega (arith, ap bytes (segment_takes c cs).took, width_low c)

bytes_low : (c : Char) (cs : Text) → bytes (segment (c ∷ cs)).chars ≤ bytes (c ∷ cs)
bytes_low c cs = omega (arith, split_bytes c cs)

no_bytes : (t : Text) → t ≡ [] → bytes t ≡ 0
unfolding bytes
no_bytes t e = rw e

-- Nothing but an open segment has more than twice its bytes, and nothing follows that.
lex_texts : (k : ℕ) (p : Position) (cs : Text) → k ≤ length cs
    → texts_size (lex k p cs).body ≤ 2 * bytes (drop k cs) + min 2 (2 * bytes (drop k cs))
unfolding segments place texts_size
lex_texts k p [] h = zero-le
lex_texts (suc k) p (c ∷ cs) h = lex_texts k p cs (omega arith)
lex_texts zero p (c ∷ cs) h =
    let s = segment (c ∷ cs) in
    let r = lex (size_behind_first s.chars) (after p s) cs in
    go s.open_end refl (segment_fits c cs) r.body (lex_texts (size_behind_first s.chars) (after p s) cs (size_fits c cs))
  where
    go : (o : Bool) → (segment (c ∷ cs)).open_end ≡ o
        → piece_bytes (segment (c ∷ cs)).pieces ≤ 2 * bytes (segment (c ∷ cs)).chars + (if o then 2 else 0)
        → (ts : List Token) → texts_size ts ≤ 2 * bytes (drop (size_behind_first (segment (c ∷ cs)).chars) cs) + min 2 (2 * bytes (drop (size_behind_first (segment (c ∷ cs)).chars) cs))
        → texts_size (tokens_of p (segment (c ∷ cs)) (segment (c ∷ cs)).pieces ++ ts) ≤ 2 * bytes (c ∷ cs) + min 2 (2 * bytes (c ∷ cs))
    go true e f ts ih =
        let none_left : drop (size_behind_first (segment (c ∷ cs)).chars) cs ≡ [] = rest_is c cs ∙ (segment_takes c cs).all e in
        let z : bytes (drop (size_behind_first (segment (c ∷ cs)).chars) cs) ≡ 0 = no_bytes (drop (size_behind_first (segment (c ∷ cs)).chars) cs) none_left in
        omega (arith, texts_append (tokens_of p (segment (c ∷ cs)) (segment (c ∷ cs)).pieces) ts, texts_of_lem p (segment (c ∷ cs)) (segment (c ∷ cs)).pieces, bytes_low c cs, chars_low c cs)
    go false e f ts ih =
        omega (arith, texts_append (tokens_of p (segment (c ∷ cs)) (segment (c ∷ cs)).pieces) ts, texts_of_lem p (segment (c ∷ cs)) (segment (c ∷ cs)).pieces, split_bytes c cs, ap bytes (rest_is c cs))

-- The texts of all tokens of a text of n bytes have at most 2 n + 2 bytes.
pub text_bound : (cs : Text) → texts_size (tokens cs) ≤ 2 * bytes cs + 2
unfolding tokens texts_size bytes
text_bound cs = omega (arith, lex_texts 0 origin cs zero-le, texts_append (lexed cs).body (eof (lexed cs).stop ∷ []))
