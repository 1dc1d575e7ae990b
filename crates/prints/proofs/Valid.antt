-- The print of a text of Unicode scalar values is a text of Unicode scalar values: no surrogate comes in, and nothing above U+10FFFF.
-- Assumes nothing.
use Rattle.std.specs.Prelude.{if◌then◌else◌}
use mathlib.Core.Path.{◌≡◌, refl}
use mathlib.Core.Bool.{Bool, true, false, ◌&&◌, ◌||◌, not, true≢false}
use mathlib.Core.List.{List, [], ◌∷◌, ◌++◌, map}
use mathlib.Core.Option.{Option, none, some}
use Prim.Native.Nat.{ℕ, zero, suc, ◌+◌, ◌*◌, ◌/◌, ◌%◌, ◌≤◌}
use native.Mathlib.Omega.{arith}
use borrow.Author.Tests.{le-leb, leb-true}
use lib.Dec.{leb}
use lib.ListN.{drop}
use Rattle.characters.specs.Choice.{◌is◌, within}
use Rattle.characters.specs.Utf8.{is_scalar, Scalars}
use Rattle.characters.specs.Space.{is_white}
use Rattle.characters.proofs.Choice.{if_all}
use Rattle.characters.proofs.Widths.{scalar_low}
use Rattle.characters.proofs.Texts.{scalars_append, scalars_split}
use Rattle.rules.specs.Text.{Char, Text, ch, text, one_of, LF, is_digit, is_hex_digit, is_ident_start, is_ident_part, hex_value, is_empty}
use Rattle.rules.specs.Scan.{next, starts_with, run, Upto, up_to}
use Rattle.rules.specs.Tables.{StringInterpStart, ESCAPES, THIRDS, MARKS, Row, lookup, DoubleColonT, CharLiteral, DocComment}
use Rattle.rules.specs.Segment.{Piece, Fault, Segment}
use Rattle.rules.specs.Comments.{white_space, not_lf, line_comment, block_comment}
use Rattle.rules.specs.Marks.{unexpected, spelling, two_marks, mark_with, mark_in, parse_mark}
use Rattle.rules.specs.Strings.{parse_raw_string, Escape, hex_code, char_of, unicode_escape, plain_escape, escape, string_ran_out, string_broken, string_ended, Turn, stop, on, flush, other_escape, string_escape, brace_interp, name_interp, string_dollar, turn, follow, string_from, parse_string_tokens, parse_quote, is_interp_start}
use Rattle.rules.specs.Characters.{close_char, char_escape, parse_char}
use Rattle.rules.specs.Docs.{trim_start, trim_end, trim, strip_stars, add_to_first, lines, join_lines, clean_line, clean_doc, line_doc, block_doc, parse_slash_or_comment}
use Rattle.rules.specs.Lexer.{dollar_braces, parse_dollar, segment, size_behind_first, segments}
use Rattle.rules.proofs.Ahead.{and_left, and_right, is_eq}
use Rattle.rules.proofs.Front.{number_takes, run_splits, Takes, name_takes, start_part}
use Rattle.rules.specs.Bounds.{Every}
use Rattle.rules.proofs.Every.{every_append, every_map}
use Rattle.rules.proofs.Sources.{all_rows, found_right}
use Rattle.prints.specs.Elements.{Word, Element, lone, string, word, elements_of, elements_in, elements}
use Rattle.prints.specs.Print.{hex_digit, unicode, escaped, escapes, is_word, literal, is_name, pieces, character, doc_lines, doc, emitted, is_doc, gap, layout, print_text, parting}
use Rattle.prints.proofs.Facts.{or_case, within_le}
use Rattle.prints.proofs.Again.{all_of}
use Rattle.prints.proofs.Plain.{number_whole, name_whole, Whole}
use Rattle.prints.proofs.Strung.{word_parts}

plain_scalar : (c : Char) → leb c 0x7F ≡ true → is_scalar c ≡ true
plain_scalar c e = let h = leb-true c 0x7F e in scalar_low c (omega arith)

-- A text of characters below U+0080.
abbrev pub is_low : Text → Bool
is_low = all_of (λ c. leb c 0x7F)

pub low_text : (t : Text) → is_low t ≡ true → Every (λ (c : ℕ). c ≤ 0x7F) t
low_text [] h = tt
low_text (c ∷ t) h = (leb-true c 0x7F (and_left (leb c 0x7F) _ h), low_text t (and_right (leb c 0x7F) _ h))

plain : (t : Text) → is_low t ≡ true → Scalars t
plain [] h = tt
plain (c ∷ t) h = (plain_scalar c (and_left (leb c 0x7F) _ h), plain t (and_right (leb c 0x7F) _ h))

one : (c : Char) (t : Text) → Scalars (c ∷ t) → Scalars (c ∷ [])
one c t h = (h.0, tt)

drops : (n : ℕ) (t : Text) → Scalars t → Scalars (drop n t)
drops zero t h = h
drops (suc n) [] h = h
drops (suc n) (c ∷ t) h = drops n t h.1

runs : (p : Char → Bool) (t : Text) → Scalars t → Scalars (run p t).taken
runs p t h = (scalars_split (run p t).taken (run p t).left (rw (run_splits p t) h)).0

up_to_lem : (mark t : Text) → Scalars t → Scalars (up_to mark t).before
unfolding up_to
up_to_lem mark [] h = tt
up_to_lem mark (c ∷ t) h =
    if_all (λ (u : Upto). Scalars u.before) (starts_with mark (c ∷ t)) (λ _. tt) (λ _. (h.0, up_to_lem mark t h.1))

-- ── Doc texts ──

start_valid : (t : Text) → Scalars t → Scalars (trim_start t)
unfolding trim_start
start_valid [] h = h
start_valid (c ∷ t) h = if_all Scalars (is_white c) (λ _. start_valid t h.1) (λ _. h)

strip_valid : (t : Text) → Scalars t → Scalars (strip_stars t)
unfolding strip_stars
strip_valid [] h = h
strip_valid (c ∷ t) h = if_all Scalars (c is ch "*") (λ _. strip_valid t h.1) (λ _. h)

end_valid : (t : Text) → Scalars t → Scalars (trim_end t)
unfolding trim_end
end_valid [] h = h
end_valid (c ∷ t) h = if_all Scalars (is_white c && is_empty (trim_end t)) (λ _. tt) (λ _. (h.0, end_valid t h.1))

trim_valid : (t : Text) → Scalars t → Scalars (trim t)
unfolding trim
trim_valid t h = end_valid (trim_start t) (start_valid t h)

add_valid : (c : Char) (ls : List Text) → is_scalar c ≡ true → Every Scalars ls → Every Scalars (add_to_first c ls)
unfolding add_to_first
add_valid c [] e h = ((e, tt), tt)
add_valid c (l ∷ ls) e h = ((e, h.0), h.1)

lines_valid : (t : Text) → Scalars t → Every Scalars (lines t)
unfolding lines
lines_valid [] h = (tt, tt)
lines_valid (c ∷ t) h =
    let ih = lines_valid t h.1 in
    if_all (Every Scalars) (c is LF) (λ _. (tt, ih)) (λ _. add_valid c (lines t) h.0 ih)

clean_valid : (l : Text) → Scalars l → Scalars (clean_line l)
unfolding clean_line
clean_valid l h = start_valid (strip_stars (trim l)) (strip_valid (trim l) (trim_valid l h))

join_valid : (ls : List Text) → Every Scalars ls → Scalars (join_lines ls)
unfolding join_lines
join_valid [] h = tt
join_valid (l ∷ []) h = h.0
join_valid (l ∷ m ∷ ms) h =
    scalars_append l (LF ∷ join_lines (m ∷ ms)) h.0 (scalars_append (LF ∷ []) (join_lines (m ∷ ms)) (plain (LF ∷ []) refl) (join_valid (m ∷ ms) h.1))

doc_valid : (t : Text) → Scalars t → Scalars (clean_doc t)
unfolding clean_doc
doc_valid t h =
    trim_valid _ (join_valid (map clean_line (lines t)) (every_map clean_line Scalars Scalars clean_valid (lines t) (lines_valid t h)))

-- ── Escapes ──

hex_small : (c : Char) → is_hex_digit c ≡ true → hex_value c ≤ 15
unfolding is_hex_digit hex_value
hex_small c e =
    if_all (λ v. v ≤ 15) (is_digit c) (λ d. let h = within_le (ch "0") (ch "9") c (unfold is_digit in d) in omega arith)
    (λ n. if_all (λ v. v ≤ 15) (within (ch "A") (ch "F") c) (λ d. let h = within_le (ch "A") (ch "F") c d in omega arith)
    (λ m. let h = within_le (ch "a") (ch "f") c (last (is_digit c) (within (ch "A") (ch "F") c) n m e) in omega arith))
  where
    last : (a b : Bool) → a ≡ false → b ≡ false → (a || b || within (ch "a") (ch "f") c) ≡ true → within (ch "a") (ch "f") c ≡ true
    last true b p q e = absurd (true≢false p)
    last false true p q e = absurd (true≢false q)
    last false false p q e = e

-- The largest value of `k` more digits behind a value of at most `b`.
grown : ℕ → ℕ → ℕ
grown zero b = b
grown (suc k) b = grown k (b * 16 + 15)

hex_bound : (k v b : ℕ) (cs : Text) (w : ℕ) → v ≤ b → hex_code k v cs ≡ some w → w ≤ grown k b
unfolding hex_code grown
hex_bound zero v b cs w h e = let q : v ≡ w = cc in omega arith
hex_bound (suc k) v b [] w h e = let z : ◌≡◌ {A = ℕ} 0 1 = cc in absurd (omega arith)
hex_bound (suc k) v b (c ∷ cs) w h e = go (is_hex_digit c) refl (hex_bound k (v * 16 + hex_value c) (b * 16 + 15) cs w) e
  where
    go : (x : Bool) → is_hex_digit c ≡ x → (v * 16 + hex_value c ≤ b * 16 + 15 → hex_code k (v * 16 + hex_value c) cs ≡ some w → w ≤ grown k (b * 16 + 15))
        → (if x then hex_code k (v * 16 + hex_value c) cs else none) ≡ some w → w ≤ grown k (b * 16 + 15)
    go true q ih e' = ih (let s = hex_small c q in omega arith) e'
    go false q ih e' = let z : ◌≡◌ {A = ℕ} 0 1 = cc in absurd (omega arith)

code_valid : (v : ℕ) → v ≤ 65535 → Scalars (char_of v)
unfolding char_of is_scalar
code_valid v h = if_all Scalars (within 0xD800 0xDFFF v) (λ _. tt) (λ n. (rw (n, le-leb v 0x10FFFF (omega arith)), tt))

unicode_valid : (i : ℕ) (cs : Text) (o : Option ℕ) → hex_code 4 0 cs ≡ o → Scalars (unicode_escape i o).text
unfolding unicode_escape
unicode_valid i cs none e = tt
unicode_valid i cs (some v) e = code_valid v (unfold grown in (hex_bound 4 0 0 cs v (omega arith) e))

letter_valid : (e v : Char) → lookup e ESCAPES ≡ some v → Scalars (v ∷ [])
unfolding ESCAPES all_rows
letter_valid e v q = (plain_scalar v (found_right (λ _ w. leb w 0x7F) e ESCAPES v refl q), tt)

escape_valid : (i : ℕ) (other : Escape) (e : Char) (cs : Text) → Scalars other.text → Scalars (escape i other e cs).text
unfolding escape
escape_valid i other e cs h =
    if_all (λ (x : Escape). Scalars x.text) (e is ch "u") (λ _. unicode_valid i cs (hex_code 4 0 cs) refl) (λ _. letter (lookup e ESCAPES) refl)
  where
    letter : (o : Option Char) → lookup e ESCAPES ≡ o → Scalars (plain_escape other o).text
    letter none q = unfold plain_escape in h
    letter (some v) q = unfold plain_escape in (letter_valid e v q)

-- ── Strings ──

abbrev ValidPieces : List Piece → Type 0
ValidPieces = Every (λ (x : Piece). Scalars x.text)

abbrev Valid : Segment → Type 0
Valid s = ValidPieces s.pieces

flush_valid : (i : ℕ) (buf : Text) (x : Piece) → Scalars buf → Scalars x.text → ValidPieces (flush i buf ++ (x ∷ []))
flush_valid i buf x h g = every_append _ (flush i buf) (x ∷ []) (held i buf h) (g, tt)
  where
    held : (i : ℕ) (buf : Text) → Scalars buf → ValidPieces (flush i buf)
    held i buf h = unfold flush in (if_all ValidPieces (is_empty buf) (λ _. tt) (λ _. (h, tt)))

abbrev TurnValid : Turn → Type 0
TurnValid (stop s) = Valid s
TurnValid (on ps fs o k b x) = ValidPieces ps × Scalars b

brace_valid : (u : Text) → Scalars u → Scalars (text "${" ++ (u ++ text "}"))
brace_valid u h = scalars_append (text "${") (u ++ text "}") (plain (text "${") refl) (scalars_append u (text "}") h (plain (text "}") refl))

other_valid : (i : ℕ) (e : Char) → Scalars (e ∷ []) → Scalars (other_escape i e).text
unfolding other_escape
other_valid i e h = scalars_append (text "\\") (e ∷ []) (plain (text "\\") refl) h

turn_valid : (i : ℕ) (buf : Text) (x : Bool) (c : Char) (cs : Text) → Scalars buf → Scalars (c ∷ cs) → TurnValid (turn i buf x c cs)
unfolding turn string_broken string_ended string_dollar brace_interp name_interp
turn_valid i buf x c cs hb h =
    let hc = h.1 in
    if_all TurnValid (c is LF) (λ _. (hb, tt))
    (λ _. if_all TurnValid (c is ch "\"") (λ _. if_all ValidPieces (is_empty buf && x) (λ _. tt) (λ _. (hb, tt)))
    (λ _. if_all TurnValid (c is ch "\\") (λ _. esc cs hc)
    (λ _. if_all TurnValid (c is ch "$")
    (λ _. if_all TurnValid (next is_interp_start cs)
    (λ _. if_all TurnValid (starts_with (text "{") cs)
    (λ _. (flush_valid i buf _ hb (brace_valid (up_to (text "}") (drop 1 cs)).before (up_to_lem (text "}") (drop 1 cs) (drops 1 cs hc))), tt))
    (λ _. (flush_valid i buf _ hb (scalars_append (text "$") (run is_ident_part cs).taken (plain (text "$") refl) (runs is_ident_part cs hc)), tt)))
    (λ _. (tt, scalars_append buf (text "$") hb (plain (text "$") refl))))
    (λ _. (tt, scalars_append buf (c ∷ []) hb (one c cs h))))))
  where
    esc : (cs : Text) → Scalars cs → TurnValid (string_escape i buf x cs)
    esc [] h = unfold string_escape in (tt, hb)
    esc (e ∷ cs) h =
        unfold string_escape in
        (tt, scalars_append buf (escape (suc i) (other_escape (suc i) e) e cs).text hb (escape_valid (suc i) (other_escape (suc i) e) e cs (other_valid (suc i) e (one e cs h))))

follow_valid : (c : Char) (t : Turn) (go : ℕ → Text → Bool → Segment) → TurnValid t
    → ((k : ℕ) (b : Text) (y : Bool) → Scalars b → Valid (go k b y)) → Valid (follow c t go)
follow_valid c (stop s) go h hg = h
follow_valid c (on ps fs o k b y) go h hg = every_append _ ps (go k b y).pieces h.0 (hg k b y h.1)

string_valid : (k i : ℕ) (buf : Text) (x : Bool) (cs : Text) → Scalars buf → Scalars cs → Valid (string_from k i buf x cs)
unfolding string_from string_ran_out
string_valid k i buf x [] hb h = (hb, tt)
string_valid (suc k) i buf x (c ∷ cs) hb h = string_valid k (suc i) buf x cs hb h.1
string_valid zero i buf x (c ∷ cs) hb h =
    follow_valid c (turn i buf x c cs) _ (turn_valid i buf x c cs hb h) (λ k b y g. string_valid k (suc i) b y cs g h.1)

quote_valid : (cs : Text) → Scalars cs → Valid (parse_quote cs)
unfolding parse_quote parse_raw_string parse_string_tokens
quote_valid cs h =
    if_all Valid (starts_with (text "\"\"") cs) (λ _. (up_to_lem (text "\"\"\"") (drop 2 cs) (drops 2 cs h), tt)) (λ _. string_valid 0 1 [] false cs tt h)

-- ── The others ──

close_valid : (taken t : Text) (fs : List Fault) (rest : Text) → Scalars t → Valid (close_char taken t fs rest)
unfolding close_char
close_valid taken t fs rest h = if_all Valid (starts_with (text "'") rest) (λ _. (h, tt)) (λ _. (h, tt))

char_valid : (cs : Text) → Scalars cs → Valid (parse_char cs)
unfolding parse_char char_escape
char_valid [] h = (tt, tt)
char_valid (c ∷ cs) h = if_all Valid (c is ch "\\") (λ _. esc cs h.1) (λ _. close_valid _ (c ∷ []) [] cs (one c cs h))
  where
    esc : (cs : Text) → Scalars cs → Valid (char_escape cs)
    esc [] h = (tt, tt)
    esc (e ∷ cs) h = close_valid _ _ _ _ (escape_valid 2 (record { text = e ∷ []; extra = 0; faults = [] }) e cs (one e cs h))

two_valid : (k : ℕ) (o : Option ℕ) (c d : Char) (cs : Text) → Scalars (c ∷ d ∷ []) → Valid (two_marks k o c d cs)
unfolding two_marks spelling
two_valid k none c d cs h = (if_all Scalars (k is DoubleColonT) (λ _. plain (text "::=") refl) (λ _. h), tt)
two_valid k (some third) c d cs h =
    if_all Valid (starts_with (d ∷ []) cs) (λ _. (scalars_append (c ∷ d ∷ []) (d ∷ []) h h.1, tt)) (λ _. (h, tt))

mark_valid : (c : Char) (cs : Text) → Scalars (c ∷ cs) → Valid (parse_mark c cs)
unfolding parse_mark mark_in mark_with unexpected
mark_valid c cs = row (lookup c MARKS) cs
  where
    column : (alone : ℕ) (o : Option ℕ) (d : Char) (cs : Text) → Scalars (c ∷ d ∷ cs) → Valid (mark_with alone c o d cs)
    column alone none d cs h = (one c (d ∷ cs) h, tt)
    column alone (some k) d cs h = two_valid k (lookup k THIRDS) c d cs (h.0, one d cs h.1)

    row : (o : Option Row) (cs : Text) → Scalars (c ∷ cs) → Valid (mark_in o c cs)
    row none cs h = (one c cs h, tt)
    row (some r) [] h = (h, tt)
    row (some r) (d ∷ cs) h = column r.alone (lookup d r.columns) d cs h

abbrev ValidWords : List Word → Type 0
ValidWords = Every (λ (w : Word). Scalars w.text)

-- The text of the one token is the segment's characters, and these stand in the text.
whole_valid : (c : Char) (cs : Text) (s : Segment) → Takes c cs s → Whole s → Scalars (c ∷ cs) → Valid s
whole_valid c cs s t w h =
    words s.pieces (rw w.2 (rw t.took (scalars_split (c ∷ t.more) t.rest (rw t.split h)).0, tt))
  where
    words : (xs : List Piece) → ValidWords (map word xs) → ValidPieces xs
    words [] g = tt
    words (x ∷ xs) g = (g.0, words xs g.1)

slash_valid : (cs : Text) → Scalars (ch "/" ∷ cs) → Valid (parse_slash_or_comment cs)
unfolding parse_slash_or_comment line_doc line_comment block_doc block_comment
slash_valid cs h =
    if_all Valid (starts_with (text "//") cs) (λ _. (trim_valid _ (runs not_lf (drop 2 cs) (drops 2 cs h.1)), tt))
    (λ _. if_all Valid (starts_with (text "/") cs) (λ _. tt)
    (λ _. if_all Valid (starts_with (text "**") cs && not (starts_with (text "**/") cs)) (λ _. (doc_valid _ (up_to_lem (text "*/") (drop 2 cs) (drops 2 cs h.1)), tt))
    (λ _. if_all Valid (starts_with (text "*") cs) (λ _. tt) (λ _. mark_valid (ch "/") cs h))))

dollar_valid : (cs : Text) → Valid (parse_dollar cs)
unfolding parse_dollar dollar_braces
dollar_valid cs = if_all Valid (starts_with (text "{") cs) (λ _. (plain (text "${...}") refl, tt)) (λ _. (plain (text "$") refl, tt))

segment_valid : (c : Char) (cs : Text) → Scalars (c ∷ cs) → Valid (segment (c ∷ cs))
unfolding segment white_space
segment_valid c cs h =
    if_all Valid (is_white c) (λ _. tt)
    (λ _. if_all Valid (c is ch "/") (λ e. slash_valid cs (rw (is_eq c (ch "/") e) at h))
    (λ _. if_all Valid (c is ch "$") (λ _. dollar_valid cs)
    (λ _. if_all Valid (c is ch "\"") (λ _. quote_valid cs h.1)
    (λ _. if_all Valid (c is ch "'") (λ _. char_valid cs h.1)
    (λ _. if_all Valid (is_digit c) (λ d. whole_valid c cs _ (number_takes c cs d) (number_whole (c ∷ cs)) h)
    (λ _. if_all Valid (is_ident_start c) (λ i. whole_valid c cs _ (name_takes c cs (start_part c i)) (name_whole (c ∷ cs)) h) (λ _. mark_valid c cs h)))))))

-- ── Elements ──

abbrev ValidElement : Element → Type 0
ValidElement (lone w) = Scalars w.text
ValidElement (string ws) = ValidWords ws

abbrev pub ValidElements : List Element → Type 0
ValidElements = Every ValidElement

element_valid : (s : Segment) → Valid s → ValidElements (elements_of s)
unfolding elements_of
element_valid s h =
    if_all ValidElements (starts_with (text "\"") s.chars) (λ _. (every_map word _ _ (λ _ g. g) s.pieces h, tt))
    (λ _. every_map (λ x. lone (word x)) _ _ (λ _ g. g) s.pieces h)

segments_valid : (k : ℕ) (cs : Text) → Scalars cs → ValidElements (elements_in (segments k cs))
unfolding segments elements_in
segments_valid k [] h = tt
segments_valid (suc k) (c ∷ cs) h = segments_valid k cs h.1
segments_valid zero (c ∷ cs) h =
    let s = segment (c ∷ cs) in
    let k = size_behind_first s.chars in
    every_append _ (elements_of s) (elements_in (segments k cs)) (element_valid s (segment_valid c cs h)) (segments_valid k cs h.1)

pub elements_valid : (A : Text) → Scalars A → ValidElements (elements A)
unfolding elements
elements_valid A h = segments_valid 0 A h

-- ── The print ──

escaped_valid : (q c : Char) → Scalars (c ∷ []) → Scalars (escaped q c)
unfolding escaped
escaped_valid q c h =
    if_all Scalars (c is ch "\\" || c is q) (λ _. scalars_append (text "\\") (c ∷ []) (plain (text "\\") refl) h)
    (λ _. if_all Scalars (c is LF) (λ _. plain (text "\\n") refl)
    (λ _. if_all Scalars (c is ch "$" && q is ch "\"") (λ _. plain (text "\\u0024") refl) (λ _. h)))

escapes_valid : (q : Char) (t : Text) → Scalars t → Scalars (escapes q t)
unfolding escapes
escapes_valid q [] h = h
escapes_valid q (c ∷ t) h = scalars_append (escaped q c) (escapes q t) (escaped_valid q c (one c t h)) (escapes_valid q t h.1)

pub hex_low : (c : Char) → is_hex_digit c ≡ true → c ≤ 0x7F
unfolding is_hex_digit is_digit
hex_low c =
    or_case (is_digit c || within (ch "A") (ch "F") c) (within (ch "a") (ch "f") c)
    (or_case (is_digit c) (within (ch "A") (ch "F") c) (λ e. omega (arith, within_le (ch "0") (ch "9") c e)) (λ e. omega (arith, within_le (ch "A") (ch "F") c e)))
    (λ e. omega (arith, within_le (ch "a") (ch "f") c e))

hex_scalar : (c : Char) → is_hex_digit c ≡ true → is_scalar c ≡ true
hex_scalar c e = plain_scalar c (le-leb c 0x7F (hex_low c e))

number_valid : (c : Char) → is_word c ≡ true → Scalars (unicode c)
unfolding unicode
number_valid c e =
    let d = word_parts c e in
    scalars_append (text "\\u00") (hex_digit (c / 16) ∷ hex_digit (c % 16) ∷ []) (plain (text "\\u00") refl)
    (hex_scalar (hex_digit (c / 16)) d.high, (hex_scalar (hex_digit (c % 16)) d.low, tt))

literal_valid : (nm : Bool) (t : Text) → Scalars t → Scalars (literal nm t)
unfolding literal
literal_valid nm [] h = h
literal_valid nm (c ∷ t) h =
    scalars_append (if nm && is_word c then unicode c else escaped (ch "\"") c) (escapes (ch "\"") t)
    (if_all Scalars (nm && is_word c) (λ e. number_valid c (and_right nm (is_word c) e)) (λ _. escaped_valid (ch "\"") c (one c t h)))
    (escapes_valid (ch "\"") t h.1)

parting_valid : (nm : Bool) → Scalars (parting nm)
unfolding parting
parting_valid true = plain (text "\\uD800") refl
parting_valid false = tt

pieces_valid : (nm : Bool) (ws : List Word) → ValidWords ws → Scalars (pieces nm ws)
unfolding pieces
pieces_valid nm [] h = tt
pieces_valid nm (w ∷ ws) h =
    if_all Scalars (w.kind is StringInterpStart)
    (λ _. scalars_append (parting nm) (w.text ++ pieces (is_name w.text) ws) (parting_valid nm)
    (scalars_append w.text (pieces (is_name w.text) ws) h.0 (pieces_valid (is_name w.text) ws h.1)))
    (λ _. scalars_append (literal nm w.text) (pieces false ws) (literal_valid nm w.text h.0) (pieces_valid false ws h.1))

doc_lines_valid : (ls : List Text) → Every Scalars ls → Scalars (doc_lines ls)
unfolding doc_lines
doc_lines_valid [] h = tt
doc_lines_valid (l ∷ ls) h =
    scalars_append (text "* ") (l ++ (LF ∷ doc_lines ls)) (plain (text "* ") refl)
    (scalars_append l (LF ∷ doc_lines ls) h.0 (scalars_append (LF ∷ []) (doc_lines ls) (plain (LF ∷ []) refl) (doc_lines_valid ls h.1)))

quoted_valid : (q t : Text) → Scalars q → Scalars t → Scalars (q ++ (t ++ q))
quoted_valid q t h g = scalars_append q (t ++ q) h (scalars_append t q g h)

emitted_valid : (x : Element) → ValidElement x → Scalars (emitted x)
unfolding emitted character doc
emitted_valid (string ws) h = quoted_valid (text "\"") (pieces false ws) (plain (text "\"") refl) (pieces_valid false ws h)
emitted_valid (lone w) h =
    let t = w.text in
    if_all Scalars (w.kind is CharLiteral)
    (λ _. if_all Scalars (is_empty t) (λ _. plain (text "'\\uD800'") refl) (λ _. quoted_valid (text "'") (escapes (ch "'") t) (plain (text "'") refl) (escapes_valid (ch "'") t h)))
    (λ _. if_all Scalars (w.kind is DoubleColonT) (λ _. plain (text ":=") refl)
    (λ _. if_all Scalars (w.kind is StringInterpStart) (λ _. plain (text "${}") refl)
    (λ _. if_all Scalars (w.kind is DocComment)
    (λ _. if_all Scalars (one_of t LF)
    (λ _. scalars_append (text "/**\n") (doc_lines (lines t) ++ text "*/") (plain (text "/**\n") refl)
    (scalars_append (doc_lines (lines t)) (text "*/") (doc_lines_valid (lines t) (lines_valid t h)) (plain (text "*/") refl)))
    (λ _. scalars_append (text "/// ") t (plain (text "/// ") refl) h))
    (λ _. h))))

gap_valid : (d : Bool) (ts : List Element) → Scalars (gap d ts)
unfolding gap
gap_valid true ts = plain (LF ∷ []) refl
gap_valid false [] = tt
gap_valid false (t ∷ ts) = plain (text " ") refl

layout_valid : (ts : List Element) → ValidElements ts → Scalars (layout ts)
unfolding layout
layout_valid [] h = tt
layout_valid (t ∷ ts) h =
    scalars_append (emitted t) (gap (is_doc t) ts ++ layout ts) (emitted_valid t h.0) (scalars_append (gap (is_doc t) ts) (layout ts) (gap_valid (is_doc t) ts) (layout_valid ts h.1))

pub print_valid : (A : Text) → Scalars A → Scalars (print_text A)
unfolding print_text
print_valid A h = layout_valid (elements A) (elements_valid A h)
