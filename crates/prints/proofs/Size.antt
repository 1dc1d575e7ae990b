-- The print of a script without errors has at most six times the script's bytes. Assumes nothing.
use Rattle.std.specs.Prelude.{if◌then◌else◌}
use mathlib.Core.Path.{◌≡◌, refl, sym, ap, ◌∙◌}
use mathlib.Core.Bool.{Bool, true, false, ◌&&◌, ◌||◌, not, true≢false, false≢true}
use mathlib.Core.List.{List, [], ◌∷◌, ◌++◌, map, map-append}
use mathlib.Core.Option.{Option, none, some}
use Prim.Native.Nat.{ℕ, zero, suc, ◌+◌, ◌*◌, ◌/◌, ◌%◌, ◌≤◌, zero-le}
use native.Mathlib.Omega.{arith}
use borrow.Author.Tests.{le-leb}
use lib.Dec.{leb}
use lib.ListN.{length, take, drop, length-append}
use Rattle.characters.specs.Choice.{◌is◌, within}
use Rattle.characters.specs.Utf8.{width, bytes}
use Rattle.characters.specs.Space.{is_white}
use Rattle.characters.proofs.Choice.{if_all}
use Rattle.characters.proofs.Texts.{bytes_append}
use Rattle.rules.specs.Text.{Char, Text, ch, text, one_of, LF, is_digit, is_hex_digit, is_ident_start, is_ident_part, is_empty}
use Rattle.rules.specs.Scan.{next, starts_with, run, Upto, up_to, closing}
use Rattle.rules.specs.Tables.{Ident, StringLiteral, StringInterpStart, DocComment, ESCAPES, lookup}
use Rattle.rules.specs.Segment.{Piece, piece, Fault, Segment, word_token}
use Rattle.rules.specs.Comments.{white_space, not_lf, line_comment, block_comment}
use Rattle.rules.specs.Numbers.{parse_number}
use Rattle.rules.specs.Names.{parse_identifier_or_keyword}
use Rattle.rules.specs.Marks.{parse_mark}
use Rattle.rules.specs.Strings.{parse_raw_string, Escape, hex_code, char_of, unicode_escape, plain_escape, escape, string_ran_out, string_broken, string_ended, Turn, stop, on, flush, other_escape, string_escape, brace_interp, name_interp, string_dollar, turn, follow, string_from, parse_string_tokens, parse_quote, is_interp_start}
use Rattle.rules.specs.Characters.{char_token, close_char, char_escape, parse_char}
use Rattle.rules.specs.Docs.{trim, lines, clean_doc, line_doc, block_doc, parse_slash_or_comment}
use Rattle.rules.specs.Lexer.{dollar_braces, parse_dollar, segment, size_behind_first, origin, errors, segments}
use Rattle.rules.proofs.Ahead.{and_right, is_eq}
use Rattle.rules.proofs.Front.{quote_takes, start_part}
use Rattle.rules.specs.Bounds.{chars_of_all}
use Rattle.rules.proofs.Bounds.{segments_are_text}
use Rattle.rules.proofs.Sizes.{width_high, width_low, brace_taken, run_taken, line_bytes, lines_bytes, trim_bytes, cleaner_bytes, chars_few}
use Rattle.prints.specs.Elements.{Word, Element, lone, string, word, elements_of, elements_in, elements}
use Rattle.prints.specs.Print.{hex_digit, unicode, escaped, escapes, is_word, literal, is_name, pieces, character, doc_lines, doc, emitted, is_doc, gap, layout, print_text, parting}
use Rattle.prints.proofs.Facts.{or_case, within_le}
use Rattle.prints.proofs.Laid.{NoFaults, errors_faults}
use Rattle.prints.proofs.Plain.{Plain, name_plain, number_plain, mark_plain_lem, no_comment, slash_plain, dollar_plain}
use Rattle.prints.proofs.Strung.{word_parts, interp_start}
use Rattle.prints.proofs.Signs.{OneAtMost, escape_small}
use Rattle.prints.proofs.Printed.{lone_elements, white_no_quote}

-- ── Strings, printed ──

-- What a piece costs at most.
cost : Word → ℕ
cost w = if w.kind is StringInterpStart then bytes w.text + 6 else 6 * length w.text

costs : List Word → ℕ
costs [] = 0
costs (w ∷ ws) = cost w + costs ws

escaped_size : (q c : Char) → bytes (escaped q c) ≤ 6
unfolding escaped
escaped_size q c =
    let w = width_high c in
    if_all (λ t. bytes t ≤ 6) (c is ch "\\" || c is q) (λ _. unfold bytes width in (omega arith))
    (λ _. if_all (λ t. bytes t ≤ 6) (c is LF) (λ _. unfold bytes width in (omega arith))
    (λ _. if_all (λ t. bytes t ≤ 6) (c is ch "$" && q is ch "\"") (λ _. unfold bytes width in (omega arith)) (λ _. unfold bytes width in (omega arith))))

escapes_size : (q : Char) (t : Text) → bytes (escapes q t) ≤ 6 * length t
unfolding escapes
escapes_size q [] = unfold bytes in zero-le
escapes_size q (c ∷ t) = omega (arith, bytes_append (escaped q c) (escapes q t), escaped_size q c, escapes_size q t)

hex_width : (c : Char) → is_hex_digit c ≡ true → width c ≤ 1
unfolding is_hex_digit is_digit width within
hex_width c e = go (leb c 0x7F) refl
  where
    small : c ≤ 0x7F
    small =
        or_case (is_digit c || within (ch "A") (ch "F") c) (within (ch "a") (ch "f") c)
        (or_case (is_digit c) (within (ch "A") (ch "F") c) (λ e. omega (arith, within_le (ch "0") (ch "9") c e)) (λ e. omega (arith, within_le (ch "A") (ch "F") c e)))
        (λ e. omega (arith, within_le (ch "a") (ch "f") c e)) e

    go : (b : Bool) → leb c 0x7F ≡ b → width c ≤ 1
    go true q = rw q (omega arith)
    go false q = absurd (true≢false (sym (le-leb c 0x7F small) ∙ q))

unicode_size : (c : Char) → is_word c ≡ true → bytes (unicode c) ≤ 6
unfolding unicode
unicode_size c e =
    let d = word_parts c e in
    let a = hex_width (hex_digit (c / 16)) d.high in
    let b = hex_width (hex_digit (c % 16)) d.low in
    omega (arith, bytes_append (text "\\u00") (hex_digit (c / 16) ∷ hex_digit (c % 16) ∷ []), four, two (hex_digit (c / 16)) (hex_digit (c % 16)))
  where
    four : bytes (text "\\u00") ≡ 4
    four = unfold bytes width in refl

    two : (x y : Char) → bytes (x ∷ y ∷ []) ≡ width x + (width y + 0)
    two x y = unfold bytes in refl

literal_size : (nm : Bool) (t : Text) → bytes (literal nm t) ≤ 6 * length t
unfolding literal
literal_size nm [] = unfold bytes in zero-le
literal_size nm (c ∷ t) =
    if_all (λ s. bytes (s ++ escapes (ch "\"") t) ≤ 6 * length (c ∷ t)) (nm && is_word c)
    (λ e. omega (arith, bytes_append (unicode c) (escapes (ch "\"") t), unicode_size c (and_right nm (is_word c) e), escapes_size (ch "\"") t))
    (λ _. omega (arith, bytes_append (escaped (ch "\"") c) (escapes (ch "\"") t), escaped_size (ch "\"") c, escapes_size (ch "\"") t))

parting_size : (nm : Bool) → bytes (parting nm) ≤ 6
unfolding parting bytes width
parting_size true = omega arith
parting_size false = zero-le

pieces_size : (nm : Bool) (ws : List Word) → bytes (pieces nm ws) ≤ costs ws
unfolding pieces costs cost
pieces_size nm [] = unfold bytes in zero-le
pieces_size nm (w ∷ ws) = go (w.kind is StringInterpStart) (pieces_size (is_name w.text) ws) (pieces_size false ws)
  where
    pre : Text
    pre = parting nm

    go : (b : Bool) → bytes (pieces (is_name w.text) ws) ≤ costs ws → bytes (pieces false ws) ≤ costs ws
        → bytes (if b then pre ++ (w.text ++ pieces (is_name w.text) ws) else literal nm w.text ++ pieces false ws)
        ≤ (if b then bytes w.text + 6 else 6 * length w.text) + costs ws
    go true h g =
        omega (arith, bytes_append pre (w.text ++ pieces (is_name w.text) ws), bytes_append w.text (pieces (is_name w.text) ws), parting_size nm)
    go false h g = omega (arith, bytes_append (literal nm w.text) (pieces false ws), literal_size nm w.text)

-- ── Strings, lexed ──

costs_append : (xs ys : List Word) → costs (xs ++ ys) ≡ costs xs + costs ys
unfolding costs
costs_append [] ys = omega arith
costs_append (x ∷ xs) ys = omega (arith, costs_append xs ys)

-- What comes out in a turn and is held back costs no more than what was held back before and what the turn takes.
TurnSize : Text → Char → Text → Turn → Type 0
TurnSize buf c cs (stop s) = costs (map word s.pieces) ≤ 6 * length buf + 6 * bytes s.chars
TurnSize buf c cs (on ps fs o k b x) = costs (map word ps) + 6 * length b ≤ 6 * length buf + 6 * width c + 6 * bytes (take k cs)

literal_cost : (i : ℕ) (buf : Text) → costs (map word (piece StringLiteral buf i ∷ [])) ≡ 6 * length buf
unfolding costs cost
literal_cost i buf = omega arith

flush_cost : (i : ℕ) (buf t : Text) (n : ℕ) → costs (map word (flush i buf ++ (piece StringInterpStart t n ∷ []))) ≡ 6 * length buf + (bytes t + 6)
unfolding flush is_empty costs cost
flush_cost i [] t n = omega arith
flush_cost i (c ∷ buf) t n = omega arith

ended_size : (i : ℕ) (buf : Text) (x : Bool) → costs (map word (string_ended i buf x).pieces) ≤ 6 * length buf
unfolding string_ended
ended_size i buf x =
    if_all (λ (ps : List Piece). costs (map word ps) ≤ 6 * length buf) (is_empty buf && x) (λ _. unfold costs in zero-le) (λ _. omega (arith, literal_cost (suc i) buf))

name_size : (i : ℕ) (buf : Text) (x : Bool) (cs : Text) → next is_ident_start cs ≡ true → TurnSize buf (ch "$") cs (name_interp i buf (run is_ident_part cs).taken)
unfolding name_interp TurnSize
name_size i buf x cs e =
    let name = (run is_ident_part cs).taken in
    rw (run_taken is_ident_part cs) (omega (arith, flush_cost i buf (ch "$" ∷ name) (i + suc (length name)), begins cs e, dollar name, width_low (ch "$")))
  where
    dollar : (t : Text) → bytes (ch "$" ∷ t) ≡ 1 + bytes t
    dollar t = unfold bytes width in refl

    begins : (cs : Text) → next is_ident_start cs ≡ true → 1 ≤ bytes (run is_ident_part cs).taken
    begins [] e = unfold next in (absurd (false≢true e))
    begins (c ∷ cs) e = unfold next run bytes in (rw (start_part c e) (omega (arith, width_low c)))

brace_size : (i : ℕ) (buf cs : Text) → starts_with (text "{") cs ≡ true → TurnSize buf (ch "$") cs (brace_interp i buf (up_to (text "}") (drop 1 cs)))
unfolding brace_interp TurnSize
brace_size i buf cs e =
    let u = up_to (text "}") (drop 1 cs) in
    let t = u.before ++ closing (text "}") u in
    rw (brace_taken cs e)
    (omega (
      arith,
      flush_cost i buf (text "${" ++ (u.before ++ text "}")) (i + length (text "${" ++ t)),
      open_bytes (u.before ++ text "}"),
      bytes_append u.before (text "}"),
      one,
      brace t,
      bytes_append u.before (closing (text "}") u),
      width_low (ch "$"),
    ))
  where
    open_bytes : (t : Text) → bytes (text "${" ++ t) ≡ 2 + bytes t
    open_bytes t = unfold bytes width in (omega arith)

    one : bytes (text "}") ≡ 1
    one = unfold bytes width in refl

    brace : (t : Text) → bytes (ch "{" ∷ t) ≡ 1 + bytes t
    brace t = unfold bytes width in refl

-- An escape stands for at most two characters, and is longer than that by itself.
code_length : (v : ℕ) → length (char_of v) ≤ 2
unfolding char_of within
code_length v = go (within 0xD800 0xDFFF v)
  where
    go : (b : Bool) → length (if b then [] else v ∷ []) ≤ 2
    go true = zero-le
    go false = omega arith

escape_length : (i : ℕ) (e : Char) (cs : Text) → length (escape i (other_escape i e) e cs).text ≤ 2
unfolding escape
escape_length i e cs = if_all (λ (x : Escape). length x.text ≤ 2) (e is ch "u") (λ _. uni (hex_code 4 0 cs)) (λ _. plain (lookup e ESCAPES))
  where
    uni : (o : Option ℕ) → length (unicode_escape i o).text ≤ 2
    uni none = unfold unicode_escape in zero-le
    uni (some v) = unfold unicode_escape in (code_length v)

    plain : (o : Option Char) → length (plain_escape (other_escape i e) o).text ≤ 2
    plain none = unfold plain_escape other_escape in (omega arith)
    plain (some c) = unfold plain_escape in (omega arith)

escape_size : (i : ℕ) (buf : Text) (x : Bool) (c : Char) (cs : Text) → TurnSize buf c cs (string_escape i buf x cs)
unfolding string_escape TurnSize costs
escape_size i buf x c [] = omega arith
escape_size i buf x c (e ∷ cs) =
    let t = escape (suc i) (other_escape (suc i) e) e cs in
    omega (arith, length-append buf t.text, escape_length (suc i) e cs, width_low c, first_bytes e (take t.extra cs))
  where
    first_bytes : (e : Char) (t : Text) → 1 ≤ bytes (e ∷ t)
    first_bytes e t = unfold bytes in (omega (arith, width_low e))

turn_size : (i : ℕ) (buf : Text) (x : Bool) (c : Char) (cs : Text) → TurnSize buf c cs (turn i buf x c cs)
unfolding turn string_dollar
turn_size i buf x c cs =
    let P = TurnSize buf c cs in
    if_all P (c is LF) (λ _. unfold TurnSize string_broken in (omega (arith, literal_cost i buf)))
    (λ _. if_all P (c is ch "\"") (λ _. unfold TurnSize in (omega (arith, ended_size i buf x)))
    (λ _. if_all P (c is ch "\\") (λ _. escape_size i buf x c cs)
    (λ _. if_all P (c is ch "$")
    (λ d. rw (is_eq c (ch "$") d)
    (if_all (TurnSize buf (ch "$") cs) (next is_interp_start cs)
    (λ e. if_all (TurnSize buf (ch "$") cs) (starts_with (text "{") cs) (λ b. brace_size i buf cs b) (λ n. name_size i buf x cs (interp_start cs e n)))
    (λ _. plain (ch "$"))))
    (λ _. plain c))))
  where
    plain : (d : Char) → TurnSize buf d cs (on [] [] false 0 (buf ++ (d ∷ [])) x)
    plain d = unfold TurnSize costs in (omega (arith, length-append buf (d ∷ []), width_low d))

follow_size : (buf : Text) (c : Char) (cs : Text) (t : Turn) (go : ℕ → Text → Bool → Segment) → TurnSize buf c cs t
    → ((k : ℕ) (b : Text) (y : Bool) → costs (map word (go k b y).pieces) + 6 * bytes (take k cs) ≤ 6 * length b + 6 * bytes (go k b y).chars)
    → costs (map word (follow c t go).pieces) ≤ 6 * length buf + 6 * bytes (follow c t go).chars
unfolding TurnSize bytes
follow_size buf c cs (stop s) go h hg = h
follow_size buf c cs (on ps fs o k b y) go h hg =
    rw (map-append word ps (go k b y).pieces, costs_append (map word ps) (map word (go k b y).pieces)) (omega (arith, hg k b y))

pub take_none : (k : ℕ) → bytes (take k []) ≡ 0
unfolding bytes
take_none zero = refl
take_none (suc k) = refl

string_size : (k i : ℕ) (buf : Text) (x : Bool) (cs : Text)
    → costs (map word (string_from k i buf x cs).pieces) + 6 * bytes (take k cs) ≤ 6 * length buf + 6 * bytes (string_from k i buf x cs).chars
unfolding string_from string_ran_out bytes
string_size k i buf x [] = omega (arith, literal_cost i buf, take_none k)
string_size (suc k) i buf x (c ∷ cs) = omega (arith, string_size k (suc i) buf x cs)
string_size zero i buf x (c ∷ cs) =
    omega (arith, follow_size buf c cs (turn i buf x c cs) (λ k b y. string_from k (suc i) b y cs) (turn_size i buf x c cs) (λ k b y. string_size k (suc i) b y cs))

-- ── Doc texts ──

doc_lines_size : (ls : List Text) → bytes (doc_lines ls) ≤ 3 * line_bytes ls
unfolding doc_lines line_bytes
doc_lines_size [] = unfold bytes in zero-le
doc_lines_size (l ∷ ls) = omega (arith, starred (l ++ (LF ∷ doc_lines ls)), bytes_append l (LF ∷ doc_lines ls), feed_bytes (doc_lines ls), doc_lines_size ls)
  where
    starred : (t : Text) → bytes (text "* " ++ t) ≡ 2 + bytes t
    starred t = unfold bytes width in (omega arith)

    feed_bytes : (t : Text) → bytes (LF ∷ t) ≡ 1 + bytes t
    feed_bytes t = unfold bytes width in refl

doc_size : (t : Text) → bytes (doc t) + 1 ≤ 3 * bytes t + 10
unfolding doc
doc_size t = go (one_of t LF)
  where
    slashes : bytes (text "/// ") ≡ 4
    slashes = unfold bytes width in refl

    opened : bytes (text "/**\n") ≡ 4
    opened = unfold bytes width in refl

    shut : bytes (text "*/") ≡ 2
    shut = unfold bytes width in refl

    go : (b : Bool) → bytes (if b then text "/**\n" ++ (doc_lines (lines t) ++ text "*/") else text "/// " ++ t) + 1 ≤ 3 * bytes t + 10
    go true =
        omega (arith, bytes_append (text "/**\n") (doc_lines (lines t) ++ text "*/"), bytes_append (doc_lines (lines t)) (text "*/"), opened, shut, doc_lines_size (lines t), lines_bytes t)
    go false = omega (arith, bytes_append (text "/// ") t, slashes)

-- ── Elements and segments ──

-- Every element with what stands behind it.
sizes : List Element → ℕ
sizes [] = 0
sizes (x ∷ xs) = bytes (emitted x) + 1 + sizes xs

gap_size : (d : Bool) (ts : List Element) → bytes (gap d ts) ≤ 1
unfolding gap bytes width
gap_size true ts = omega arith
gap_size false [] = zero-le
gap_size false (t ∷ ts) = omega arith

layout_size : (ts : List Element) → bytes (layout ts) ≤ sizes ts
unfolding layout sizes
layout_size [] = unfold bytes in zero-le
layout_size (t ∷ ts) =
    omega (arith, bytes_append (emitted t) (gap (is_doc t) ts ++ layout ts), bytes_append (gap (is_doc t) ts) (layout ts), gap_size (is_doc t) ts, layout_size ts)

sizes_append : (xs ys : List Element) → sizes (xs ++ ys) ≡ sizes xs + sizes ys
unfolding sizes
sizes_append [] ys = omega arith
sizes_append (x ∷ xs) ys = omega (arith, sizes_append xs ys)

-- The elements of a segment (without ∷ an) error are printed in at most six times its bytes.
abbrev Sized : Segment → Type 0
Sized s = s.faults ≡ [] → sizes (elements_of s) ≤ 6 * bytes s.chars

pub some_bytes : (c : Char) (t : Text) → 1 ≤ bytes (c ∷ t)
unfolding bytes
some_bytes c t = omega (arith, width_low c)

plain_sized : (c : Char) (s : Segment) (again : Text → Segment) → (c is ch "\"") ≡ false → Plain c s again → sizes (elements_of s) ≤ 6 * bytes s.chars
unfolding sizes
plain_sized c s again q p =
    let one : elements_of s ≡ lone p.token ∷ [] = lone_elements s c p.more p.took q ∙ ap (map lone) p.only in
    rw one (omega (arith, ap bytes p.spelled, ap bytes p.took, some_bytes c p.more))

white_sized : (c : Char) → is_white c ≡ true → sizes (elements_of (white_space c)) ≤ 6 * bytes (white_space c).chars
unfolding elements_of white_space starts_with sizes
white_sized c e = rw (white_no_quote c e) zero-le

doc_sized : (t : Text) (n : ℕ) → 3 * bytes t + 10 ≤ n → sizes (lone (record { kind = DocComment; text = t }) ∷ []) ≤ n
unfolding sizes emitted
doc_sized t n h = omega (arith, doc_size t)

line_doc_sized : (cs : Text) → sizes (elements_of (line_doc cs)) ≤ 6 * bytes (line_doc cs).chars
unfolding elements_of line_doc starts_with
line_doc_sized cs =
    let t = (run not_lf cs).taken in
    doc_sized (trim t) (6 * bytes (text "///" ++ t)) (omega (arith, trim_bytes t, bytes_append (text "///") t, three))
  where
    three : bytes (text "///") ≡ 3
    three = unfold bytes width in refl

block_doc_sized : (u : Upto) → sizes (elements_of (block_doc u)) ≤ 6 * bytes (block_doc u).chars
unfolding elements_of block_doc starts_with
block_doc_sized u =
    let t = u.before in
    let r = t ++ closing (text "*/") u in
    doc_sized (clean_doc t) (6 * bytes (text "/**" ++ r)) (omega (arith, cleaner_bytes t, bytes_append (text "/**") r, bytes_append t (closing (text "*/") u), three))
  where
    three : bytes (text "/**") ≡ 3
    three = unfold bytes width in refl

slash_sized : (cs : Text) → Sized (parse_slash_or_comment cs)
unfolding parse_slash_or_comment line_comment block_comment elements_of starts_with sizes
slash_sized cs =
    if_all Sized (starts_with (text "//") cs) (λ _ _. line_doc_sized (drop 2 cs))
    (λ _. if_all Sized (starts_with (text "/") cs) (λ _ _. zero-le)
    (λ n₁. if_all Sized (starts_with (text "**") cs && not (starts_with (text "**/") cs)) (λ _ _. block_doc_sized (up_to (text "*/") (drop 2 cs)))
    (λ _. if_all Sized (starts_with (text "*") cs) (λ _ _. zero-le)
    (λ n₂ e. plain_sized (ch "/") (parse_mark (ch "/") cs) parse_slash_or_comment refl (slash_plain cs (no_comment cs n₁ n₂) e)))))

braces_sized : (u : Upto) → sizes (elements_of (dollar_braces u)) ≤ 6 * bytes (dollar_braces u).chars
unfolding dollar_braces elements_of starts_with sizes emitted
braces_sized u =
    let r = u.before ++ closing (text "}") u in
    omega (arith, bytes_append (text "${") r, two, three)
  where
    two : bytes (text "${") ≡ 2
    two = unfold bytes width in refl

    three : bytes (text "${}") ≡ 3
    three = unfold bytes width in refl

dollar_sized : (cs : Text) → Sized (parse_dollar cs)
unfolding parse_dollar
dollar_sized cs =
    if_all Sized (starts_with (text "{") cs) (λ _ _. braces_sized (up_to (text "}") (drop 1 cs)))
    (λ _ _. plain_sized (ch "$") (word_token Ident (ch "$" ∷ [])) parse_dollar refl dollar_plain)

raw_costs : (u : Upto) → costs (map word (parse_raw_string u).pieces) + 3 ≤ 6 * bytes (parse_raw_string u).chars
unfolding parse_raw_string
raw_costs u =
    let r = u.before ++ closing (text "\"\"\"") u in
    omega (arith, literal_cost (length (text "\"\"\"" ++ r)) u.before, chars_few u.before, bytes_append (text "\"\"\"") r, bytes_append u.before (closing (text "\"\"\"") u), three)
  where
    three : bytes (text "\"\"\"") ≡ 3
    three = unfold bytes width in refl

string_costs : (cs : Text) → costs (map word (parse_string_tokens cs).pieces) + 3 ≤ 6 * bytes (parse_string_tokens cs).chars
unfolding parse_string_tokens bytes
string_costs cs = omega (arith, string_size 0 1 [] false cs, width_low (ch "\""))

quote_costs : (cs : Text) → costs (map word (parse_quote cs).pieces) + 3 ≤ 6 * bytes (parse_quote cs).chars
unfolding parse_quote
quote_costs cs =
    if_all (λ (s : Segment). costs (map word s.pieces) + 3 ≤ 6 * bytes s.chars) (starts_with (text "\"\"") cs)
    (λ _. raw_costs (up_to (text "\"\"\"") (drop 2 cs))) (λ _. string_costs cs)

quote_elements : (cs : Text) → elements_of (parse_quote cs) ≡ string (map word (parse_quote cs).pieces) ∷ []
unfolding elements_of starts_with
quote_elements cs = rw (quote_takes cs).took

quote_sized : (cs : Text) → Sized (parse_quote cs)
unfolding sizes emitted
quote_sized cs e =
    let ws = map word (parse_quote cs).pieces in
    rw (quote_elements cs)
    (omega (arith, quote_costs cs, pieces_size false ws, bytes_append (text "\"") (pieces false ws ++ text "\""), bytes_append (pieces false ws) (text "\""), one))
  where
    one : bytes (text "\"") ≡ 1
    one = unfold bytes width in refl

char_size : (t : Text) → OneAtMost t → bytes (character t) ≤ 8
unfolding character is_empty escapes
char_size [] h = unfold bytes width in (omega arith)
char_size (c ∷ []) h =
    omega (arith, bytes_append (text "'") ((escaped (ch "'") c ++ []) ++ text "'"), bytes_append (escaped (ch "'") c ++ []) (text "'"), bytes_append (escaped (ch "'") c) [], escaped_size (ch "'") c, one, none_bytes)
  where
    one : bytes (text "'") ≡ 1
    one = unfold bytes width in refl

    none_bytes : bytes [] ≡ 0
    none_bytes = unfold bytes in refl
char_size (c ∷ d ∷ t) h = absurd h

char_token_sized : (c : Char) (more t : Text) (fs : List Fault) (o : Bool) → OneAtMost t → sizes (elements_of (char_token (ch "'" ∷ c ∷ more) t fs o)) ≤ 6 * bytes (ch "'" ∷ c ∷ more)
unfolding elements_of starts_with sizes emitted
char_token_sized c more t fs o h = omega (arith, char_size t h, two c more)
  where
    two : (c : Char) (t : Text) → 2 ≤ bytes (ch "'" ∷ c ∷ t)
    two c t = unfold bytes in (omega (arith, width_low (ch "'"), width_low c))

close_sized : (c : Char) (more t : Text) (fs : List Fault) (rest : Text) → OneAtMost t → Sized (close_char (ch "'" ∷ c ∷ more) t fs rest)
unfolding close_char
close_sized c more t fs rest h =
    if_all Sized (starts_with (text "'") rest) (λ _ _. char_token_sized c (more ++ text "'") t fs false h) (λ _ _. char_token_sized c more t _ false h)

char_sized : (cs : Text) → Sized (parse_char cs)
unfolding parse_char char_escape
char_sized [] = λ e. let z : ◌≡◌ {A = ℕ} 0 1 = cc in absurd (omega arith)
char_sized (c ∷ cs) = if_all Sized (c is ch "\\") (λ _. esc cs) (λ _. close_sized c [] (c ∷ []) [] cs tt)
  where
    esc : (cs : Text) → Sized (char_escape cs)
    esc [] = λ e. char_token_sized (ch "\\") [] [] _ true tt
    esc (e ∷ cs) = close_sized (ch "\\") _ _ _ _ (escape_small 2 e cs)

segment_sized : (c : Char) (cs : Text) → Sized (segment (c ∷ cs))
unfolding segment
segment_sized c cs =
    if_all Sized (is_white c) (λ e _. white_sized c e)
    (λ _. if_all Sized (c is ch "/") (λ _. slash_sized cs)
    (λ _. if_all Sized (c is ch "$") (λ _. dollar_sized cs)
    (λ _. if_all Sized (c is ch "\"") (λ _. quote_sized cs)
    (λ n₄. if_all Sized (c is ch "'") (λ _. char_sized cs)
    (λ _. if_all Sized (is_digit c) (λ d _. plain_sized c (parse_number (c ∷ cs)) (λ t. parse_number (c ∷ t)) n₄ (number_plain c cs d))
    (λ _. if_all Sized (is_ident_start c) (λ i _. plain_sized c (parse_identifier_or_keyword (c ∷ cs)) (λ t. parse_identifier_or_keyword (c ∷ t)) n₄ (name_plain c cs i))
    (λ _ e. plain_sized c (parse_mark c cs) (parse_mark c) n₄ (mark_plain_lem c cs e))))))))

segments_sized : (k : ℕ) (cs : Text) → NoFaults (segments k cs) → sizes (elements_in (segments k cs)) ≤ 6 * bytes (chars_of_all (segments k cs))
unfolding segments elements_in chars_of_all sizes
segments_sized k [] h = zero-le
segments_sized (suc k) (c ∷ cs) h = segments_sized k cs h
segments_sized zero (c ∷ cs) h =
    let s = segment (c ∷ cs) in
    let k = size_behind_first s.chars in
    omega (
      arith,
      sizes_append (elements_of s) (elements_in (segments k cs)),
      bytes_append s.chars (chars_of_all (segments k cs)),
      segment_sized c cs h.0,
      segments_sized k cs h.1,
    )

pub print_size : (A : Text) → errors A ≡ [] → bytes (print_text A) ≤ 6 * bytes A
unfolding print_text elements errors
print_size A e =
    omega (
      arith,
      layout_size (elements_in (segments 0 A)),
      segments_sized 0 A (errors_faults 0 origin A e),
      ap bytes (segments_are_text A),
    )
