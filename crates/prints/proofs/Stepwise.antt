-- The print one token at a time: what is written for the tokens of a script, one after another, is its print. So a loop that scans the
-- script and writes what each token asks for needs a state beside the cursor, and nothing else. Assumes nothing.
use Rattle.std.specs.Prelude.{if◌then◌else◌}
use mathlib.Core.Path.{◌≡◌, refl, sym, ap, ◌∙◌}
use mathlib.Core.Bool.{Bool, true, false, ◌&&◌, not, true≢false}
use mathlib.Core.List.{List, [], ◌∷◌, ◌++◌, map, append_assoc, append-nil}
use Prim.Native.Nat.{ℕ, suc, ◌≤◌, ◌<◌, ◌+◌, ◌*◌}
use native.Mathlib.Omega.{arith}
use lib.ListN.{length, drop, length-append}
use Rattle.characters.specs.Choice.{◌is◌}
use Rattle.byte_order_mark.specs.Mark.{after_mark}
use Rattle.characters.proofs.Choice.{if_both}
use Rattle.rules.specs.Text.{Text, ch, text, is_empty, Char, LF, one_of}
use Rattle.rules.specs.Tokens.{Token}
use Rattle.rules.specs.Tables.{StringInterpStart, EOF, CharLiteral, DoubleColonT, DocComment}
use Rattle.rules.specs.Docs.{lines, add_to_first}
use Rattle.rules.specs.Lexer.{lexed, eof}
use Rattle.rules.specs.Script.{accepted, script_text, as_bytes, script_tokens}
use Rattle.rules.proofs.Ahead.{is_not, is_eq}
use Rattle.rules.specs.Bounds.{Every}
use Rattle.rules.proofs.Starts.{AllAt}
use Rattle.rules.proofs.Fits.{body_and_eof}
use Rattle.prints.specs.Elements.{Word, Element, lone, string, token_word, script_elements}
use Rattle.prints.specs.Print.{escaped, escapes, unicode, is_word, literal, parting, is_name, pieces, emitted, is_doc, print_bytes, doc_lines, doc, character}
use Rattle.prints.specs.Records.{quote_at}
use Rattle.prints.specs.Writing.{due_space, doc_feed, written, one_piece, name_behind, State, outside, in_string, closing_quote, is_due, is_named, continues_at, begun, token_text, state_behind, write_tokens, starred, feeds}
use Rattle.prints.proofs.Facts.{is_same}
use Rattle.prints.proofs.Bytewise.{escapes_append, print_by_bytes, lines_some}
use Rattle.prints.proofs.Grouped.{NoEof, Grouped, no_more, alone, strung, script_grouped, IsPiece, piece_no_eof}
use Rattle.prints.proofs.Written.{layout_written}

-- ── Pieces ──

pieces_one : (nm : Bool) (w : Word) (ws : List Word) → pieces nm (w ∷ ws) ≡ one_piece nm w ++ pieces (name_behind w) ws
unfolding pieces one_piece name_behind
pieces_one nm w ws = go (w.kind is StringInterpStart)
  where
    go : (b : Bool) → (if b then parting nm ++ (w.text ++ pieces (is_name w.text) ws) else literal nm w.text ++ pieces false ws)
        ≡ (if b then parting nm ++ w.text else literal nm w.text) ++ pieces (b && is_name w.text) ws
    go true = sym (append_assoc (parting nm) w.text (pieces (is_name w.text) ws))
    go false = refl

-- A literal is written part by part: the first part as one behind what stands before, the rest escaped.
pub literal_append : (nm : Bool) (a b : Text) → is_empty a ≡ false → literal nm (a ++ b) ≡ literal nm a ++ escapes (ch "\"") b
unfolding literal is_empty
literal_append nm [] b h = absurd (true≢false h)
literal_append nm (c ∷ a) b h =
    let f = if nm && is_word c then unicode c else escaped (ch "\"") c in
    ap (λ r. f ++ r) (escapes_append (ch "\"") a b) ∙ sym (append_assoc f (escapes (ch "\"") a) (escapes (ch "\"") b))

pub piece_literal : (nm : Bool) (w : Word) → (w.kind is StringInterpStart) ≡ false → one_piece nm w ≡ literal nm w.text
unfolding one_piece
piece_literal nm w e = rw e

pub piece_interp : (nm : Bool) (w : Word) → (w.kind is StringInterpStart) ≡ true → one_piece nm w ≡ parting nm ++ w.text
unfolding one_piece
piece_interp nm w e = rw e

-- ── Tokens that stand alone ──

kind_not : (k m n : ℕ) → (m is n) ≡ false → (k is m) ≡ true → (k is n) ≡ false
kind_not k m n f e = ap (λ (x : ℕ). x is n) (is_eq k m e) ∙ f

pub begun_char : (w : Word) → (w.kind is CharLiteral) ≡ true → begun false w ≡ character w.text
unfolding begun emitted is_doc doc_feed
begun_char w e = rw (e, kind_not w.kind CharLiteral DocComment refl e) (append-nil (character w.text))

pub begun_assign : (w : Word) → (w.kind is DoubleColonT) ≡ true → begun false w ≡ text ":="
unfolding begun emitted is_doc doc_feed
begun_assign w e = rw (e, kind_not w.kind DoubleColonT CharLiteral refl e, kind_not w.kind DoubleColonT DocComment refl e)

pub begun_braces : (w : Word) → (w.kind is StringInterpStart) ≡ true → begun false w ≡ text "${}"
unfolding begun emitted is_doc doc_feed
begun_braces w e =
    rw (e, kind_not w.kind StringInterpStart CharLiteral refl e, kind_not w.kind StringInterpStart DoubleColonT refl e, kind_not w.kind StringInterpStart DocComment refl e)

pub begun_doc : (w : Word) → (w.kind is DocComment) ≡ true → begun false w ≡ doc w.text ++ (LF ∷ [])
unfolding begun emitted is_doc doc_feed
begun_doc w e =
    rw (e, kind_not w.kind DocComment CharLiteral refl e, kind_not w.kind DocComment DoubleColonT refl e, kind_not w.kind DocComment StringInterpStart refl e)

pub begun_plain : (w : Word) → (w.kind is CharLiteral) ≡ false → (w.kind is DoubleColonT) ≡ false → (w.kind is StringInterpStart) ≡ false
    → (w.kind is DocComment) ≡ false → begun false w ≡ w.text
unfolding begun emitted is_doc doc_feed
begun_plain w a b c d = rw (a, b, c, d) (append-nil w.text)

-- ── Doc comments ──

-- The lines of a doc text, written character by character.
add_starred : (c : Char) (l : Text) (ls : List Text) → doc_lines (add_to_first c (l ∷ ls)) ≡ text "* " ++ (c ∷ drop 2 (doc_lines (l ∷ ls)))
unfolding doc_lines add_to_first
add_starred c l ls = refl

doc_lines_starred : (t : Text) → doc_lines (lines t) ≡ text "* " ++ (starred t ++ (LF ∷ []))
unfolding lines starred
doc_lines_starred [] = unfold doc_lines in refl
doc_lines_starred (c ∷ t) = go (c is LF) (lines_some t) (doc_lines_starred t)
  where
    feed : (ls : List Text) → doc_lines ([] ∷ ls) ≡ text "* " ++ (LF ∷ doc_lines ls)
    feed ls = unfold doc_lines in refl

    more : (ls : List Text) → (l : Text) × (ms : List Text) × (ls ≡ l ∷ ms) → doc_lines ls ≡ text "* " ++ (starred t ++ (LF ∷ []))
        → doc_lines (add_to_first c ls) ≡ text "* " ++ (c ∷ (starred t ++ (LF ∷ [])))
    more ls (l, ms, e) ih =
        ap (λ x. doc_lines (add_to_first c x)) e
        ∙ (add_starred c l ms ∙ ap (λ x. text "* " ++ (c ∷ drop 2 x)) (sym (ap doc_lines e) ∙ ih))

    go : (b : Bool) → (l : Text) × (ms : List Text) × (lines t ≡ l ∷ ms) → doc_lines (lines t) ≡ text "* " ++ (starred t ++ (LF ∷ []))
        → doc_lines (if b then [] ∷ lines t else add_to_first c (lines t)) ≡ text "* " ++ ((if b then LF ∷ (text "* " ++ starred t) else c ∷ starred t) ++ (LF ∷ []))
    go true h ih = feed (lines t) ∙ ap (λ x. text "* " ++ (LF ∷ x)) ih
    go false h ih = more (lines t) h ih

pub doc_starred : (t : Text) → doc t ≡ (if one_of t LF then text "/**\n* " ++ (starred t ++ text "\n*/") else text "/// " ++ t)
unfolding doc
doc_starred t =
    ap (λ x. if one_of t LF then text "/**\n" ++ (x ++ text "*/") else text "/// " ++ t) (doc_lines_starred t)
    ∙ ap (λ x. if one_of t LF then text "/**\n* " ++ x else text "/// " ++ t) (append_assoc (starred t) (LF ∷ []) (text "*/"))

-- How long it gets: two characters more for each line feed.
starred_length : (t : Text) → length (starred t) ≡ length t + 2 * feeds t
unfolding starred feeds
starred_length [] = refl
starred_length (c ∷ t) = go (c is LF) (starred_length t)
  where
    go : (b : Bool) → length (starred t) ≡ length t + 2 * feeds t
        → length (if b then LF ∷ (text "* " ++ starred t) else c ∷ starred t) ≡ suc (length t) + 2 * (if b then suc (feeds t) else feeds t)
    go true ih = omega (arith, ih)
    go false ih = omega (arith, ih)

pub doc_length : (t : Text) → length (doc t) ≡ (if one_of t LF then length t + 2 * feeds t + 9 else length t + 4)
doc_length t =
    ap length (doc_starred t)
    ∙ if_both (λ (a : Text) (n : ℕ). length a ≡ n) (one_of t LF)
    (λ _. omega (arith, length-append (text "/**\n* ") (starred t ++ text "\n*/"), length-append (starred t) (text "\n*/"), starred_length t))
    (λ _. omega (arith, length-append (text "/// ") t))

-- ── Tokens ──

-- Every token from `n` on begins something new.
abbrev Before : State → ℕ → Type 0
Before (outside due) n = Unit {0}
Before (in_string m nm) n = m < n

not_continued : (state : State) (n m : ℕ) → Before state n → n ≤ m → continues_at state m ≡ false
unfolding continues_at
not_continued (outside due) n m h l = refl
not_continued (in_string k nm) n m h l = is_not k m (λ e. omega arith)

-- The state behind a token that begins something new.
abbrev state_from : Bool → Token → State
state_from quoted t = if quoted then in_string t.span.start (name_behind (token_word t)) else outside (not (is_doc (lone (token_word t))))

first_token : (q : ℕ → Bool) (state : State) (n : ℕ) (t : Token) (ts : List Token) → Before state n → n ≤ t.span.start → NoEof t
    → write_tokens q state (t ∷ ts)
    ≡ closing_quote state ++ (due_space (is_due state) ++ (begun (q t.span.start) (token_word t) ++ write_tokens q (state_from (q t.span.start) t) ts))
unfolding write_tokens token_text state_behind
first_token q state n t ts h l e =
    let b = q t.span.start in
    let w = token_word t in
    rw (e, not_continued state n t.span.start h l)
    (append_assoc (closing_quote state) (due_space (is_due state) ++ begun b w) (write_tokens q (state_from b t) ts)
    ∙ ap (λ r. closing_quote state ++ r) (append_assoc (due_space (is_due state)) (begun b w) (write_tokens q (state_from b t) ts)))

named_behind : Bool → List Word → Bool
named_behind nm [] = nm
named_behind nm (w ∷ ws) = named_behind (name_behind w) ws

-- A token that continues the string.
next_piece : (q : ℕ → Bool) (m : ℕ) (nm : Bool) (t : Token) (ts : List Token) → t.span.start ≡ m → NoEof t
    → write_tokens q (in_string m nm) (t ∷ ts) ≡ one_piece nm (token_word t) ++ write_tokens q (in_string m (name_behind (token_word t))) ts
unfolding write_tokens token_text state_behind continues_at is_named
next_piece q m nm t ts at e = rw (e, at, is_same m)

string_tokens : (q : ℕ → Bool) (m : ℕ) (nm : Bool) (g ts : List Token) → AllAt m g → Every IsPiece g
    → write_tokens q (in_string m nm) (g ++ ts) ≡ pieces nm (map token_word g) ++ write_tokens q (in_string m (named_behind nm (map token_word g))) ts
unfolding named_behind
string_tokens q m nm [] ts a h = unfold pieces in refl
string_tokens q m nm (t ∷ g) ts a h =
    let w = token_word t in
    let ws = map token_word g in
    let R = write_tokens q (in_string m (named_behind (name_behind w) ws)) ts in
    next_piece q m nm t (g ++ ts) a.0 (piece_no_eof t.kind h.0)
    ∙ (ap (λ r. one_piece nm w ++ r) (string_tokens q m (name_behind w) g ts a.1 h.1)
    ∙ (sym (append_assoc (one_piece nm w) (pieces (name_behind w) ws) R) ∙ ap (λ r. r ++ R) (sym (pieces_one nm w ws))))

-- The steps of a loop: a token, and EOF.
pub write_token : (q : ℕ → Bool) (state : State) (t : Token) (ts : List Token) → NoEof t
    → write_tokens q state (t ∷ ts) ≡ token_text (q t.span.start) state t ++ write_tokens q (state_behind (q t.span.start) state t) ts
unfolding write_tokens
write_token q state t ts e = rw e

pub write_eof : (q : ℕ → Bool) (state : State) (t : Token) (ts : List Token) → (t.kind is EOF) ≡ true → write_tokens q state (t ∷ ts) ≡ closing_quote state
unfolding write_tokens
write_eof q state t ts e = rw e

-- ── Elements ──

emitted_string : (w : Word) (ws : List Word) (R : Text)
    → (text "\"" ++ one_piece false w) ++ (pieces (name_behind w) ws ++ (text "\"" ++ R)) ≡ emitted (string (w ∷ ws)) ++ R
unfolding emitted
emitted_string w ws R =
    let P = pieces (name_behind w) ws in
    ap (λ r. ch "\"" ∷ r)
    (sym (append_assoc (one_piece false w) P (text "\"" ++ R))
    ∙ (ap (λ r. r ++ (text "\"" ++ R)) (sym (pieces_one false w ws)) ∙ sym (append_assoc (pieces false (w ∷ ws)) (text "\"") R)))

grouped_written : {q : ℕ → Bool} (n : ℕ) {ts : List Token} {xs : List Element} → Grouped q n ts xs → (state : State) → Before state n
    → (e : Token) → (e.kind is EOF) ≡ true → write_tokens q state (ts ++ (e ∷ [])) ≡ closing_quote state ++ written (is_due state) xs
grouped_written {q} n no_more state h e k = unfold write_tokens written in (rw k (sym (append-nil (closing_quote state))))
grouped_written {q} n (alone t {ts} {xs} l b c g) state h e k =
    let w = token_word t in
    let D = not (is_doc (lone w)) in
    let ih : write_tokens q (outside D) (ts ++ (e ∷ [])) ≡ written D xs = grouped_written (suc t.span.start) g (outside D) tt e k ∙ outside_written D xs in
    first_token q state n t (ts ++ (e ∷ [])) h l c
    ∙ (ap (λ x. closing_quote state ++ (due_space (is_due state) ++ (begun x w ++ write_tokens q (state_from x t) (ts ++ (e ∷ []))))) b
    ∙ (ap (λ r. closing_quote state ++ (due_space (is_due state) ++ (begun false w ++ r))) ih ∙ ap (λ r. closing_quote state ++ r) (lone_written (is_due state) w xs)))
  where
    outside_written : (d : Bool) (xs : List Element) → closing_quote (outside d) ++ written (is_due (outside d)) xs ≡ written d xs
    outside_written d xs = unfold closing_quote is_due in refl

    lone_written : (d : Bool) (w : Word) (xs : List Element)
        → due_space d ++ (begun false w ++ written (not (is_doc (lone w))) xs) ≡ written d (lone w ∷ xs)
    lone_written d w xs = unfold begun written in (ap (λ r. due_space d ++ r) (append_assoc (emitted (lone w)) (doc_feed (is_doc (lone w))) (written (not (is_doc (lone w))) xs)))
grouped_written {q} n (strung m t g {ts} {xs} l b a c r) state h e k =
    let w = token_word t in
    let ws = map token_word g in
    let nm = named_behind (name_behind w) ws in
    let E = ts ++ (e ∷ []) in
    let ih : write_tokens q (in_string m nm) E ≡ text "\"" ++ written true xs
    = grouped_written (suc m) r (in_string m nm) (omega arith) e k ∙ inside_written m nm xs in
    let begins : q t.span.start ≡ true = ap q a.0 ∙ b in
    let all : write_tokens q (in_string t.span.start (name_behind w)) (g ++ E) ≡ pieces (name_behind w) ws ++ (text "\"" ++ written true xs)
    = ap (λ x. write_tokens q (in_string x (name_behind w)) (g ++ E)) a.0
    ∙ (string_tokens q m (name_behind w) g E a.1 c.1 ∙ ap (λ y. pieces (name_behind w) ws ++ y) ih) in
    ap (λ y. write_tokens q state (t ∷ y)) (append_assoc g ts (e ∷ []))
    ∙ (first_token q state n t (g ++ E) h (omega (arith, a.0)) (piece_no_eof t.kind c.0)
    ∙ (ap (λ x. closing_quote state ++ (due_space (is_due state) ++ (begun x w ++ write_tokens q (state_from x t) (g ++ E)))) begins
    ∙ (ap (λ y. closing_quote state ++ (due_space (is_due state) ++ (begun true w ++ y))) all
    ∙ ap (λ y. closing_quote state ++ y) (string_written (is_due state) w ws xs))))
  where
    inside_written : (m : ℕ) (nm : Bool) (xs : List Element) → closing_quote (in_string m nm) ++ written (is_due (in_string m nm)) xs ≡ text "\"" ++ written true xs
    inside_written m nm xs = unfold closing_quote is_due in refl

    string_written : (d : Bool) (w : Word) (ws : List Word) (xs : List Element)
        → due_space d ++ (begun true w ++ (pieces (name_behind w) ws ++ (text "\"" ++ written true xs))) ≡ written d (string (w ∷ ws) ∷ xs)
    string_written d w ws xs = unfold begun written is_doc doc_feed in (ap (λ y. due_space d ++ y) (emitted_string w ws (written true xs)))

-- ── Scripts ──

-- The print of an accepted script is what is written for its tokens, one after another, from a state that owes nothing.
pub print_tokens : (s : List ℕ) → accepted s ≡ true → print_bytes s ≡ write_tokens (quote_at (after_mark s)) (outside false) (script_tokens s)
print_tokens s ok =
    let e = as_bytes (eof (lexed (script_text s)).stop) in
    print_by_bytes s
    ∙ (layout_written (script_elements s)
    ∙ sym (ap (write_tokens (quote_at (after_mark s)) (outside false)) (body_and_eof s)
    ∙ (grouped_written 0 (script_grouped s ok) (outside false) tt e refl ∙ (unfold closing_quote is_due in refl))))
