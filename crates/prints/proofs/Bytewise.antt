-- The print can be written byte by byte: what is escaped is below U+0080, so the print's bytes are the layout of the elements with their
-- texts as bytes. Assumes nothing.
use Rattle.std.specs.Prelude.{if◌then◌else◌}
use mathlib.Core.Path.{◌≡◌, refl, sym, ap, ap₂, ◌∙◌}
use mathlib.Core.Logic.{◌⊎◌, inl, inr}
use mathlib.Core.Bool.{Bool, true, false, ◌&&◌, ◌||◌, not}
use mathlib.Core.List.{List, [], ◌∷◌, ◌++◌, map, append_assoc, append-nil}
use Prim.Native.Nat.{ℕ, ◌/◌, ◌%◌, ◌≤◌, ◌<◌}
use native.Mathlib.Omega.{arith}
use borrow.Author.Tests.{leb-true}
use lib.Dec.{leb}
use lib.ListN.{length}
use Rattle.characters.specs.Choice.{◌is◌}
use Rattle.characters.specs.Utf8.{encode_char, encode}
use Rattle.characters.proofs.Choice.{if_all, if_both, le_or_lt}
use Rattle.characters.proofs.Widths.{char_length, encode_one}
use Rattle.characters.proofs.Texts.{encode_append}
use Rattle.rules.specs.Text.{Char, Text, ch, text, LF, one_of, is_empty}
use Rattle.rules.specs.Scan.{starts_with}
use Rattle.rules.specs.Tables.{CharLiteral, DoubleColonT, StringInterpStart, DocComment}
use Rattle.rules.specs.Docs.{lines, add_to_first}
use Rattle.rules.specs.Script.{script_text}
use Rattle.rules.proofs.Ahead.{and_right, is_eq, is_not}
use Rattle.rules.specs.Bounds.{Every}
use Rattle.rules.proofs.Every.{every_append}
use Rattle.rules.proofs.Sizes.{width_low}
use Rattle.rules.proofs.Fits.{encode_ascii}
use Rattle.prints.specs.Elements.{Word, Element, lone, elements, word_bytes, element_bytes, script_elements, string}
use Rattle.prints.specs.Print.{hex_digit, unicode, escaped, escapes, is_word, parting, is_name, pieces, character, doc_lines, doc, emitted, is_doc, gap, layout, print_text, print_bytes, literal}
use Rattle.prints.proofs.Facts.{and_no}
use Rattle.prints.proofs.Strung.{word_parts, word_small}
use Rattle.prints.proofs.Valid.{hex_low, low_text}

-- ── Bytes of a character ──

abbrev Low : Text → Type 0
Low = Every (λ (c : ℕ). c ≤ 0x7F)

abbrev High : Text → Type 0
High = Every (λ (c : ℕ). 0x80 ≤ c)

-- The bytes of a character: itself below U+0080, and else one high byte and more.
pub data BytesOf (c : Char) : Type 0 where
  low : c ≤ 0x7F → encode_char c ≡ c ∷ [] → BytesOf c
  high : 0x80 ≤ c → (b : ℕ) (bs : List ℕ) → encode_char c ≡ b ∷ bs → 0x80 ≤ b → High bs → BytesOf c

high_octets : (c : Char) → 0x7F < c → High (encode_char c)
unfolding encode_char
high_octets c h =
    if_all High (leb c 0x7F) (λ e. let g = leb-true c 0x7F e in absurd (omega arith))
    (λ _. if_all High (leb c 0x7FF) (λ _. (omega arith, (omega arith, tt)))
    (λ _. if_all High (leb c 0xFFFF) (λ _. (omega arith, (omega arith, (omega arith, tt)))) (λ _. (omega arith, (omega arith, (omega arith, (omega arith, tt)))))))

pub bytes_of_char : (c : Char) → BytesOf c
bytes_of_char c = go (le_or_lt c 0x7F)
  where
    bytes_of : (l : List ℕ) → encode_char c ≡ l → High l → 0x7F < c → 1 ≤ length l → BytesOf c
    bytes_of [] q g h n = absurd (omega arith)
    bytes_of (b ∷ bs) q g h n = high (omega arith) b bs q g.0 g.1

    go : (c ≤ 0x7F) ⊎ (0x7F < c) → BytesOf c
    go (inl h) = low h (encode_one c h)
    go (inr h) = bytes_of (encode_char c) refl (high_octets c h) h (omega (arith, char_length c, width_low c))

encode_cons : (c : Char) (t : Text) → encode (c ∷ t) ≡ encode_char c ++ encode t
unfolding encode
encode_cons c t = refl

-- ── Escapes ──

not_low : (c d : ℕ) → 0x80 ≤ c → d ≤ 0x7F → (c is d) ≡ false
not_low c d h g = is_not c d (λ e. omega arith)

escaped_high : (q c : Char) → q ≤ 0x7F → 0x80 ≤ c → escaped q c ≡ c ∷ []
unfolding escaped
escaped_high q c l h =
    rw (not_low c (ch "\\") h (omega arith), not_low c q h l, not_low c LF h (omega arith), not_low c (ch "$") h (omega arith))

escaped_low : (q c : Char) → c ≤ 0x7F → Low (escaped q c)
unfolding escaped
escaped_low q c h =
    if_all Low (c is ch "\\" || c is q) (λ _. (omega arith, (h, tt)))
    (λ _. if_all Low (c is LF) (λ _. low_text (text "\\n") refl)
    (λ _. if_all Low (c is ch "$" && q is ch "\"") (λ _. low_text (text "\\u0024") refl) (λ _. (h, tt))))

pub escapes_append : (q : Char) (a b : Text) → escapes q (a ++ b) ≡ escapes q a ++ escapes q b
unfolding escapes
escapes_append q [] b = refl
escapes_append q (c ∷ a) b =
    ap (λ r. escaped q c ++ r) (escapes_append q a b) ∙ sym (append_assoc (escaped q c) (escapes q a) (escapes q b))

escapes_high : (q : Char) (a : Text) → q ≤ 0x7F → High a → escapes q a ≡ a
unfolding escapes
escapes_high q [] l h = refl
escapes_high q (c ∷ a) l h = rw (escaped_high q c l h.0, escapes_high q a l h.1)

pub escapes_char : (q c : Char) → q ≤ 0x7F → escapes q (encode_char c) ≡ encode (escaped q c)
escapes_char q c l = go (bytes_of_char c)
  where
    one : (q c : Char) → escapes q (c ∷ []) ≡ escaped q c ++ []
    one q c = unfold escapes in refl

    char : (c : Char) → encode (c ∷ []) ≡ encode_char c ++ []
    char c = unfold encode in refl

    go : BytesOf c → escapes q (encode_char c) ≡ encode (escaped q c)
    go (low h e) = ap (escapes q) e ∙ (one q c ∙ (append-nil (escaped q c) ∙ sym (encode_ascii (escaped q c) (escaped_low q c h))))
    go (high h b bs e g gs) =
        ap (escapes q) e
        ∙ (escapes_high q (b ∷ bs) l (g, gs) ∙ (sym e ∙ (sym (append-nil (encode_char c)) ∙ (sym (char c) ∙ ap encode (sym (escaped_high q c l h))))))

pub escapes_encode : (q : Char) (t : Text) → q ≤ 0x7F → escapes q (encode t) ≡ encode (escapes q t)
unfolding encode escapes
escapes_encode q [] l = refl
escapes_encode q (c ∷ t) l =
    escapes_append q (encode_char c) (encode t)
    ∙ (ap₂ (λ a b. a ++ b) (escapes_char q c l) (escapes_encode q t l) ∙ sym (encode_append (escaped q c) (escapes q t)))

-- ── Strings ──

-- A high byte is no letter, digit or underscore.
word_low : (c : Char) → is_word c ≡ true → c ≤ 0x7F
word_low c e = let h = word_small c e in omega arith

high_word : (c : Char) → 0x80 ≤ c → is_word c ≡ false
high_word c h = go (is_word c) refl
  where
    go : (b : Bool) → is_word c ≡ b → b ≡ false
    go true e = let l = word_low c e in absurd (omega arith)
    go false e = refl

literal_plain : (nm : Bool) (c : Char) (t : Text) → is_word c ≡ false → literal nm (c ∷ t) ≡ escapes (ch "\"") (c ∷ t)
unfolding literal escapes
literal_plain nm c t e = rw (e, and_no nm)

unicode_low : (c : Char) → is_word c ≡ true → Low (unicode c)
unfolding unicode
unicode_low c e =
    let d = word_parts c e in
    every_append (λ (c : ℕ). c ≤ 0x7F) (text "\\u00") (hex_digit (c / 16) ∷ hex_digit (c % 16) ∷ []) (low_text (text "\\u00") refl)
    (hex_low (hex_digit (c / 16)) d.high, (hex_low (hex_digit (c % 16)) d.low, tt))

first_low : (nm : Bool) (c : Char) → c ≤ 0x7F → Low (if nm && is_word c then unicode c else escaped (ch "\"") c)
first_low nm c h =
    if_all Low (nm && is_word c) (λ e. unicode_low c (and_right nm (is_word c) e)) (λ _. escaped_low (ch "\"") c h)

pub literal_encode : (nm : Bool) (t : Text) → literal nm (encode t) ≡ encode (literal nm t)
literal_encode nm [] = unfold literal encode in refl
literal_encode nm (c ∷ t) = go (bytes_of_char c)
  where
    q : Char
    q = ch "\""

    start : Text
    start = if nm && is_word c then unicode c else escaped (ch "\"") c

    split : (r : Text) → literal nm (c ∷ r) ≡ start ++ escapes (ch "\"") r
    split r = unfold literal in refl

    go : BytesOf c → literal nm (encode (c ∷ t)) ≡ encode (literal nm (c ∷ t))
    go (low h e) =
        ap (literal nm) (encode_cons c t ∙ ap (λ l. l ++ encode t) e)
        ∙ (split (encode t)
        ∙ (ap₂ (λ a b. a ++ b) (sym (encode_ascii start (first_low nm c h))) (escapes_encode q t (omega arith))
        ∙ (sym (encode_append start (escapes q t)) ∙ ap encode (sym (split t)))))
    go (high h b bs e g gs) =
        ap (literal nm) (encode_cons c t ∙ ap (λ l. l ++ encode t) e)
        ∙ (literal_plain nm b (bs ++ encode t) (high_word b g)
        ∙ (ap (λ l. escapes q (l ++ encode t)) (sym e)
        ∙ (ap (escapes q) (sym (encode_cons c t)) ∙ (escapes_encode q (c ∷ t) (omega arith) ∙ ap encode (sym (literal_plain nm c t (high_word c h)))))))

parting_encode : (nm : Bool) → encode (parting nm) ≡ parting nm
unfolding parting
parting_encode true = encode_ascii (text "\\uD800") (low_text (text "\\uD800") refl)
parting_encode false = unfold encode in refl

starts_encode : (m t : Text) → Low m → starts_with m (encode t) ≡ starts_with m t
unfolding starts_with
starts_encode [] t h = refl
starts_encode (p ∷ ps) [] h = unfold encode in refl
starts_encode (p ∷ ps) (c ∷ t) h = go (bytes_of_char c) (starts_encode ps t h.1)
  where
    go : BytesOf c → starts_with ps (encode t) ≡ starts_with ps t → starts_with (p ∷ ps) (encode (c ∷ t)) ≡ (c is p && starts_with ps t)
    go (low l e) ih = ap (starts_with (p ∷ ps)) (encode_cons c t ∙ ap (λ l. l ++ encode t) e) ∙ ap (λ b. c is p && b) ih
    go (high l b bs e g gs) ih =
        ap (starts_with (p ∷ ps)) (encode_cons c t ∙ ap (λ l. l ++ encode t) e) ∙ rw (not_low b p g h.0, not_low c p l h.0)

name_encode : (t : Text) → is_name (encode t) ≡ is_name t
unfolding is_name
name_encode t = ap not (starts_encode (text "${") t (low_text (text "${") refl))

pub pieces_encode : (nm : Bool) (ws : List Word) → pieces nm (map word_bytes ws) ≡ encode (pieces nm ws)
unfolding pieces
pieces_encode nm [] = unfold encode in refl
pieces_encode nm (w ∷ ws) =
    if_both (λ (a b : Text). a ≡ encode b) (w.kind is StringInterpStart)
    (λ _. ap₂ (λ (n : Bool) (p : Text). p ++ (encode w.text ++ pieces n (map word_bytes ws))) (name_encode w.text) (sym (parting_encode nm))
    ∙ (ap (λ r. encode (parting nm) ++ (encode w.text ++ r)) (pieces_encode (is_name w.text) ws)
    ∙ (ap (λ r. encode (parting nm) ++ r) (sym (encode_append w.text (pieces (is_name w.text) ws))) ∙ sym (encode_append (parting nm) (w.text ++ pieces (is_name w.text) ws)))))
    (λ _. ap₂ (λ a b. a ++ b) (literal_encode nm w.text) (pieces_encode false ws) ∙ sym (encode_append (literal nm w.text) (pieces false ws)))

-- ── Characters and doc comments ──

pub empty_encode : (t : Text) → is_empty (encode t) ≡ is_empty t
empty_encode [] = unfold encode in refl
empty_encode (c ∷ t) = go (encode_char c) refl (omega (arith, char_length c, width_low c))
  where
    go : (l : List ℕ) → encode_char c ≡ l → 1 ≤ length l → is_empty (encode (c ∷ t)) ≡ is_empty (c ∷ t)
    go [] e n = absurd (omega arith)
    go (b ∷ bs) e n = ap is_empty (encode_cons c t ∙ ap (λ l. l ++ encode t) e) ∙ (unfold is_empty in refl)

-- Between two equal marks.
quoted_encode : (m t u : Text) → Low m → t ≡ encode u → m ++ (t ++ m) ≡ encode (m ++ (u ++ m))
quoted_encode m t u h e =
    let q = encode_ascii m h in
    ap₂ (λ a b. a ++ (b ++ a)) (sym q) e ∙ (ap (λ r. encode m ++ r) (sym (encode_append u m)) ∙ sym (encode_append m (u ++ m)))

character_encode : (t : Text) → character (encode t) ≡ encode (character t)
unfolding character
character_encode t =
    ap (λ b. if b then text "'\\uD800'" else text "'" ++ (escapes (ch "'") (encode t) ++ text "'")) (empty_encode t)
    ∙ if_both (λ (a b : Text). a ≡ encode b) (is_empty t) (λ _. sym (encode_ascii (text "'\\uD800'") (low_text (text "'\\uD800'") refl)))
    (λ _. quoted_encode (text "'") (escapes (ch "'") (encode t)) (escapes (ch "'") t) (low_text (text "'") refl) (escapes_encode (ch "'") t (omega arith)))

feed_high : (a r : Text) → High a → one_of (a ++ r) LF ≡ one_of r LF
unfolding one_of
feed_high [] r h = refl
feed_high (b ∷ a) r h = let g = h.0 in rw (is_not LF b (λ e. omega arith)) (feed_high a r h.1)

feed_encode : (t : Text) → one_of (encode t) LF ≡ one_of t LF
unfolding one_of
feed_encode [] = unfold encode in refl
feed_encode (c ∷ t) = go (bytes_of_char c) (feed_encode t)
  where
    go : BytesOf c → one_of (encode t) LF ≡ one_of t LF → one_of (encode (c ∷ t)) LF ≡ (LF is c || one_of t LF)
    go (low l e) ih = ap (λ l. one_of l LF) (encode_cons c t ∙ ap (λ l. l ++ encode t) e) ∙ ap (λ b. LF is c || b) ih
    go (high l b bs e g gs) ih =
        ap (λ l. one_of l LF) (encode_cons c t ∙ ap (λ l. l ++ encode t) e)
        ∙ (feed_high (b ∷ bs) (encode t) (g, gs) ∙ (ih ∙ ap (λ x. x || one_of t LF) (sym (is_not LF c (λ e. omega arith)))))

pub lines_some : (t : Text) → (l : Text) × (ls : List Text) × (lines t ≡ l ∷ ls)
unfolding lines add_to_first
lines_some [] = ([], [], refl)
lines_some (c ∷ t) =
    let h = lines_some t in
    if_all (λ (x : List Text). (l : Text) × (ls : List Text) × (x ≡ l ∷ ls)) (c is LF) (λ _. ([], lines t, refl)) (λ _. (c ∷ h.0, h.1, rw h.2))

lines_high : (a r l : Text) (ls : List Text) → High a → lines r ≡ l ∷ ls → lines (a ++ r) ≡ (a ++ l) ∷ ls
unfolding lines add_to_first
lines_high [] r l ls h e = e
lines_high (b ∷ a) r l ls h e = rw (not_low b LF h.0 (omega arith), lines_high a r l ls h.1 e)

lines_encode : (t : Text) → lines (encode t) ≡ map encode (lines t)
unfolding lines encode
lines_encode [] = refl
lines_encode (c ∷ t) = go (bytes_of_char c) (c is LF) refl (lines_some t) (lines_encode t)
  where
    feed : (r : Text) (ls : List Text) → lines r ≡ ls → (c is LF) ≡ true → lines (c ∷ r) ≡ [] ∷ ls
    feed r ls e q = unfold lines in (rw (q, e))

    more : (r l : Text) (ls : List Text) → lines r ≡ l ∷ ls → (c is LF) ≡ false → lines (c ∷ r) ≡ (c ∷ l) ∷ ls
    more r l ls e q = unfold lines add_to_first in (rw (q, e))

    go : BytesOf c → (b : Bool) → (c is LF) ≡ b → (l : Text) × (ls : List Text) × (lines t ≡ l ∷ ls) → lines (encode t) ≡ map encode (lines t)
        → lines (encode (c ∷ t)) ≡ map encode (lines (c ∷ t))
    go (low h e) true q (l, ls, x) ih =
        ap lines (encode_cons c t ∙ ap (λ l. l ++ encode t) e) ∙ (feed (encode t) (map encode (lines t)) ih q ∙ ap (map encode) (sym (feed t (lines t) refl q)))
    go (low h e) false q (l, ls, x) ih =
        ap lines (encode_cons c t ∙ ap (λ l. l ++ encode t) e)
        ∙ (more (encode t) (encode l) (map encode ls) (ih ∙ ap (map encode) x) q
        ∙ (ap (λ y. y ∷ map encode ls) (sym (encode_cons c l ∙ ap (λ z. z ++ encode l) e)) ∙ ap (map encode) (sym (more t l ls x q))))
    go (high h b bs e g gs) true q (l, ls, x) ih = absurd (omega (arith, is_eq c LF q))
    go (high h b bs e g gs) false q (l, ls, x) ih =
        ap lines (encode_cons c t ∙ ap (λ l. l ++ encode t) e)
        ∙ (lines_high (b ∷ bs) (encode t) (encode l) (map encode ls) (g, gs) (ih ∙ ap (map encode) x)
        ∙ (ap (λ y. y ∷ map encode ls) (sym (encode_cons c l ∙ ap (λ z. z ++ encode l) e)) ∙ ap (map encode) (sym (more t l ls x q))))

doc_lines_encode : (ls : List Text) → doc_lines (map encode ls) ≡ encode (doc_lines ls)
unfolding doc_lines
doc_lines_encode [] = unfold encode in refl
doc_lines_encode (l ∷ ls) =
    let a = encode_ascii (text "* ") (low_text (text "* ") refl) in
    let b : LF ∷ doc_lines (map encode ls) ≡ encode (LF ∷ doc_lines ls)
    = ap₂ (λ x y. x ++ y) (sym (encode_ascii (LF ∷ []) (low_text (LF ∷ []) refl))) (doc_lines_encode ls) ∙ sym (encode_append (LF ∷ []) (doc_lines ls)) in
    ap₂ (λ x y. x ++ (encode l ++ y)) (sym a) b
    ∙ (ap (λ x. encode (text "* ") ++ x) (sym (encode_append l (LF ∷ doc_lines ls))) ∙ sym (encode_append (text "* ") (l ++ (LF ∷ doc_lines ls))))

doc_encode : (t : Text) → doc (encode t) ≡ encode (doc t)
unfolding doc
doc_encode t =
    ap (λ b. if b then text "/**\n" ++ (doc_lines (lines (encode t)) ++ text "*/") else text "/// " ++ encode t) (feed_encode t)
    ∙ if_both (λ (a b : Text). a ≡ encode b) (one_of t LF)
    (λ _. ap₂ (λ x y. x ++ y) (sym (encode_ascii (text "/**\n") (low_text (text "/**\n") refl)))
    (ap₂ (λ x y. x ++ y) (ap doc_lines (lines_encode t) ∙ doc_lines_encode (lines t)) (sym (encode_ascii (text "*/") (low_text (text "*/") refl))) ∙ sym (encode_append (doc_lines (lines t)) (text "*/")))
    ∙ sym (encode_append (text "/**\n") (doc_lines (lines t) ++ text "*/")))
    (λ _. ap (λ x. x ++ encode t) (sym (encode_ascii (text "/// ") (low_text (text "/// ") refl))) ∙ sym (encode_append (text "/// ") t))

-- ── The layout ──

pub emitted_encode : (x : Element) → emitted (element_bytes x) ≡ encode (emitted x)
unfolding emitted
emitted_encode (string ws) = quoted_encode (text "\"") (pieces false (map word_bytes ws)) (pieces false ws) (low_text (text "\"") refl) (pieces_encode false ws)
emitted_encode (lone w) =
    let R : Text → Text → Type 0 = λ a b. a ≡ encode b in
    if_both R (w.kind is CharLiteral) (λ _. character_encode w.text)
    (λ _. if_both R (w.kind is DoubleColonT) (λ _. sym (encode_ascii (text ":=") (low_text (text ":=") refl)))
    (λ _. if_both R (w.kind is StringInterpStart) (λ _. sym (encode_ascii (text "${}") (low_text (text "${}") refl)))
    (λ _. if_both R (w.kind is DocComment) (λ _. doc_encode w.text) (λ _. refl))))

doc_same : (x : Element) → is_doc (element_bytes x) ≡ is_doc x
unfolding is_doc
doc_same (string ws) = refl
doc_same (lone w) = refl

gap_encode : (d : Bool) (ts : List Element) → gap d (map element_bytes ts) ≡ encode (gap d ts)
unfolding gap
gap_encode true ts = sym (encode_ascii (LF ∷ []) (low_text (LF ∷ []) refl))
gap_encode false [] = unfold encode in refl
gap_encode false (t ∷ ts) = sym (encode_ascii (text " ") (low_text (text " ") refl))

layout_encode : (ts : List Element) → layout (map element_bytes ts) ≡ encode (layout ts)
unfolding layout
layout_encode [] = unfold encode in refl
layout_encode (t ∷ ts) =
    ap (λ d. emitted (element_bytes t) ++ (gap d (map element_bytes ts) ++ layout (map element_bytes ts))) (doc_same t)
    ∙ (ap₂ (λ a b. a ++ b) (emitted_encode t) (ap₂ (λ a b. a ++ b) (gap_encode (is_doc t) ts) (layout_encode ts) ∙ sym (encode_append (gap (is_doc t) ts) (layout ts)))
    ∙ sym (encode_append (emitted t) (gap (is_doc t) ts ++ layout ts)))

pub print_by_bytes : (s : List ℕ) → print_bytes s ≡ layout (script_elements s)
unfolding print_bytes print_text script_elements
print_by_bytes s = sym (layout_encode (elements (script_text s)))
