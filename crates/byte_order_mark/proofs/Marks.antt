-- Laws of the byte-order mark. Assumes nothing.
use mathlib.Core.Path.{◌≡◌, refl, sym, ◌∙◌, ap}
use mathlib.Core.Bool.{Bool, true, false, ◌&&◌, false≢true}
use mathlib.Core.List.{List, [], ◌∷◌, ◌++◌}
use Prim.Native.Nat.{ℕ, ◌+◌, ◌-◌, ◌≤◌}
use lib.Dec.{eqb}
use lib.ListN.{length, get_or, take, drop, length-drop, get_or-append}
use lib.Seq.{drop-append-le}
use native.Mathlib.Omega.{arith}
use borrow.Author.Tests.{eqb-true, eqb-false, eq-eqb, ne_eqb}
use Rattle.std.specs.List.{starts_with}
use Rattle.std.specs.Prelude.{Option, Some, None}
use Rattle.characters.specs.Choice.{◌is◌, within}
use Rattle.characters.specs.Utf8.{chars_of, first_bad, is_utf8, is_scalar, width, encode_char, encode}
use Rattle.byte_order_mark.specs.Mark.{has_mark, mark_length, after_mark}
use Rattle.characters.proofs.Choice.{and_both}
use Rattle.characters.proofs.Buffers.{part_from}
use Rattle.characters.proofs.Decoding.{octet_there}
use Rattle.characters.proofs.Texts.{later, chars_nil, chars_encoded, bad_encoded, utf8_encoded, valid_encode, chars_append, text_ind}
use Rattle.characters.proofs.Characters.{chars_none}
use mathlib.Core.Logic.{inl}
use native.Mathlib.Nat.{zero-add}

-- A text with the mark has its three octets.
pub mark_size : (s : List ℕ) → has_mark s ≡ true → 3 ≤ length s
unfolding has_mark
mark_size s e =
    let p = and_both (eqb (get_or s 0 0) 0xEF && eqb (get_or s 1 0) 0xBB) (eqb (get_or s 2 0) 0xBF) e in
    let q = eqb-true (get_or s 2 0) 0xBF p.1 in
    octet_there s 2 (omega arith)

pub mark_length_yes : (s : List ℕ) → has_mark s ≡ true → mark_length s ≡ 3
unfolding mark_length
mark_length_yes s e = rw e

pub mark_length_no : (s : List ℕ) → has_mark s ≡ false → mark_length s ≡ 0
unfolding mark_length
mark_length_no s e = rw e

pub mark_length_inside : (s : List ℕ) → mark_length s ≤ length s
mark_length_inside s = go (has_mark s) refl
  where
    go : (b : Bool) → has_mark s ≡ b → mark_length s ≤ length s
    go true e = omega (arith, mark_size s e, mark_length_yes s e)
    go false e = omega (arith, mark_length_no s e)

pub after_mark_part : (s : List ℕ) (n : ℕ) → n ≡ mark_length s → take (length s - n) (drop n s) ≡ after_mark s
unfolding after_mark
after_mark_part s n e = part_from n s ∙ rw e

-- ── A text with a mark ──

mark_cons : (x y z : ℕ) (t : List ℕ) → has_mark (x ∷ y ∷ z ∷ t) ≡ true → x ∷ y ∷ z ∷ t ≡ encode_char 0xFEFF ++ t
unfolding has_mark encode_char
mark_cons x y z t e =
    let p = and_both (eqb x 0xEF && eqb y 0xBB) (eqb z 0xBF) e in
    let q = and_both (eqb x 0xEF) (eqb y 0xBB) p.0 in
    rw (eqb-true x 0xEF q.0, eqb-true y 0xBB q.1, eqb-true z 0xBF p.1)

-- It is U+FEFF in front of the rest.
pub mark_octets : (s : List ℕ) → has_mark s ≡ true → s ≡ encode_char 0xFEFF ++ after_mark s
unfolding after_mark
mark_octets [] e = let h = mark_size [] e in absurd (omega arith)
mark_octets (x ∷ []) e = let h = mark_size (x ∷ []) e in absurd (omega arith)
mark_octets (x ∷ y ∷ []) e = let h = mark_size (x ∷ y ∷ []) e in absurd (omega arith)
mark_octets (x ∷ y ∷ z ∷ t) e = rw (mark_length_yes (x ∷ y ∷ z ∷ t) e) (mark_cons x y z t e)

mark_scalar : is_scalar 0xFEFF ≡ true
unfolding is_scalar within
mark_scalar = refl

mark_width : width 0xFEFF ≡ 3
unfolding width
mark_width = refl

mark_front : (t : List ℕ) → has_mark (encode_char 0xFEFF ++ t) ≡ true
unfolding has_mark encode_char
mark_front t = refl

-- Its first character is the mark, and the others are those of the rest.
pub mark_chars_lem : (s : List ℕ) → has_mark s ≡ true → chars_of s ≡ 0xFEFF ∷ chars_of (after_mark s)
mark_chars_lem s e = ap chars_of (mark_octets s e) ∙ chars_encoded 0xFEFF (after_mark s) mark_scalar

-- ── A text without a mark ──

pub no_mark_after : (s : List ℕ) → has_mark s ≡ false → after_mark s ≡ s
unfolding after_mark
no_mark_after s e = rw (mark_length_no s e)

-- It has all its characters.
pub no_mark_chars : (s : List ℕ) → has_mark s ≡ false → chars_of (after_mark s) ≡ chars_of s
no_mark_chars s e = ap chars_of (no_mark_after s e)

-- An octet below 80 begins no mark.
pub ascii_no_mark : (x : ℕ) (s : List ℕ) → x ≤ 0x7F → has_mark (x ∷ s) ≡ false
unfolding has_mark
ascii_no_mark x s h = rw (ne_eqb x 0xEF (λ e. omega arith))

-- ── Any text ──

pub mark_length_after : (s : List ℕ) → mark_length s + length (after_mark s) ≡ length s
unfolding after_mark
mark_length_after s = omega (arith, length-drop (mark_length s) s, mark_length_inside s)

-- The first bad sequence, with the mark counted.
pub bad_after_mark : (s : List ℕ) → first_bad s ≡ later (mark_length s) (first_bad (after_mark s))
bad_after_mark s = go (has_mark s) refl
  where
    zero_later : (r : Option ℕ) → r ≡ later 0 r
    zero_later None = refl
    zero_later (Some p) = ap Some (sym (zero-add p))

    go : (b : Bool) → has_mark s ≡ b → first_bad s ≡ later (mark_length s) (first_bad (after_mark s))
    go true e =
        ap first_bad (mark_octets s e) ∙ bad_encoded 0xFEFF (after_mark s) mark_scalar
        ∙ ap (λ (n : ℕ). later n (first_bad (after_mark s))) (mark_width ∙ sym (mark_length_yes s e))
    go false e = rw (no_mark_after s e, mark_length_no s e) (zero_later (first_bad s))

pub utf8_after_mark : (s : List ℕ) → is_utf8 (after_mark s) ≡ is_utf8 s
utf8_after_mark s = go (has_mark s) refl
  where
    go : (b : Bool) → has_mark s ≡ b → is_utf8 (after_mark s) ≡ is_utf8 s
    go true e = sym (ap is_utf8 (mark_octets s e) ∙ utf8_encoded 0xFEFF (after_mark s) mark_scalar)
    go false e = ap is_utf8 (no_mark_after s e)

-- The first character is U+FEFF.
abbrev pub begins_with_mark : List ℕ → Bool
begins_with_mark [] = false
begins_with_mark (c ∷ cs) = c is 0xFEFF

mark_char : (v : ℕ) (s : List ℕ) → is_scalar v ≡ true → (m f : Bool) → has_mark (encode_char v ++ s) ≡ m → (v is 0xFEFF) ≡ f → m ≡ f
mark_char v s h true true x y = refl
mark_char v s h false false x y = refl
mark_char v s h true false x y =
    let g : ◌≡◌ {A = List ℕ} (v ∷ chars_of s) (0xFEFF ∷ chars_of (after_mark (encode_char v ++ s))) = sym (chars_encoded v s h) ∙ mark_chars_lem (encode_char v ++ s) x in
    let z : v ≡ 0xFEFF = cc in
    absurd (eqb-false v 0xFEFF y z)
mark_char v s h false true x y =
    absurd (false≢true (sym x ∙ (ap (λ (u : ℕ). has_mark (encode_char u ++ s)) (eqb-true v 0xFEFF y) ∙ mark_front s)))

mark_bad : (s : List ℕ) → chars_of s ≡ [] → (m : Bool) → has_mark s ≡ m → m ≡ false
mark_bad s h false e = refl
mark_bad s h true e =
    let g : ◌≡◌ {A = List ℕ} [] (0xFEFF ∷ chars_of (after_mark s)) = sym h ∙ mark_chars_lem s e in
    let z : ◌≡◌ {A = ℕ} 0 1 = cc in
    absurd (omega arith)

-- A text has a mark exactly if its first character is U+FEFF.
pub mark_begins : (s : List ℕ) → has_mark s ≡ begins_with_mark (chars_of s)
mark_begins =
    text_ind (λ (s : List ℕ). has_mark s ≡ begins_with_mark (chars_of s))
    (mark_bad [] chars_nil (has_mark []) refl ∙ ap begins_with_mark (sym chars_nil))
    (λ v s h _. mark_char v s h (has_mark (encode_char v ++ s)) (v is 0xFEFF) refl refl ∙ ap begins_with_mark (sym (chars_encoded v s h)))
    (λ s e. mark_bad s (chars_none s (inl e)) (has_mark s) refl ∙ ap begins_with_mark (sym (chars_none s (inl e))))

encode_nil : encode [] ≡ []
unfolding encode
encode_nil = refl

-- ── A text that is UTF-8, and any text behind it: no text ends inside its mark ──

pub mark_append : (a b : List ℕ) → is_utf8 a ≡ true → (a ≡ [] → has_mark b ≡ false) → has_mark (a ++ b) ≡ has_mark a
mark_append a b valid none =
    mark_begins (a ++ b) ∙ ap begins_with_mark (chars_append a b valid) ∙ go (chars_of a) refl ∙ sym (mark_begins a)
  where
    go : (cs : List ℕ) → chars_of a ≡ cs → begins_with_mark (cs ++ chars_of b) ≡ begins_with_mark cs
    go [] e = sym (mark_begins b) ∙ none (valid_encode a valid ∙ ap encode e ∙ encode_nil)
    go (c ∷ cs) e = refl

pub after_mark_append : (a b : List ℕ) → is_utf8 a ≡ true → (a ≡ [] → has_mark b ≡ false) → after_mark (a ++ b) ≡ after_mark a ++ b
unfolding after_mark mark_length
after_mark_append a b valid none =
    rw (mark_append a b valid none) (drop-append-le (mark_length a) a b (mark_length_inside a))

-- Three octets are enough to tell.
pub mark_append_long : (a b : List ℕ) → 3 ≤ length a → has_mark (a ++ b) ≡ has_mark a
unfolding has_mark
mark_append_long a b h =
    rw (get_or-append a b 0 0 (omega arith), get_or-append a b 0 1 (omega arith), get_or-append a b 0 2 (omega arith))

-- ── The library's test, whether a text begins with the mark ──

eqb_turn : (a b : ℕ) → eqb a b ≡ eqb b a
eqb_turn a b = go (eqb a b) refl
  where
    go : (x : Bool) → eqb a b ≡ x → eqb a b ≡ eqb b a
    go true e = e ∙ sym (eq-eqb b a (sym (eqb-true a b e)))
    go false e = e ∙ sym (ne_eqb b a (λ h. absurd (false≢true (sym e ∙ eq-eqb a b (sym h)))))

-- The library joins its tests from the right, the definition from the left.
turned : (a b c d e f : Bool) → a ≡ d → b ≡ e → c ≡ f → a && (b && (c && true)) ≡ (d && e) && f
turned a b c d e f p q r = rw (p, q, r) (same d e f)
  where
    same : (d e f : Bool) → d && (e && (f && true)) ≡ (d && e) && f
    same true true true = refl
    same true true false = refl
    same true false f = refl
    same false e f = refl

pub starts_with_mark : (s : List ℕ) → starts_with eqb s (0xEF ∷ 0xBB ∷ 0xBF ∷ []) ≡ has_mark s
unfolding has_mark
starts_with_mark [] = refl
starts_with_mark (a ∷ []) = short (eqb 0xEF a) (a is 0xEF) (eqb_turn 0xEF a)
  where
    short : (x y : Bool) → x ≡ y → x && false ≡ (y && false) && false
    short true y e = rw (← e) refl
    short false y e = rw (← e) refl
starts_with_mark (a ∷ b ∷ []) = short (eqb 0xEF a) (eqb 0xBB b) (a is 0xEF) (b is 0xBB) (eqb_turn 0xEF a) (eqb_turn 0xBB b)
  where
    short : (x y z w : Bool) → x ≡ z → y ≡ w → x && (y && false) ≡ (z && w) && false
    short true true z w p q = rw (← p, ← q) refl
    short true false z w p q = rw (← p, ← q) refl
    short false y z w p q = rw (← p) refl
starts_with_mark (a ∷ b ∷ c ∷ s) =
    turned (eqb 0xEF a) (eqb 0xBB b) (eqb 0xBF c) (a is 0xEF) (b is 0xBB) (c is 0xBF) (eqb_turn 0xEF a) (eqb_turn 0xBB b) (eqb_turn 0xBF c)
