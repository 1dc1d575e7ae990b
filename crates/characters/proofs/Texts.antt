-- Texts and their characters: a text that is UTF-8 is the concatenation of its characters' octets, and the other way round; texts one
-- behind another; the rest of a text behind some of its characters. Assumes nothing.
use mathlib.Core.Path.{◌≡◌, refl, sym, ◌∙◌, ap, subst}
use mathlib.Core.Bool.{true, false≢true}
use mathlib.Core.Logic.{inl}
use mathlib.Core.List.{List, [], ◌∷◌, ◌++◌, append-nil, append_assoc}
use Prim.Native.Nat.{ℕ, zero, suc, ◌+◌, ◌-◌, ◌*◌, ◌≤◌, ◌<◌}
use native.Mathlib.Nat.{zero-add}
use native.Mathlib.Omega.{arith}
use lib.Dec.{leb}
use borrow.Author.Tests.{leb-true}
use lib.ListN.{length, take, drop, length-append, take-append-drop}
use lib.Seq.{slice, drop-nil, drop_at, take_at, take-add, length-take-le}
use Rattle.std.specs.Prelude.{Option, Some, None}
use Rattle.characters.specs.Utf8.{first_of, decode_at, chars_at, chars_of, chars_past, check_after, check_past, first_bad, is_valid, is_utf8, is_scalar, Scalars, width, encode_char, encode, bytes}
use Rattle.characters.specs.declared.Decoded.{Decoded}
use Rattle.characters.specs.declared.Decoded.TheVariants.{Code, Bad, End}
use Rattle.characters.proofs.Widths.{char_length, scalar_bounds, scalar_low, width_bounds, width_one, encode_one}
use Rattle.characters.proofs.Choice.{if_all}
use Rattle.characters.proofs.Decoding.{first_code, first_end, first_encoded, placed_code}
use Rattle.characters.proofs.Characters.{chars_first, chars_none, chars_at_lem, chars_start, chars_code, chars_bad, chars_end, check_first, bad_first}

-- ── Induction over the characters of a text ──

module _
    (P : List ℕ → Type 0)
    (none : P [])
    (char : (v : ℕ) (s : List ℕ) → is_scalar v ≡ true → P s → P (encode_char v ++ s))
    (bad : (s : List ℕ) → first_of s ≡ Bad → P s) where
  behind : (a : ℕ) (t : List ℕ) (n : ℕ) → 1 ≤ n → ((m : ℕ) → P (drop m t)) → P (drop n (a ∷ t))
  behind a t zero h f = absurd (omega arith)
  behind a t (suc m) h f = f m

  by_first : (a : ℕ) (t : List ℕ) (r : Decoded) → first_of (a ∷ t) ≡ r → ((m : ℕ) → P (drop m t)) → P (a ∷ t)
  by_first a t (Code v n) e f =
      let q = first_code (a ∷ t) v n e in
      subst P (sym q.octets) (char v (drop n (a ∷ t)) q.scalar (behind a t n q.least f))
  by_first a t Bad e f = bad (a ∷ t) e
  by_first a t End e f = subst P (sym (first_end (a ∷ t) e)) none

  past : (s : List ℕ) (k : ℕ) → P (drop k s)
  past [] k = subst P (sym (drop-nil k)) none
  past (a ∷ s) zero = by_first a s (first_of (a ∷ s)) refl (past s)
  past (a ∷ s) (suc k) = past s k

  -- What holds of the empty text, of a character in front of a text of which it holds, and of a text that begins with a bad sequence.
  pub text_ind : (s : List ℕ) → P s
  text_ind s = past s 0

-- ── The octets of lists of characters ──

pub encode_length : (cs : List ℕ) → length (encode cs) ≡ bytes cs
unfolding encode bytes
encode_length [] = refl
encode_length (c ∷ cs) = omega (arith, encode_length cs, length-append (encode_char c) (encode cs), char_length c)

pub encode_append : (a b : List ℕ) → encode (a ++ b) ≡ encode a ++ encode b
unfolding encode
encode_append [] b = refl
encode_append (c ∷ a) b =
    ap (λ (l : List ℕ). encode_char c ++ l) (encode_append a b) ∙ sym (append_assoc (encode_char c) (encode a) (encode b))

pub bytes_append : (a b : List ℕ) → bytes (a ++ b) ≡ bytes a + bytes b
unfolding bytes
bytes_append [] b = sym (zero-add (bytes b))
bytes_append (c ∷ a) b = omega (arith, bytes_append a b)

-- Behind the octets of a front stand the octets of the rest.
pub encode_drop : (a : List ℕ) (t : List ℕ) → drop (bytes a) (encode a ++ t) ≡ t
encode_drop a t = drop_at (encode a) t (bytes a) (encode_length a)

pub encode_take : (a : List ℕ) (t : List ℕ) → take (bytes a) (encode a ++ t) ≡ encode a
encode_take a t = take_at (encode a) t (bytes a) (encode_length a)

-- A character has at least one octet, and at most four.
pub bytes_least : (cs : List ℕ) → length cs ≤ bytes cs
unfolding bytes
bytes_least [] = omega arith
bytes_least (c ∷ cs) = omega (arith, bytes_least cs, width_bounds c)

pub bytes_most : (cs : List ℕ) → bytes cs ≤ 4 * length cs
unfolding bytes
bytes_most [] = omega arith
bytes_most (c ∷ cs) = omega (arith, bytes_most cs, width_bounds c)

pub scalars_append : (a b : List ℕ) → Scalars a → Scalars b → Scalars (a ++ b)
scalars_append [] b h k = k
scalars_append (c ∷ a) b h k = (h.0, scalars_append a b h.1 k)

pub scalars_split : (a b : List ℕ) → Scalars (a ++ b) → Scalars a × Scalars b
scalars_split [] b h = (tt, h)
scalars_split (c ∷ a) b h = let p = scalars_split a b h.1 in ((h.0, p.0), p.1)

-- ── One character in front of a text ──

char_drop : (v : ℕ) (s : List ℕ) → drop (width v) (encode_char v ++ s) ≡ s
char_drop v s = drop_at (encode_char v) s (width v) (char_length v)

pub chars_encoded : (v : ℕ) (s : List ℕ) → is_scalar v ≡ true → chars_of (encode_char v ++ s) ≡ v ∷ chars_of s
chars_encoded v s h =
    chars_first (encode_char v ++ s) v (width v) (first_encoded v s h) ∙ ap (λ (l : List ℕ). v ∷ chars_of l) (char_drop v s)

-- A place so many octets further.
abbrev pub later : ℕ → Option ℕ → Option ℕ
later n None = None
later n (Some p) = Some (n + p)

later_valid : (n : ℕ) (r : Option ℕ) → is_valid (later n r) ≡ is_valid r
unfolding is_valid
later_valid n None = refl
later_valid n (Some p) = refl

later_zero : (r : Option ℕ) → later 0 r ≡ r
later_zero None = refl
later_zero (Some p) = ap Some (zero-add p)

later_later : (m n : ℕ) (r : Option ℕ) → later m (later n r) ≡ later (m + n) r
later_later m n None = refl
later_later m n (Some p) = let e : m + (n + p) ≡ m + n + p = omega arith in ap Some e

after_later : (f g : ℕ → Option ℕ) (at n : ℕ) (r : Decoded) → ((k : ℕ) → f k ≡ later n (g k)) → check_after f (n + at) r ≡ later n (check_after g at r)
unfolding check_after
after_later f g at n (Code v m) h = h (m - 1)
after_later f g at n Bad h = refl
after_later f g at n End h = refl

check_later : (s : List ℕ) (k at n : ℕ) → check_past s k (n + at) ≡ later n (check_past s k at)
unfolding check_past
check_later [] k at n = refl
check_later (a ∷ s) zero at n =
    let e : n + at + 1 ≡ n + (at + 1) = omega arith in
    after_later (λ k. check_past s k (n + at + 1)) (λ k. check_past s k (at + 1)) at n (first_of (a ∷ s))
    (λ k. rw e (check_later s k (at + 1) n))
check_later (a ∷ s) (suc k) at n =
    let e : n + at + 1 ≡ n + (at + 1) = omega arith in
    rw e (check_later s k (at + 1) n)

pub bad_encoded : (v : ℕ) (s : List ℕ) → is_scalar v ≡ true → first_bad (encode_char v ++ s) ≡ later (width v) (first_bad s)
unfolding first_bad
bad_encoded v s h =
    let e : 0 + width v ≡ width v + 0 = omega arith in
    check_first (encode_char v ++ s) v (width v) 0 (first_encoded v s h)
    ∙ rw (char_drop v s, e) (check_later s 0 0 (width v))

-- ── A text is UTF-8 exactly if it is the octets of characters ──

pub chars_nil : chars_of [] ≡ []
unfolding chars_of chars_past
chars_nil = refl

pub bad_nil : first_bad [] ≡ None
unfolding first_bad check_past
bad_nil = refl

-- All characters of a text are from 0 to 10FFFF without D800 to DFFF, whether it is UTF-8 or not.
pub chars_scalar : (s : List ℕ) → Scalars (chars_of s)
chars_scalar =
    text_ind (λ (s : List ℕ). Scalars (chars_of s)) (subst Scalars (sym chars_nil) tt)
    (λ v s h p. subst Scalars (sym (chars_encoded v s h)) (h, p))
    (λ s e. subst Scalars (sym (chars_none s (inl e))) tt)

-- One character in front keeps a text valid or not.
pub utf8_encoded : (v : ℕ) (s : List ℕ) → is_scalar v ≡ true → is_utf8 (encode_char v ++ s) ≡ is_utf8 s
unfolding is_utf8
utf8_encoded v s h = ap is_valid (bad_encoded v s h) ∙ later_valid (width v) (first_bad s)

-- A bad sequence in front makes it not valid.
pub not_bad : (s : List ℕ) → first_of s ≡ Bad → is_utf8 s ≡ true → ⊥
unfolding is_utf8 first_bad is_valid
not_bad s e h = false≢true (ap is_valid (sym (bad_first s 0 e)) ∙ h)

-- A text that is UTF-8 is the concatenation of its characters' octets.
pub valid_encode : (s : List ℕ) → is_utf8 s ≡ true → s ≡ encode (chars_of s)
unfolding encode
valid_encode =
    text_ind (λ (s : List ℕ). is_utf8 s ≡ true → s ≡ encode (chars_of s)) (λ _. ap encode (sym chars_nil))
    (λ v s h p e. char v s h (p (sym (utf8_encoded v s h) ∙ e)))
    (λ s e h. absurd (not_bad s e h))
  where
    char : (v : ℕ) (s : List ℕ) → is_scalar v ≡ true → s ≡ encode (chars_of s) → encode_char v ++ s ≡ encode (chars_of (encode_char v ++ s))
    char v s h p = ap (λ (l : List ℕ). encode_char v ++ l) p ∙ ap encode (sym (chars_encoded v s h))

pub valid_length : (s : List ℕ) → is_utf8 s ≡ true → length s ≡ bytes (chars_of s)
valid_length s h = ap length (valid_encode s h) ∙ encode_length (chars_of s)

-- Characters one behind another, in front of any text.
pub chars_encode_append : (cs : List ℕ) (t : List ℕ) → Scalars cs → chars_of (encode cs ++ t) ≡ cs ++ chars_of t
unfolding encode
chars_encode_append [] t h = refl
chars_encode_append (c ∷ cs) t h =
    ap chars_of (append_assoc (encode_char c) (encode cs) t)
    ∙ chars_encoded c (encode cs ++ t) h.0
    ∙ ap (λ (l : List ℕ). c ∷ l) (chars_encode_append cs t h.1)

pub bad_encode_append : (cs : List ℕ) (t : List ℕ) → Scalars cs → first_bad (encode cs ++ t) ≡ later (bytes cs) (first_bad t)
unfolding encode bytes
bad_encode_append [] t h = sym (later_zero (first_bad t))
bad_encode_append (c ∷ cs) t h =
    ap first_bad (append_assoc (encode_char c) (encode cs) t)
    ∙ bad_encoded c (encode cs ++ t) h.0
    ∙ ap (later (width c)) (bad_encode_append cs t h.1)
    ∙ later_later (width c) (bytes cs) (first_bad t)

-- The octets of characters are UTF-8, and its characters are these.
pub encode_chars : (cs : List ℕ) → Scalars cs → chars_of (encode cs) ≡ cs
encode_chars cs h =
    ap chars_of (sym (append-nil (encode cs))) ∙ chars_encode_append cs [] h ∙ ap (λ (l : List ℕ). cs ++ l) chars_nil ∙ append-nil cs

pub encode_valid : (cs : List ℕ) → Scalars cs → is_utf8 (encode cs) ≡ true
unfolding is_utf8 is_valid
encode_valid cs h =
    ap (λ (l : List ℕ). is_valid (first_bad l)) (sym (append-nil (encode cs)))
    ∙ ap is_valid (bad_encode_append cs [] h ∙ ap (later (bytes cs)) bad_nil)

-- Equal octets are equal characters.
pub encode_injective : (a b : List ℕ) → Scalars a → Scalars b → encode a ≡ encode b → a ≡ b
encode_injective a b h k e = sym (encode_chars a h) ∙ ap chars_of e ∙ encode_chars b k

-- ── An octet below 80 in front of a text ──

module _ (x : ℕ) (s : List ℕ) (low : x ≤ 0x7F) where
  ascii_octets : encode_char x ++ s ≡ x ∷ s
  ascii_octets = rw (encode_one x low)

  ascii_scalar : is_scalar x ≡ true
  ascii_scalar = scalar_low x (omega arith)

  pub ascii_chars : chars_of (x ∷ s) ≡ x ∷ chars_of s
  ascii_chars = sym (ap chars_of ascii_octets) ∙ chars_encoded x s ascii_scalar

  pub ascii_bad : first_bad (x ∷ s) ≡ later 1 (first_bad s)
  ascii_bad =
      sym (ap first_bad ascii_octets) ∙ bad_encoded x s ascii_scalar ∙ ap (λ (n : ℕ). later n (first_bad s)) (width_one x low)

  pub ascii_utf8 : is_utf8 (x ∷ s) ≡ is_utf8 s
  ascii_utf8 = sym (ap is_utf8 ascii_octets) ∙ utf8_encoded x s ascii_scalar

-- ── A text that is UTF-8, and any text behind it ──

module _ (a b : List ℕ) (valid : is_utf8 a ≡ true) where
  pub chars_append : chars_of (a ++ b) ≡ chars_of a ++ chars_of b
  chars_append =
      ap (λ (l : List ℕ). chars_of (l ++ b)) (valid_encode a valid) ∙ chars_encode_append (chars_of a) b (chars_scalar a)

  pub bad_append : first_bad (a ++ b) ≡ later (length a) (first_bad b)
  bad_append =
      ap (λ (l : List ℕ). first_bad (l ++ b)) (valid_encode a valid)
      ∙ bad_encode_append (chars_of a) b (chars_scalar a)
      ∙ ap (λ (n : ℕ). later n (first_bad b)) (sym (valid_length a valid))

  pub valid_append : first_bad b ≡ None → first_bad (a ++ b) ≡ None
  valid_append e = bad_append ∙ ap (later (length a)) e

  pub bad_append_at : (p : ℕ) → first_bad b ≡ Some p → first_bad (a ++ b) ≡ Some (length a + p)
  bad_append_at p e = bad_append ∙ ap (later (length a)) e

  pub utf8_append : is_utf8 (a ++ b) ≡ is_utf8 b
  unfolding is_utf8
  utf8_append = ap is_valid bad_append ∙ later_valid (length a) (first_bad b)

-- ── A text behind some of its characters ──

-- From the place `at`, past the characters `a`, stand the characters `cs`.
pub record Passed (s : List ℕ) (at : ℕ) (a cs : List ℕ) : Type 0 where
  pub rest : chars_at s (at + bytes a) ≡ cs
  pub octets : drop at s ≡ encode a ++ drop (at + bytes a) s
  pub inside : at ≤ length s → at + bytes a ≤ length s

passed_none : (s : List ℕ) (at : ℕ) (cs : List ℕ) → chars_at s at ≡ cs → Passed s at [] cs
unfolding encode bytes
passed_none s at cs e =
    let f : at ≡ at + 0 = omega arith in
    record {
      rest = ap (chars_at s) (sym f) ∙ e;
      octets = ap (λ (k : ℕ). drop k s) f;
      inside = λ h. omega arith;
    }

passed_more : (s : List ℕ) (at v n : ℕ) (a cs : List ℕ) → decode_at s at ≡ Code v n → Passed s (at + n) a cs → Passed s at (v ∷ a) cs
unfolding encode bytes
passed_more s at v n a cs e q =
    let p = placed_code s at v n e in
    let w = p.width_is in
    let i = p.inside in
    let f : at + n + bytes a ≡ at + (width v + bytes a) = omega arith in
    record {
      rest = ap (chars_at s) (sym f) ∙ q.rest;
      octets =
          p.octets
          ∙ ap (λ (l : List ℕ). encode_char v ++ l) (q.octets ∙ ap (λ (k : ℕ). encode a ++ drop k s) f)
          ∙ sym (append_assoc (encode_char v) (encode a) (drop (at + (width v + bytes a)) s));
      inside = λ h. subst (λ (k : ℕ). k ≤ length s) f (q.inside i);
    }

passed_by : (s : List ℕ) (at v : ℕ) (a cs : List ℕ) (r : Decoded) → decode_at s at ≡ r → chars_at s at ≡ v ∷ (a ++ cs)
    → ((n : ℕ) → chars_at s (at + n) ≡ a ++ cs → Passed s (at + n) a cs) → Passed s at (v ∷ a) cs
passed_by s at v a cs (Code w n) f e more =
    let g : ◌≡◌ {A = List ℕ} (w ∷ chars_at s (at + n)) (v ∷ (a ++ cs)) = sym (chars_code s at w n f) ∙ e in
    let x : w ≡ v = cc in
    let y : chars_at s (at + n) ≡ a ++ cs = cc in
    passed_more s at v n a cs (f ∙ ap (λ (u : ℕ). Code u n) x) (more n y)
passed_by s at v a cs Bad f e more =
    let g : ◌≡◌ {A = List ℕ} [] (v ∷ (a ++ cs)) = sym (chars_bad s at f) ∙ e in
    let z : ◌≡◌ {A = ℕ} 0 1 = cc in
    absurd (omega arith)
passed_by s at v a cs End f e more =
    let g : ◌≡◌ {A = List ℕ} [] (v ∷ (a ++ cs)) = sym (chars_end s at f) ∙ e in
    let z : ◌≡◌ {A = ℕ} 0 1 = cc in
    absurd (omega arith)

-- What the characters from a place on begin with, can be passed.
pub chars_passed : (s : List ℕ) (at : ℕ) (a cs : List ℕ) → chars_at s at ≡ a ++ cs → Passed s at a cs
chars_passed s at [] cs e = passed_none s at cs e
chars_passed s at (v ∷ a) cs e = passed_by s at v a cs (decode_at s at) refl e (λ n y. chars_passed s (at + n) a cs y)

-- The octets that were passed.
pub chars_part : (s : List ℕ) (at : ℕ) (a cs : List ℕ) → chars_at s at ≡ a ++ cs → take (bytes a) (drop at s) ≡ encode a
chars_part s at a cs e =
    ap (take (bytes a)) (chars_passed s at a cs e).octets ∙ encode_take a (drop (at + bytes a) s)

pub chars_slice : (s : List ℕ) (at : ℕ) (a cs : List ℕ) → at ≤ length s → chars_at s at ≡ a ++ cs → slice at (at + bytes a) s ≡ encode a
chars_slice s at a cs h e =
    ap (drop at) (take-add at (bytes a) s)
    ∙ drop_at (take at s) (take (bytes a) (drop at s)) at (length-take-le at s h)
    ∙ chars_part s at a cs e

-- These octets are a text of their own, with these characters.
pub passed_scalars : (s : List ℕ) (at : ℕ) (a cs : List ℕ) → chars_at s at ≡ a ++ cs → Scalars a
passed_scalars s at a cs e = (scalars_split a cs (subst Scalars (sym (chars_at_lem s at) ∙ e) (chars_scalar (drop at s)))).0

pub part_chars : (s : List ℕ) (at : ℕ) (a cs : List ℕ) → chars_at s at ≡ a ++ cs → chars_of (take (bytes a) (drop at s)) ≡ a
part_chars s at a cs e = ap chars_of (chars_part s at a cs e) ∙ encode_chars a (passed_scalars s at a cs e)

pub part_utf8 : (s : List ℕ) (at : ℕ) (a cs : List ℕ) → chars_at s at ≡ a ++ cs → is_utf8 (take (bytes a) (drop at s)) ≡ true
part_utf8 s at a cs e = ap is_utf8 (chars_part s at a cs e) ∙ encode_valid a (passed_scalars s at a cs e)

-- Behind some characters a text stays UTF-8.
pub utf8_passed : (s : List ℕ) (at : ℕ) (a cs : List ℕ) → chars_at s at ≡ a ++ cs → is_utf8 (drop (at + bytes a) s) ≡ is_utf8 (drop at s)
utf8_passed s at a cs e =
    let h = passed_scalars s at a cs e in
    sym (ap is_utf8 (chars_passed s at a cs e).octets ∙ utf8_append (encode a) (drop (at + bytes a) s) (encode_valid a h))

-- Behind its first `k` characters.
module _ (s : List ℕ) (k : ℕ) where
  front : chars_at s 0 ≡ take k (chars_of s) ++ drop k (chars_of s)
  front = chars_start s ∙ sym (take-append-drop k (chars_of s))

  pub chars_drop : chars_of (drop (bytes (take k (chars_of s))) s) ≡ drop k (chars_of s)
  chars_drop =
      sym (chars_at_lem s (bytes (take k (chars_of s))))
      ∙ ap (chars_at s) (sym (zero-add (bytes (take k (chars_of s)))))
      ∙ (chars_passed s 0 (take k (chars_of s)) (drop k (chars_of s)) front).rest

  pub utf8_drop : is_utf8 (drop (bytes (take k (chars_of s))) s) ≡ is_utf8 s
  utf8_drop =
      ap (λ (n : ℕ). is_utf8 (drop n s)) (sym (zero-add (bytes (take k (chars_of s)))))
      ∙ utf8_passed s 0 (take k (chars_of s)) (drop k (chars_of s)) front

-- Any text is the octets of its characters and then what begins with the first bad sequence.
pub text_front : (s : List ℕ) → s ≡ encode (chars_of s) ++ drop (bytes (chars_of s)) s
text_front s =
    (chars_passed s 0 (chars_of s) [] (chars_start s ∙ sym (append-nil (chars_of s)))).octets
    ∙ ap (λ (n : ℕ). encode (chars_of s) ++ drop n s) (zero-add (bytes (chars_of s)))

-- ── Octets ──

abbrev pub Octets : List ℕ → Type 0
Octets [] = Unit
Octets (b ∷ l) = (b < 256) × Octets l

pub octets_append : (a b : List ℕ) → Octets a → Octets b → Octets (a ++ b)
octets_append [] b h k = k
octets_append (c ∷ a) b h k = (h.0, octets_append a b h.1 k)

pub octets_char : (c : ℕ) → c ≤ 0x10FFFF → Octets (encode_char c)
unfolding encode_char
octets_char c h =
    if_all Octets (leb c 0x7F) (λ e. let p = leb-true c 0x7F e in (omega arith, tt)) (λ _.
    if_all Octets (leb c 0x7FF) (λ e. let p = leb-true c 0x7FF e in (omega arith, (omega arith, tt))) (λ _.
    if_all Octets (leb c 0xFFFF) (λ e. let p = leb-true c 0xFFFF e in (omega arith, (omega arith, (omega arith, tt))))
    (λ _. (omega arith, (omega arith, (omega arith, (omega arith, tt)))))))

pub octets_encode : (cs : List ℕ) → Scalars cs → Octets (encode cs)
unfolding encode
octets_encode [] h = tt
octets_encode (c ∷ cs) h =
    octets_append (encode_char c) (encode cs) (octets_char c (scalar_bounds c h.0).0) (octets_encode cs h.1)
