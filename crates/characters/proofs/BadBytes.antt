-- What order 1's classes of bad sequences mean: they exclude each other and leave nothing out, and the class is "cut" exactly where octets
-- put behind the text make it UTF-8. Assumes nothing.
use mathlib.Core.Path.{◌≡◌, refl, sym, ◌∙◌, ap}
use mathlib.Core.Bool.{true, false, and-false, false≢true}
use mathlib.Core.Logic.{inl, inr, ⊎_elim}
use mathlib.Core.List.{List, [], ◌∷◌, ◌++◌, append_assoc}
use Prim.Native.Nat.{ℕ, ◌+◌, ◌≤◌}
use native.Mathlib.Omega.{arith}
use borrow.Author.Tests.{le-leb, lt-leb}
use lib.ListN.{length, take, drop, take-append-drop, drop_of_length-le}
use lib.Seq.{drop-drop, drop_at, take_at, take-add}
use Rattle.std.specs.Prelude.{Option, Some, None}
use Rattle.characters.specs.Utf8.{is_tail, second_ok, first_of, check_past, first_bad, is_valid, is_utf8, is_cut, is_barred, bad_class, RefusedUtf8, RefusedCut, RefusedBarred, is_scalar, width, encode_char}
use Rattle.characters.specs.BadBytes.{no_tail, is_stray, bad_second, bad_third, bad_fourth, is_other, Classes, Completable, CutShort}
use Rattle.characters.specs.declared.Decoded.TheVariants.{Code, Bad, End}
use Rattle.characters.proofs.Choice.{and_both, le_or_lt, within_yes, within_above}
use Rattle.characters.proofs.Sequences.{seq_one}
use Rattle.characters.proofs.Widths.{char_length}
use Rattle.characters.proofs.Decoding.{first_code}
use Rattle.characters.proofs.Characters.{bad_first}
use Rattle.characters.proofs.Texts.{text_ind, later, bad_nil, bad_encoded, utf8_encoded, utf8_append, not_bad}
use Rattle.characters.proofs.BadSequences.{by_test, not_true, code_is_not_bad, own_range, own_bounds, not_is, barred_stays, other_stays, two_whole, three_whole, four_whole, cut_mended}

-- ── The three classes ──

cut_not_bad : (s : List ℕ) → is_cut s ≡ true → ((t : List ℕ) → first_of (s ++ t) ≡ Bad) → ⊥
cut_not_bad s e bad = let m = cut_mended s e in code_is_not_bad _ _ (sym m.whole ∙ bad m.more)

cut_not_barred : (s : List ℕ) → is_cut s ≡ true → is_barred s ≡ true → ⊥
cut_not_barred s e f = cut_not_bad s e (λ t. barred_stays t s f)

cut_not_other : (s : List ℕ) → is_cut s ≡ true → is_other s ≡ true → ⊥
cut_not_other s e f = cut_not_bad s e (λ t. other_stays t s f)

barred_not_other : (s : List ℕ) → is_barred s ≡ true → is_other s ≡ false
unfolding is_barred is_other is_stray bad_second bad_third bad_fourth no_tail
barred_not_other [] e = absurd (false≢true e)
barred_not_other (a ∷ []) e = absurd (false≢true e)
barred_not_other (a ∷ b ∷ s) e =
    let o = and_both _ _ e in
    let p = and_both _ _ o.0 in
    let q = own_bounds a p.0 in
    let l = q.0 in
    let u = q.1 in
    let x = within_above 0x80 0xC1 a (omega arith) in
    let y = lt-leb 0xF5 a (omega arith) in
    simp (x, y, p.1, not_is (second_ok a b) o.1, and-false)

-- A bad sequence that is neither cut nor barred, octet by octet.
end_is_not_bad : End ≡ Bad → ⊥
end_is_not_bad e = let z : ◌≡◌ {A = ℕ} 0 1 = cc in omega arith

module _ (a : ℕ) (l : 0xC2 ≤ a) (u : a ≤ 0xF4) where
  led : is_stray a ≡ false
  unfolding is_stray
  led = rw (within_above 0x80 0xC1 a (omega arith), lt-leb 0xF5 a (omega arith))

  not_code : (s : List ℕ) (v n : ℕ) → first_of (a ∷ s) ≡ Bad → first_of (a ∷ s) ≡ Code v n → ⊥
  not_code s v n e f = code_is_not_bad v n (sym f ∙ e)

  other_fourth : (b c : ℕ) (s : List ℕ) → 0xF0 ≤ a → is_tail b ≡ true → second_ok a b ≡ true → is_tail c ≡ true
      → first_of (a ∷ b ∷ c ∷ s) ≡ Bad → is_cut (a ∷ b ∷ c ∷ s) ≡ false → is_other (a ∷ b ∷ c ∷ s) ≡ true
  unfolding is_cut is_other bad_second bad_third bad_fourth no_tail first_of
  other_fourth b c [] f t ok t₂ e uncut = absurd (not_true _ (rw (within_yes 0xF0 0xF4 a f u, ok, t₂)) uncut)
  other_fourth b c (d ∷ s) f t ok t₂ e uncut =
      by_test (is_tail d) (λ t₃. absurd (not_code (b ∷ c ∷ d ∷ s) _ _ e (four_whole a b c d f u ok t₂ t₃)))
      (λ t₃. simp (led, t, ok, t₂, t₃, within_yes 0xF0 0xF4 a f u, and-false))

  other_third : (b : ℕ) (s : List ℕ) → 0xE0 ≤ a → is_tail b ≡ true → second_ok a b ≡ true
      → first_of (a ∷ b ∷ s) ≡ Bad → is_cut (a ∷ b ∷ s) ≡ false → is_other (a ∷ b ∷ s) ≡ true
  unfolding is_cut is_other bad_second bad_third bad_fourth no_tail first_of
  other_third b [] f t ok e uncut = absurd (not_true _ (rw (within_yes 0xE0 0xF4 a f u, ok)) uncut)
  other_third b (c ∷ s) f t ok e uncut =
      by_test (is_tail c)
      (λ t₂.
      ⊎_elim (λ h. absurd (not_code (b ∷ c ∷ s) _ _ e (three_whole a b c _ f h ok t₂)))
      (λ h. other_fourth b c s h t ok t₂ e uncut) (le_or_lt a 0xEF))
      (λ t₂. simp (led, t, ok, t₂, within_yes 0xE0 0xF4 a f u, and-false))

  other_second : (s : List ℕ) → first_of (a ∷ s) ≡ Bad → is_cut (a ∷ s) ≡ false → is_barred (a ∷ s) ≡ false → is_other (a ∷ s) ≡ true
  unfolding is_cut is_barred is_other bad_second bad_third bad_fourth no_tail first_of
  other_second [] e uncut free = absurd (not_true _ (within_yes 0xC2 0xF4 a l u) uncut)
  other_second (b ∷ s) e uncut free =
      by_test (is_tail b)
      (λ t.
      ⊎_elim (λ h. absurd (not_code (b ∷ s) _ _ e (two_whole a b _ _ l h t))) (λ h.
      by_test (second_ok a b) (λ ok. other_third b s h t ok e uncut)
      (λ ok. absurd (not_true _ (rw (own_range a b t ok, t, ok)) free))) (le_or_lt a 0xDF))
      (λ t. simp (led, t, within_yes 0xC2 0xF4 a l u))

other_left : (s : List ℕ) → first_of s ≡ Bad → is_cut s ≡ false → is_barred s ≡ false → is_other s ≡ true
unfolding is_other is_stray first_of
other_left [] e uncut free = absurd (end_is_not_bad e)
other_left (a ∷ s) e uncut free =
    ⊎_elim (λ h. absurd (code_is_not_bad _ _ (sym (seq_one a _ _ _ h) ∙ e))) (λ h₁.
    ⊎_elim (λ h. simp (within_yes 0x80 0xC1 a h₁ h)) (λ h₂.
    ⊎_elim (λ h. other_second a h₂ h s e uncut free) (λ h. simp (within_above 0x80 0xC1 a h₂, le-leb 0xF5 a h))
    (le_or_lt a 0xF4)) (le_or_lt a 0xC1)) (le_or_lt a 0x7F)

-- The class that a test leads to, and back.
module _ (s : List ℕ) where
  pub class_cut : is_cut s ≡ true → bad_class s ≡ RefusedCut
  unfolding bad_class
  class_cut e = rw e

  pub class_barred : is_cut s ≡ false → is_barred s ≡ true → bad_class s ≡ RefusedBarred
  unfolding bad_class
  class_barred e f = rw (e, f)

  pub class_other : is_cut s ≡ false → is_barred s ≡ false → bad_class s ≡ RefusedUtf8
  unfolding bad_class
  class_other e f = rw (e, f)

  not_cut : (is_cut s ≡ true → ⊥) → is_cut s ≡ false
  not_cut f = by_test (is_cut s) (λ t. absurd (f t)) (λ t. t)

  not_barred : (is_barred s ≡ true → ⊥) → is_barred s ≡ false
  not_barred f = by_test (is_barred s) (λ t. absurd (f t)) (λ t. t)

  -- By the class that it is of.
  by_class : {P : Type 0} → (is_cut s ≡ true → P) → (is_cut s ≡ false → is_barred s ≡ true → P) → (is_cut s ≡ false → is_barred s ≡ false → P) → P
  by_class f g h = by_test (is_cut s) f (λ uncut. by_test (is_barred s) (g uncut) (h uncut))

  -- The classes of a bad sequence exclude each other and leave nothing out.
  pub classes : first_of s ≡ Bad → Classes s
  classes e =
      record {
        cut = (
          λ n.
              by_class (λ t. t) (λ uncut t. let m = class_barred uncut t in absurd (omega arith))
              (λ uncut t. let m = class_other uncut t in absurd (omega arith)),
          class_cut,
        );
        barred = (
          λ n.
              by_class (λ t. let m = class_cut t in absurd (omega arith)) (λ uncut t. t)
              (λ uncut t. let m = class_other uncut t in absurd (omega arith)),
          λ t. class_barred (not_cut (λ c. cut_not_barred s c t)) t,
        );
        other = (
          λ n.
              by_class (λ t. let m = class_cut t in absurd (omega arith))
              (λ uncut t. let m = class_barred uncut t in absurd (omega arith)) (other_left s e),
          λ t. class_other (not_cut (λ c. cut_not_other s c t)) (not_barred (λ b. not_true (is_other s) t (barred_not_other s b))),
        );
        one = by_class (λ t. inl (class_cut t)) (λ uncut t. inr (inl (class_barred uncut t))) (λ uncut t. inr (inr (class_other uncut t)));
      }

-- ── The text up to the first bad sequence ──

abbrev Front : List ℕ → Type 0
Front s = (p : ℕ) → first_bad s ≡ Some p → (is_utf8 (take p s) ≡ true) × (first_of (drop p s) ≡ Bad)

valid_is_not_bad : (p : ℕ) → None ≡ Some p → ⊥
valid_is_not_bad p e = let z : ◌≡◌ {A = ℕ} 0 1 = cc in omega arith

same_place : (p q : ℕ) → Some p ≡ Some q → p ≡ q
same_place p q e = cc

front_char : (v : ℕ) (s : List ℕ) → is_scalar v ≡ true → Front s → Front (encode_char v ++ s)
front_char v s h f p e = go (first_bad s) refl (sym (bad_encoded v s h) ∙ e)
  where
    go : (r : Option ℕ) → first_bad s ≡ r → later (width v) r ≡ Some p
        → (is_utf8 (take p (encode_char v ++ s)) ≡ true) × (first_of (drop p (encode_char v ++ s)) ≡ Bad)
    go None g k = absurd (valid_is_not_bad p k)
    go (Some q) g k =
        let x = f q g in
        let m : p ≡ width v + q = sym (same_place (width v + q) p k) in
        let w = char_length v in (
          rw (m, take-add (width v) q (encode_char v ++ s), take_at (encode_char v) s (width v) w, drop_at (encode_char v) s (width v) w)
              (utf8_encoded v (take q s) h ∙ x.0),
          rw (m, ← drop-drop q (width v) (encode_char v ++ s), drop_at (encode_char v) s (width v) w) x.1,
        )

front_bad : (s : List ℕ) → first_of s ≡ Bad → Front s
unfolding first_bad is_utf8 is_valid check_past
front_bad s e p k =
    let m : p ≡ 0 = sym (same_place 0 p (sym (bad_first s 0 e) ∙ k)) in
    (rw m, rw m e)

-- The text up to the first bad sequence is UTF-8.
pub bad_front : (s : List ℕ) → Front s
bad_front = text_ind Front (λ p e. absurd (valid_is_not_bad p (sym bad_nil ∙ e))) front_char front_bad

-- ── What "cut" means ──

nil_utf8 : is_utf8 [] ≡ true
unfolding is_utf8 is_valid
nil_utf8 = ap is_valid bad_nil

-- One character is UTF-8.
whole_utf8 : (s : List ℕ) (v : ℕ) → first_of s ≡ Code v (length s) → is_utf8 s ≡ true
whole_utf8 s v e =
    let f = first_code s v (length s) e in
    let l : length s ≤ length s = omega arith in
    ap is_utf8 (f.octets ∙ ap (λ (r : List ℕ). encode_char v ++ r) (drop_of_length-le s l))
    ∙ utf8_encoded v [] f.scalar
    ∙ nil_utf8

module _ (s : List ℕ) (p : ℕ) (e : first_bad s ≡ Some p) where
  -- Whether octets complete the text hangs on its bad sequence alone.
  same_behind : (t : List ℕ) → is_utf8 (s ++ t) ≡ is_utf8 (drop p s ++ t)
  same_behind t =
      ap (λ (l : List ℕ). is_utf8 (l ++ t)) (sym (take-append-drop p s))
      ∙ ap is_utf8 (append_assoc (take p s) (drop p s) t)
      ∙ utf8_append (take p s) (drop p s ++ t) (bad_front s p e).0

  sequence_bad : first_of (drop p s) ≡ Bad
  sequence_bad = (bad_front s p e).1

  cut_completed : is_cut (drop p s) ≡ true → Completable s
  cut_completed t =
      let m = cut_mended (drop p s) t in
      record { more = m.more; completes = same_behind m.more ∙ whole_utf8 (drop p s ++ m.more) m.code m.whole }

  completed_cut : Completable s → is_cut (drop p s) ≡ true
  completed_cut c =
      let good : is_utf8 (drop p s ++ c.more) ≡ true = sym (same_behind c.more) ∙ c.completes in
      by_class (drop p s) (λ t. t) (λ uncut t. absurd (not_bad _ (barred_stays c.more (drop p s) t) good))
      (λ uncut free. absurd (not_bad _ (other_stays c.more (drop p s) (other_left (drop p s) sequence_bad uncut free)) good))

  -- The class is "cut" exactly if octets put behind the text make it UTF-8, and the text up to the bad sequence is UTF-8.
  pub cut_short : CutShort s (bad_class (drop p s)) p
  cut_short =
      let k = (classes (drop p s) sequence_bad).cut in
      record {
        exactly = (λ n. cut_completed (k.0 n), λ c. k.1 (completed_cut c));
        front = (bad_front s p e).0;
      }
