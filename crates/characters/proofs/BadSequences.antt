-- Bad sequences, octet by octet: which stay bad whatever is put behind them, and which can be mended. Assumes nothing.
use Rattle.std.specs.Prelude.{if◌then◌else◌}
use mathlib.Core.Path.{◌≡◌, refl, sym, ◌∙◌, ap}
use mathlib.Core.Bool.{Bool, true, false, ◌||◌, not, true≢false, false≢true}
use mathlib.Core.Logic.{⊎_elim}
use mathlib.Core.List.{List, [], ◌∷◌, ◌++◌}
use Prim.Native.Nat.{ℕ, zero, suc, ◌≤◌}
use native.Mathlib.Omega.{arith}
use lib.Dec.{eqb, leb}
use borrow.Author.Tests.{leb-true, eqb-true}
use lib.ListN.{length, get_or, drop}
use lib.Seq.{drop-nil}
use Rattle.characters.specs.Choice.{◌is◌, within}
use Rattle.characters.specs.Utf8.{is_tail, second_ok, code_two, code_three, code_four, two_of, three_of, four_of, sequence, first_of, is_cut, has_own_range, is_barred}
use Rattle.characters.specs.BadBytes.{no_tail, is_stray, bad_second, bad_third, bad_fourth, is_other}
use Rattle.characters.specs.declared.Decoded.TheVariants.{Code, Bad}
use Rattle.characters.proofs.Choice.{and_both, or_either, le_or_lt, within_bounds}
use Rattle.characters.proofs.Sequences.{tail_yes, second_bounds, seq_low, seq_two, seq_three, seq_four, seq_high}

-- ── Cases ──

pub by_test : {P : Type 0} (t : Bool) → (t ≡ true → P) → (t ≡ false → P) → P
by_test true f g = f refl
by_test false f g = g refl

pub not_true : (t : Bool) → t ≡ true → t ≡ false → ⊥
not_true t e f = true≢false (sym e ∙ f)

pub code_is_not_bad : (v n : ℕ) → Code v n ≡ Bad → ⊥
code_is_not_bad v n e = let z : ◌≡◌ {A = ℕ} 0 1 = cc in omega arith

-- ── Sequences that are bad whatever follows ──

module _ (a b c d : ℕ) where
  second_no : 0xE0 ≤ a → a ≤ 0xF4 → second_ok a b ≡ false → sequence a b c d ≡ Bad
  unfolding three_of four_of
  second_no l u e =
      ⊎_elim (λ h. seq_three a b c d l h ∙ rw e) (λ h. seq_four a b c d h u ∙ rw e) (le_or_lt a 0xEF)

  tail_no : 0xC2 ≤ a → a ≤ 0xF4 → is_tail b ≡ false → sequence a b c d ≡ Bad
  unfolding two_of
  tail_no l u e =
      ⊎_elim (λ h. seq_two a b c d l h ∙ rw e)
      (λ h. by_test (second_ok a b) (λ t. let q = second_bounds a b t in absurd (not_true (is_tail b) (tail_yes b q.0 q.1) e)) (second_no h u))
      (le_or_lt a 0xDF)

  third_no : 0xE0 ≤ a → a ≤ 0xF4 → is_tail c ≡ false → sequence a b c d ≡ Bad
  unfolding three_of four_of
  third_no l u e =
      by_test (second_ok a b)
      (λ t. ⊎_elim (λ h. seq_three a b c d l h ∙ rw (t, e)) (λ h. seq_four a b c d h u ∙ rw (t, e)) (le_or_lt a 0xEF))
      (second_no l u)

  fourth_no : 0xF0 ≤ a → a ≤ 0xF4 → is_tail d ≡ false → sequence a b c d ≡ Bad
  unfolding four_of
  fourth_no l u e =
      by_test (second_ok a b)
      (λ t.
      by_test (is_tail c) (λ t₂. seq_four a b c d l u ∙ rw (t, t₂, e)) (third_no (omega arith) u))
      (second_no (omega arith) u)

-- ── The leads with a range of their own ──

-- A tail that may not follow stands behind one of them.
pub own_range : (a b : ℕ) → is_tail b ≡ true → second_ok a b ≡ false → has_own_range a ≡ true
unfolding second_ok has_own_range
own_range a b t e = go (eqb a 0xE0) (eqb a 0xED) (eqb a 0xF0) (eqb a 0xF4) e
  where
    go : (x y z w : Bool)
        → (if x then within 0xA0 0xBF b else if y then within 0x80 0x9F b else if z then within 0x90 0xBF b else if w then within 0x80 0x8F b else is_tail b) ≡ false
        → (x || y || z || w) ≡ true
    go true y z w f = refl
    go false true z w f = refl
    go false false true w f = refl
    go false false false true f = refl
    go false false false false f = absurd (not_true (is_tail b) t f)

pub own_bounds : (a : ℕ) → has_own_range a ≡ true → (0xE0 ≤ a) × (a ≤ 0xF4)
unfolding has_own_range
own_bounds a e =
    by_test (eqb a 0xE0) (λ x. let q = eqb-true a 0xE0 x in (omega arith, omega arith)) (λ x₁.
    by_test (eqb a 0xED) (λ x. let q = eqb-true a 0xED x in (omega arith, omega arith)) (λ x₂.
    by_test (eqb a 0xF0) (λ x. let q = eqb-true a 0xF0 x in (omega arith, omega arith)) (λ x₃.
    by_test (eqb a 0xF4) (λ x. let q = eqb-true a 0xF4 x in (omega arith, omega arith)) (λ x₄.
    absurd (not_true _ e (rw (x₁, x₂, x₃, x₄)))))))

-- ── "Barred" and "other" stay bad, whatever octets are put behind the text ──

pub not_is : (t : Bool) → not t ≡ true → t ≡ false
not_is true e = absurd (false≢true e)
not_is false e = refl

module _ (t : List ℕ) where
  pub barred_stays : (s : List ℕ) → is_barred s ≡ true → first_of (s ++ t) ≡ Bad
  unfolding is_barred first_of
  barred_stays [] e = absurd (false≢true e)
  barred_stays (a ∷ []) e = absurd (false≢true e)
  barred_stays (a ∷ b ∷ s) e =
      let o = and_both _ _ e in
      let q = own_bounds a (and_both _ _ o.0).0 in
      second_no a b _ _ q.0 q.1 (not_is (second_ok a b) o.1)

  no_tail_lem : (s : List ℕ) (i : ℕ) → no_tail (drop i s) ≡ true → is_tail (get_or (s ++ t) i 0) ≡ false
  unfolding no_tail
  no_tail_lem [] i e = absurd (false≢true (ap no_tail (sym (drop-nil i)) ∙ e))
  no_tail_lem (b ∷ s) zero e = not_is (is_tail b) e
  no_tail_lem (b ∷ s) (suc i) e = no_tail_lem s i e

  stray_stays : (a b c d : ℕ) → is_stray a ≡ true → sequence a b c d ≡ Bad
  unfolding is_stray
  stray_stays a b c d e =
      ⊎_elim (λ h. let q = within_bounds 0x80 0xC1 a h in seq_low a b c d (omega arith) (omega arith))
      (λ h. let q = leb-true 0xF5 a h in seq_high a b c d (omega arith)) (or_either (within 0x80 0xC1 a) (leb 0xF5 a) e)

  module _ (a : ℕ) (s : List ℕ) where
    second_stays : bad_second a s ≡ true → first_of (a ∷ (s ++ t)) ≡ Bad
    unfolding bad_second first_of
    second_stays e =
        let o = and_both _ _ e in
        let q = within_bounds 0xC2 0xF4 a o.0 in
        tail_no a _ _ _ q.0 q.1 (no_tail_lem s 0 o.1)

    third_stays : bad_third a s ≡ true → first_of (a ∷ (s ++ t)) ≡ Bad
    unfolding bad_third first_of
    third_stays e =
        let o = and_both _ _ e in
        let q = within_bounds 0xE0 0xF4 a (and_both _ _ o.0).0 in
        third_no a _ _ _ q.0 q.1 (no_tail_lem s 1 o.1)

    fourth_stays : bad_fourth a s ≡ true → first_of (a ∷ (s ++ t)) ≡ Bad
    unfolding bad_fourth first_of
    fourth_stays e =
        let o = and_both _ _ e in
        let q = within_bounds 0xF0 0xF4 a (and_both _ _ (and_both _ _ o.0).0).0 in
        fourth_no a _ _ _ q.0 q.1 (no_tail_lem s 2 o.1)

  pub other_stays : (s : List ℕ) → is_other s ≡ true → first_of (s ++ t) ≡ Bad
  unfolding is_other first_of
  other_stays [] e = absurd (false≢true e)
  other_stays (a ∷ s) e =
      ⊎_elim (λ f.
      ⊎_elim (λ g.
      ⊎_elim (stray_stays a _ _ _) (second_stays a s)
      (or_either (is_stray a) (bad_second a s) g)) (third_stays a s)
      (or_either (is_stray a || bad_second a s) (bad_third a s) f)) (fourth_stays a s)
      (or_either (is_stray a || bad_second a s || bad_third a s) (bad_fourth a s) e)

-- ── "Cut" can be mended ──

pub record Mended (s : List ℕ) : Type 0 where
  pub more : List ℕ
  pub code : ℕ
  pub whole : first_of (s ++ more) ≡ Code code (length (s ++ more))

-- A second octet for a first one of three or four.
abbrev filler : ℕ → ℕ
filler a = if a is 0xE0 then 0xA0 else if a is 0xF0 then 0x90 else 0x80

filler_ok : (a : ℕ) → second_ok a (filler a) ≡ true
unfolding second_ok within is_tail
filler_ok a = go (eqb a 0xE0) (eqb a 0xED) (eqb a 0xF0) (eqb a 0xF4)
  where
    of : Bool → Bool → ℕ
    of x z = if x then 0xA0 else if z then 0x90 else 0x80

    go : (x y z w : Bool)
        → (if x then within 0xA0 0xBF (of x z) else if y then within 0x80 0x9F (of x z) else if z then within 0x90 0xBF (of x z) else if w then within 0x80 0x8F (of x z) else is_tail (of x z)) ≡ true
    go true y z w = refl
    go false true true w = refl
    go false true false w = refl
    go false false true w = refl
    go false false false true = refl
    go false false false false = refl

tail_80 : is_tail 0x80 ≡ true
tail_80 = tail_yes 0x80 (omega arith) (omega arith)

module _ (a b c d : ℕ) where
  pub two_whole : 0xC2 ≤ a → a ≤ 0xDF → is_tail b ≡ true → sequence a b c d ≡ code_two a b
  unfolding two_of
  two_whole l u t = seq_two a b c d l u ∙ rw t

  pub three_whole : 0xE0 ≤ a → a ≤ 0xEF → second_ok a b ≡ true → is_tail c ≡ true → sequence a b c d ≡ code_three a b c
  unfolding three_of
  three_whole l u t t₂ = seq_three a b c d l u ∙ rw (t, t₂)

  pub four_whole : 0xF0 ≤ a → a ≤ 0xF4 → second_ok a b ≡ true → is_tail c ≡ true → is_tail d ≡ true → sequence a b c d ≡ code_four a b c d
  unfolding four_of
  four_whole l u t t₂ t₃ = seq_four a b c d l u ∙ rw (t, t₂, t₃)

mended_one : (a : ℕ) → 0xC2 ≤ a → a ≤ 0xF4 → Mended (a ∷ [])
unfolding first_of
mended_one a l u =
    ⊎_elim (λ h. record { more = 0x80 ∷ []; code = _; whole = two_whole a 0x80 0 0 l h tail_80 }) (λ g.
    ⊎_elim (λ h. record { more = filler a ∷ 0x80 ∷ []; code = _; whole = three_whole a (filler a) 0x80 0 g h (filler_ok a) tail_80 })
    (λ h. record { more = filler a ∷ 0x80 ∷ 0x80 ∷ []; code = _; whole = four_whole a (filler a) 0x80 0x80 h u (filler_ok a) tail_80 tail_80 })
    (le_or_lt a 0xEF)) (le_or_lt a 0xDF)

mended_two : (a b : ℕ) → 0xE0 ≤ a → a ≤ 0xF4 → second_ok a b ≡ true → Mended (a ∷ b ∷ [])
unfolding first_of
mended_two a b l u t =
    ⊎_elim (λ h. record { more = 0x80 ∷ []; code = _; whole = three_whole a b 0x80 0 l h t tail_80 })
    (λ h. record { more = 0x80 ∷ 0x80 ∷ []; code = _; whole = four_whole a b 0x80 0x80 h u t tail_80 tail_80 })
    (le_or_lt a 0xEF)

mended_three : (a b c : ℕ) → 0xF0 ≤ a → a ≤ 0xF4 → second_ok a b ≡ true → is_tail c ≡ true → Mended (a ∷ b ∷ c ∷ [])
unfolding first_of
mended_three a b c l u t t₂ = record { more = 0x80 ∷ []; code = _; whole = four_whole a b c 0x80 l u t t₂ tail_80 }

pub cut_mended : (s : List ℕ) → is_cut s ≡ true → Mended s
unfolding is_cut
cut_mended [] e = absurd (false≢true e)
cut_mended (a ∷ []) e = let q = within_bounds 0xC2 0xF4 a e in mended_one a q.0 q.1
cut_mended (a ∷ b ∷ []) e =
    let o = and_both _ _ e in
    let q = within_bounds 0xE0 0xF4 a o.0 in
    mended_two a b q.0 q.1 o.1
cut_mended (a ∷ b ∷ c ∷ []) e =
    let o = and_both _ _ e in
    let p = and_both _ _ o.0 in
    let q = within_bounds 0xF0 0xF4 a p.0 in
    mended_three a b c q.0 q.1 p.1 o.1
cut_mended (a ∷ b ∷ c ∷ d ∷ s) e = absurd (false≢true e)
