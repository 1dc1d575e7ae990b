-- Laws of the classes of bad sequences, by the number of octets. Assumes nothing.
use mathlib.Core.Path.{◌≡◌, refl, sym}
use mathlib.Core.Bool.{true, false, ◌&&◌, not}
use mathlib.Core.List.{List, [], ◌∷◌}
use Prim.Native.Nat.{ℕ, ◌-◌, ◌≤◌, ◌<◌}
use native.Mathlib.Omega.{arith}
use lib.ListN.{length, get_or, take, drop, drop_of_length-le}
use Rattle.characters.specs.Choice.{within}
use Rattle.characters.specs.Utf8.{is_tail, second_ok, is_cut, has_own_range, is_barred, bad_class, RefusedUtf8, RefusedCut, RefusedBarred}
use Rattle.characters.proofs.Buffers.{part_from}
use Rattle.characters.proofs.BadBytes.{class_cut, class_barred, class_other}

-- ── Cut ──

pub cut_one : (s : List ℕ) → length s ≡ 1 → is_cut s ≡ within 0xC2 0xF4 (get_or s 0 0)
unfolding is_cut
cut_one [] h = absurd (omega arith)
cut_one (a ∷ []) h = refl
cut_one (a ∷ b ∷ s) h = absurd (omega arith)

pub cut_two : (s : List ℕ) → length s ≡ 2 → is_cut s ≡ (within 0xE0 0xF4 (get_or s 0 0) && second_ok (get_or s 0 0) (get_or s 1 0))
unfolding is_cut
cut_two [] h = absurd (omega arith)
cut_two (a ∷ []) h = absurd (omega arith)
cut_two (a ∷ b ∷ []) h = refl
cut_two (a ∷ b ∷ c ∷ s) h = absurd (omega arith)

pub cut_three : (s : List ℕ) → length s ≡ 3
    → is_cut s ≡ (within 0xF0 0xF4 (get_or s 0 0) && second_ok (get_or s 0 0) (get_or s 1 0) && is_tail (get_or s 2 0))
unfolding is_cut
cut_three [] h = absurd (omega arith)
cut_three (a ∷ []) h = absurd (omega arith)
cut_three (a ∷ b ∷ []) h = absurd (omega arith)
cut_three (a ∷ b ∷ c ∷ []) h = refl
cut_three (a ∷ b ∷ c ∷ d ∷ s) h = absurd (omega arith)

pub cut_never : (s : List ℕ) → (length s ≡ 1 → ⊥) → (length s ≡ 2 → ⊥) → (length s ≡ 3 → ⊥) → is_cut s ≡ false
unfolding is_cut
cut_never [] f g h = refl
cut_never (a ∷ []) f g h = absurd (f refl)
cut_never (a ∷ b ∷ []) f g h = absurd (g refl)
cut_never (a ∷ b ∷ c ∷ []) f g h = absurd (h refl)
cut_never (a ∷ b ∷ c ∷ d ∷ s) f g h = refl

-- ── Barred ──

pub barred_short : (s : List ℕ) → length s < 2 → is_barred s ≡ false
unfolding is_barred
barred_short [] h = refl
barred_short (a ∷ []) h = refl
barred_short (a ∷ b ∷ s) h = absurd (omega arith)

pub barred_two : (s : List ℕ) → 2 ≤ length s
    → is_barred s ≡ (has_own_range (get_or s 0 0) && is_tail (get_or s 1 0) && not (second_ok (get_or s 0 0) (get_or s 1 0)))
unfolding is_barred
barred_two [] h = absurd (omega arith)
barred_two (a ∷ []) h = absurd (omega arith)
barred_two (a ∷ b ∷ s) h = refl

-- ── The class at a place, by the part of the text from there on ──

module _ (s : List ℕ) (at : ℕ) where
  abbrev part : List ℕ
  part = take (length s - at) (drop at s)

  pub at_end : length s ≤ at → RefusedUtf8 ≡ bad_class (drop at s)
  unfolding bad_class is_cut is_barred
  at_end h = rw (drop_of_length-le s h)

  pub at_cut : is_cut part ≡ true → RefusedCut ≡ bad_class (drop at s)
  at_cut e = rw (← part_from at s) (sym (class_cut part e))

  pub at_barred : is_cut part ≡ false → is_barred part ≡ true → RefusedBarred ≡ bad_class (drop at s)
  at_barred e f = rw (← part_from at s) (sym (class_barred part e f))

  pub at_other : is_cut part ≡ false → is_barred part ≡ false → RefusedUtf8 ≡ bad_class (drop at s)
  at_other e f = rw (← part_from at s) (sym (class_other part e f))
