-- Laws of white space, by the ranges and single numbers of a match. Assumes nothing.
use mathlib.Core.Path.{◌≡◌, refl, sym, subst}
use mathlib.Core.Bool.{true, false, or-true}
use mathlib.Core.Logic.{◌⊎◌, inl, inr, ⊎_elim}
use Prim.Native.Nat.{ℕ, ◌≤◌, ◌<◌}
use borrow.Author.Tests.{ne_eqb}
use native.Mathlib.Omega.{arith}
use native.Mathlib.Nat.{eq-or-lt_of_le}
use Rattle.characters.specs.Choice.{within}
use Rattle.characters.specs.Space.{is_white}
use Rattle.characters.proofs.Choice.{within_yes, within_below, within_above, within_bounds}

-- The numbers of the match that stand alone.
abbrev pub Alone : ℕ → Type 0
Alone c = (c ≡ 0x20) ⊎ ((c ≡ 0x85) ⊎ ((c ≡ 0xA0) ⊎ ((c ≡ 0x1680) ⊎ ((c ≡ 0x202F) ⊎ ((c ≡ 0x205F) ⊎ (c ≡ 0x3000))))))

-- Outside of a range.
abbrev pub Outside : ℕ → ℕ → ℕ → Type 0
Outside lo hi c = (c < lo) ⊎ (hi < c)

outside : (lo hi c : ℕ) → Outside lo hi c → within lo hi c ≡ false
outside lo hi c = ⊎_elim (within_below lo hi c) (within_above lo hi c)

-- A number that is white space, by computation.
white_is : (n c : ℕ) → is_white n ≡ true → c ≡ n → is_white c ≡ true
white_is n c h e = subst (λ (x : ℕ). is_white x ≡ true) (sym e) h

pub white_alone : (c : ℕ) → Alone c → is_white c ≡ true
unfolding is_white within
white_alone c =
    ⊎_elim (white_is 0x20 c refl) (⊎_elim (white_is 0x85 c refl) (⊎_elim (white_is 0xA0 c refl) (⊎_elim (white_is 0x1680 c refl)
    (⊎_elim (white_is 0x202F c refl) (⊎_elim (white_is 0x205F c refl) (white_is 0x3000 c refl))))))

pub white_controls : (c : ℕ) → 0x9 ≤ c → c ≤ 0xD → is_white c ≡ true
unfolding is_white
white_controls c g h = simp (within_yes 0x9 0xD c g h)

pub white_spaces : (c : ℕ) → 0x2000 ≤ c → c ≤ 0x200A → is_white c ≡ true
unfolding is_white
white_spaces c g h = simp (within_yes 0x2000 0x200A c g h, or-true)

pub white_separators : (c : ℕ) → 0x2028 ≤ c → c ≤ 0x2029 → is_white c ≡ true
unfolding is_white within
white_separators c g h =
    ⊎_elim (λ e. white_is 0x2029 c refl e) (λ l. white_is 0x2028 c refl (omega arith)) (eq-or-lt_of_le h)

pub white_none : (c : ℕ) → (Alone c → ⊥) → Outside 0x9 0xD c → Outside 0x2000 0x200A c → Outside 0x2028 0x2029 c → is_white c ≡ false
unfolding is_white
white_none c s a b d =
    let e : c ≡ 0x2028 → ⊥ = λ x. ⊎_elim (λ l. omega arith) (λ l. omega arith) d in
    let f : c ≡ 0x2029 → ⊥ = λ x. ⊎_elim (λ l. omega arith) (λ l. omega arith) d in
    simp (
      outside 0x9 0xD c a,
      outside 0x2000 0x200A c b,
      ne_eqb c 0x2028 e,
      ne_eqb c 0x2029 f,
      ne_eqb c 0x20 (λ x. s (inl x)),
      ne_eqb c 0x85 (λ x. s (inr (inl x))),
      ne_eqb c 0xA0 (λ x. s (inr (inr (inl x)))),
      ne_eqb c 0x1680 (λ x. s (inr (inr (inr (inl x))))),
      ne_eqb c 0x202F (λ x. s (inr (inr (inr (inr (inl x)))))),
      ne_eqb c 0x205F (λ x. s (inr (inr (inr (inr (inr (inl x))))))),
      ne_eqb c 0x3000 (λ x. s (inr (inr (inr (inr (inr (inr x))))))),
    )

-- No ASCII character from 21 on is white space.
pub white_ink : (c : ℕ) → within 0x21 0x7F c ≡ true → is_white c ≡ false
white_ink c e =
    let b = within_bounds 0x21 0x7F c e in
    let l = b.0 in
    let u = b.1 in
    white_none c
    (⊎_elim (λ x. omega arith) (⊎_elim (λ x. omega arith) (⊎_elim (λ x. omega arith) (⊎_elim (λ x. omega arith) (⊎_elim (λ x. omega arith)
    (⊎_elim (λ x. omega arith) (λ x. omega arith)))))))
    (inr (omega arith)) (inl (omega arith)) (inl (omega arith))
