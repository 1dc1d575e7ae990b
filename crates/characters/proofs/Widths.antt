-- Laws of a character's width and octets, by its range. Assumes nothing.
use mathlib.Core.Path.{◌≡◌, refl}
use mathlib.Core.Bool.{true, false, not}
use mathlib.Core.Logic.{◌⊎◌}
use mathlib.Core.List.{List, [], ◌∷◌}
use Prim.Native.Nat.{ℕ, ◌+◌, ◌/◌, ◌%◌, ◌≤◌, ◌<◌}
use lib.Dec.{leb}
use lib.ListN.{length}
use borrow.Author.Tests.{le-leb, lt-leb, leb-true, not-true}
use native.Mathlib.Omega.{arith}
use Rattle.characters.specs.Choice.{within}
use Rattle.characters.specs.Utf8.{is_scalar, width, encode_char}
use Rattle.characters.proofs.Choice.{if_all, if_both, and_both, within_yes, within_below, within_above, within_outside}

-- ── Characters ──

pub scalar_low : (c : ℕ) → c < 0xD800 → is_scalar c ≡ true
unfolding is_scalar
scalar_low c h = simp (le-leb c 0x10FFFF (omega arith), within_below 0xD800 0xDFFF c h)

pub scalar_high : (c : ℕ) → 0xDFFF < c → c ≤ 0x10FFFF → is_scalar c ≡ true
unfolding is_scalar
scalar_high c g h = simp (le-leb c 0x10FFFF h, within_above 0xD800 0xDFFF c g)

pub not_surrogate : (c : ℕ) → 0xD800 ≤ c → c ≤ 0xDFFF → is_scalar c ≡ false
unfolding is_scalar
not_surrogate c g h = simp (le-leb c 0x10FFFF (omega arith), within_yes 0xD800 0xDFFF c g h)

pub not_large : (c : ℕ) → 0x10FFFF < c → is_scalar c ≡ false
unfolding is_scalar
not_large c h = simp (lt-leb c 0x10FFFF h)

pub scalar_bounds : (c : ℕ) → is_scalar c ≡ true → (c ≤ 0x10FFFF) × ((c < 0xD800) ⊎ (0xDFFF < c))
unfolding is_scalar
scalar_bounds c e =
    let p = and_both (leb c 0x10FFFF) (not (within 0xD800 0xDFFF c)) e in
    (leb-true c 0x10FFFF p.0, within_outside 0xD800 0xDFFF c (not-true (within 0xD800 0xDFFF c) p.1))

-- ── Widths ──

module _ (c : ℕ) where
  pub width_one : c ≤ 0x7F → width c ≡ 1
  unfolding width
  width_one h = simp (le-leb c 0x7F h)

  pub width_two : 0x7F < c → c ≤ 0x7FF → width c ≡ 2
  unfolding width
  width_two g h = simp (lt-leb c 0x7F g, le-leb c 0x7FF h)

  pub width_three : 0x7FF < c → c ≤ 0xFFFF → width c ≡ 3
  unfolding width
  width_three g h = simp (lt-leb c 0x7F (omega arith), lt-leb c 0x7FF g, le-leb c 0xFFFF h)

  pub width_four : 0xFFFF < c → width c ≡ 4
  unfolding width
  width_four g = simp (lt-leb c 0x7F (omega arith), lt-leb c 0x7FF (omega arith), lt-leb c 0xFFFF g)

  pub width_bounds : (1 ≤ width c) × (width c ≤ 4)
  unfolding width
  width_bounds =
      if_all Fits (leb c 0x7F) (λ _. (omega arith, omega arith)) (λ _.
      if_all Fits (leb c 0x7FF) (λ _. (omega arith, omega arith)) (λ _.
      if_all Fits (leb c 0xFFFF) (λ _. (omega arith, omega arith)) (λ _. (omega arith, omega arith))))
    where
      Fits : ℕ → Type 0
      Fits n = (1 ≤ n) × (n ≤ 4)

-- ── Octets ──

module _ (c : ℕ) where
  pub encode_one : c ≤ 0x7F → encode_char c ≡ c ∷ []
  unfolding encode_char
  encode_one h = simp (le-leb c 0x7F h)

  pub encode_two : 0x7F < c → c ≤ 0x7FF → encode_char c ≡ (0xC0 + c / 64) ∷ (0x80 + c % 64) ∷ []
  unfolding encode_char
  encode_two g h = simp (lt-leb c 0x7F g, le-leb c 0x7FF h)

  pub encode_three : 0x7FF < c → c ≤ 0xFFFF → encode_char c ≡ (0xE0 + c / 64 / 64) ∷ (0x80 + c / 64 % 64) ∷ (0x80 + c % 64) ∷ []
  unfolding encode_char
  encode_three g h = simp (lt-leb c 0x7F (omega arith), lt-leb c 0x7FF g, le-leb c 0xFFFF h)

  pub encode_four : 0xFFFF < c
      → encode_char c ≡ (0xF0 + c / 64 / 64 / 64) ∷ (0x80 + c / 64 / 64 % 64) ∷ (0x80 + c / 64 % 64) ∷ (0x80 + c % 64) ∷ []
  unfolding encode_char
  encode_four g = simp (lt-leb c 0x7F (omega arith), lt-leb c 0x7FF (omega arith), lt-leb c 0xFFFF g)

  -- A character has as many octets as its width says.
  pub char_length : length (encode_char c) ≡ width c
  unfolding encode_char width
  char_length =
      if_both Same (leb c 0x7F) (λ _. refl) (λ _.
      if_both Same (leb c 0x7FF) (λ _. refl) (λ _.
      if_both Same (leb c 0xFFFF) (λ _. refl) (λ _. refl)))
    where
      Same : List ℕ → ℕ → Type 0
      Same l n = length l ≡ n
