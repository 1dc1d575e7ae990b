-- Decimal digits: those of the library `io` are those of the definition. Assumes nothing.
use mathlib.Core.Path.{◌≡◌, sym, ◌∙◌}
use mathlib.Core.Logic.{⊎_elim}
use mathlib.Core.List.{List, [], ◌∷◌, ◌++◌}
use Prim.Native.Nat.{ℕ, zero, suc, ◌+◌, ◌-◌, ◌*◌, ◌/◌, ◌%◌, ◌^◌, ◌≤◌, ◌<◌}
use native.Mathlib.Nat.{pow-suc, pow-le-pow_right, mod-lt, div-lt_iff_lt-mul, le-div_iff_mul-le}
use native.Mathlib.Omega.{arith}
use borrow.Author.Tests.{ltb-true, lt-ltb}
use lib.Dec.{ltb}
use lib.ListN.{take}
use Rattle.characters.proofs.Choice.{if_all, le_or_lt}
use Rattle.io.specs.Digits.{last_digits, IsDigitCount, hex_digit_ascii}
use Rattle.output.specs.Writing.{Put}
use Rattle.output.proofs.Buffers.{put_then}
use Rattle.listing_fields.specs.Numbers.{decimal_in, decimal}
use Rattle.listing_fields.specs.Fields.{field}

last_digit : (n : ℕ) → hex_digit_ascii (n % 10) ≡ 48 + n % 10
last_digit n = let h : n % 10 < 10 = mod-lt n (omega arith) in rw (lt-ltb (n % 10) 10 h)

-- ── One digit less ──

fewer : (n j : ℕ) → IsDigitCount 10 1 n (suc (suc j)) → IsDigitCount 10 1 (n / 10) (suc j)
fewer n j f =
    let e : suc (suc j) - 1 ≡ suc j = omega arith in
    let g : suc j - 1 ≡ j = omega arith in
    let low : n < 10 ^ suc j * 10 = rw (pow-suc 10 (suc j)) at f.1 in
    let high : 10 ^ (suc (suc j) - 1) ≤ n = f.2 (omega arith) in
    let step : 10 ^ j * 10 ≤ n = rw (e, pow-suc 10 j) at high in
    (omega arith, (div-lt_iff_lt-mul {k = 10} {x = n} {y = 10 ^ suc j} (omega arith)).1 low, (λ _. rw g ((le-div_iff_mul-le {k = 10} {x = 10 ^ j} {y = n} (omega arith)).1 step)))

pow_low : (j : ℕ) → 1 ≤ 10 ^ j
pow_low zero = omega arith
pow_low (suc j) = rw (pow-suc 10 j) (omega (arith, pow_low j))

-- A number below 10 has one digit, and one from 10 on has more.
no_more : (n j : ℕ) → n < 10 → IsDigitCount 10 1 n (suc (suc j)) → ⊥
no_more n j h f =
    let e : suc (suc j) - 1 ≡ suc j = omega arith in
    let high : 10 ^ (suc (suc j) - 1) ≤ n = f.2 (omega arith) in
    let step : 10 ^ j * 10 ≤ n = rw (e, pow-suc 10 j) at high in
    omega (arith, pow_low j)

pub decimal_digits : (most r n : ℕ) → r ≤ most → IsDigitCount 10 1 n r → decimal_in most n ≡ last_digits 10 r n
unfolding decimal_in
decimal_digits most zero n h f = absurd (omega (arith, f.0))
decimal_digits zero (suc r) n h f = absurd (omega arith)
decimal_digits (suc most) (suc zero) n h f =
    let g : n < 10 = f.1 in
    rw (lt-ltb n 10 g, last_digit n)
decimal_digits (suc most) (suc (suc r)) n h f =
    if_all (λ (l : List ℕ). l ++ ((48 + n % 10) ∷ []) ≡ last_digits 10 (suc (suc r)) n) (ltb n 10)
    (λ e. absurd (no_more n r (ltb-true n 10 e) f))
    (λ _. rw (decimal_digits most (suc r) (n / 10) (omega arith) (fewer n r f), last_digit n))

-- A number of 64 bits has at most 20 digits.
pub few_digits : (x r : ℕ) → x < 2 ^ 64 → IsDigitCount 10 1 x r → r ≤ 20
few_digits x r h f = ⊎_elim (λ l. l) (λ g. absurd (many g)) (le_or_lt r 20)
  where
    many : 20 < r → ⊥
    many g =
        let low : 20 ≤ r - 1 = omega arith in
        let more : 10 ^ 20 ≤ 10 ^ (r - 1) = pow-le-pow_right (omega arith) low in
        omega (arith, f.2 (omega arith))

-- A field: a space, and then the digits that `io` put at the front of `l`.
pub field_put : (a b c : List ℕ) (at m r x n : ℕ) (l : List ℕ) → x < 2 ^ 64 → IsDigitCount 10 1 x n → take n l ≡ last_digits 10 n x
    → Put a b at (32 ∷ []) m → Put b c m (take n l) r → Put a c at (field x) r
unfolding field decimal
field_put a b c at m r x n l h f e p q =
    let same : take n l ≡ decimal_in 20 x = e ∙ sym (decimal_digits 20 n x (few_digits x n h f) f) in
    rw (← same) (put_then a b c at m r (32 ∷ []) (take n l) p q)
