-- Laws of choices by a test, and of the test `within`. Assumes nothing.
use Rattle.std.specs.Prelude.{if◌then◌else◌}
use mathlib.Core.Path.{◌≡◌, refl}
use mathlib.Core.Bool.{Bool, true, false, ◌&&◌, ◌||◌, and-false, true≢false, false≢true}
use mathlib.Core.Logic.{◌⊎◌, inl, inr}
use Prim.Native.Nat.{ℕ, ◌≤◌, ◌<◌}
use lib.Dec.{leb}
use borrow.Author.Tests.{le-leb, lt-leb, leb-true, leb-false}
use Rattle.characters.specs.Choice.{within}

-- What holds of both choices holds of the choice.
pub if_all : {A : Type 0} (P : A → Type 0) (b : Bool) {x y : A} → (b ≡ true → P x) → (b ≡ false → P y) → P (if b then x else y)
if_all P true f g = f refl
if_all P false f g = g refl

-- A relation between two choices by one test.
pub if_both : {A A' : Type 0} (R : A → A' → Type 0) (b : Bool) {x y : A} {x' y' : A'}
    → (b ≡ true → R x x') → (b ≡ false → R y y') → R (if b then x else y) (if b then x' else y')
if_both R true f g = f refl
if_both R false f g = g refl

-- The same where the two tests are equal.
pub if_rel {κ} : {A A' : Type 0} (R : A → A' → Type κ) (b b' : Bool) {x y : A} {x' y' : A'}
    → b' ≡ b → (b ≡ true → R x x') → (b ≡ false → R y y') → R (if b then x else y) (if b' then x' else y')
if_rel R true true e f g = f refl
if_rel R true false e f g = absurd (false≢true e)
if_rel R false true e f g = absurd (true≢false e)
if_rel R false false e f g = g refl

-- The two parts of a test with `&&` or `||`.
pub and_both : (a b : Bool) → (a && b) ≡ true → (a ≡ true) × (b ≡ true)
and_both true b e = (refl, e)
and_both false b e = absurd (false≢true e)

pub or_either : (a b : Bool) → (a || b) ≡ true → (a ≡ true) ⊎ (b ≡ true)
or_either true b e = inl refl
or_either false b e = inr e

pub or_neither : (a b : Bool) → (a || b) ≡ false → (a ≡ false) × (b ≡ false)
or_neither true b e = absurd (true≢false e)
or_neither false b e = (refl, e)

-- One number is at most another, or greater.
pub le_or_lt : (m n : ℕ) → (m ≤ n) ⊎ (n < m)
le_or_lt m n = go (leb m n) refl
  where
    go : (b : Bool) → leb m n ≡ b → (m ≤ n) ⊎ (n < m)
    go true e = inl (leb-true m n e)
    go false e = inr (leb-false m n e)

-- ── within ──

pub within_yes : (lo hi c : ℕ) → lo ≤ c → c ≤ hi → within lo hi c ≡ true
unfolding within
within_yes lo hi c a b = simp (le-leb lo c a, le-leb c hi b)

pub within_below : (lo hi c : ℕ) → c < lo → within lo hi c ≡ false
unfolding within
within_below lo hi c a = simp (lt-leb lo c a)

pub within_above : (lo hi c : ℕ) → hi < c → within lo hi c ≡ false
unfolding within
within_above lo hi c a = simp (lt-leb c hi a, and-false)

pub within_bounds : (lo hi c : ℕ) → within lo hi c ≡ true → (lo ≤ c) × (c ≤ hi)
unfolding within
within_bounds lo hi c e =
    let p = and_both (leb lo c) (leb c hi) e in
    (leb-true lo c p.0, leb-true c hi p.1)

pub within_outside : (lo hi c : ℕ) → within lo hi c ≡ false → (c < lo) ⊎ (hi < c)
unfolding within
within_outside lo hi c e = go (leb lo c) refl e
  where
    go : (b : Bool) → leb lo c ≡ b → (b && leb c hi) ≡ false → (c < lo) ⊎ (hi < c)
    go true f g = inr (leb-false c hi g)
    go false f g = inl (leb-false lo c f)
