-- Laws of tables, and tests that antt computes at each number below a bound. Assumes nothing.
use mathlib.Core.Path.{◌≡◌, sym, ◌∙◌, subst}
use mathlib.Core.Bool.{Bool, true, ◌&&◌}
use mathlib.Core.Logic.{⊎_elim}
use mathlib.Core.List.{[]}
use Prim.Native.Nat.{ℕ, zero, suc, ◌+◌, ◌<◌}
use lib.ListN.{get_or}
use native.Mathlib.Nat.{add-zero, zero-add, add-suc, suc-add, not-suc-le-zero, le_of_suc-le-suc, eq-or-lt_of_le}
use Rattle.characters.proofs.Choice.{and_both}
use Rattle.lexemes.specs.Lists.{list_from, table_of, rows_of}

-- ── Tables ──

module _ {A : Type 0} (f : ℕ → A) (d : A) where
  from_at : (i n k : ℕ) → k < n → get_or (list_from f i n) k d ≡ f (i + k)
  unfolding list_from
  from_at i zero k h = absurd (not-suc-le-zero h)
  from_at i (suc n) zero h = rw (add-zero i)
  from_at i (suc n) (suc k) h = from_at (suc i) n k (le_of_suc-le-suc h) ∙ rw (suc-add i k, add-suc i k)

  pub list_at : (n k : ℕ) → k < n → get_or (list_from f 0 n) k d ≡ f k
  list_at n k h = from_at 0 n k h ∙ rw (zero-add k)

pub table_at : (f : ℕ → ℕ) (n k : ℕ) → k < n → get_or (table_of f n) k 0 ≡ f k
table_at f n k h = list_at f 0 n k h

pub rows_at : (f : ℕ → ℕ → ℕ) (m n i j : ℕ) → i < n → j < m → get_or (get_or (rows_of f m n) i []) j 0 ≡ f i j
rows_at f m n i j h k = rw (list_at (λ x. table_of (f x) m) [] n i h) (table_at (f i) m j k)

-- ── Tests below a bound ──

unfoldable pub all_below : (ℕ → Bool) → ℕ → Bool
all_below f zero = true
all_below f (suc n) = f n && all_below f n

pub below : (f : ℕ → Bool) (n : ℕ) → all_below f n ≡ true → (k : ℕ) → k < n → f k ≡ true
unfolding all_below
below f zero t k h = absurd (not-suc-le-zero h)
below f (suc n) t k h =
    let p = and_both (f n) (all_below f n) t in
    ⊎_elim
    (λ e. subst (λ (m : ℕ). f m ≡ true) (sym e) p.0)
    (λ l. below f n p.1 k l)
    (eq-or-lt_of_le (le_of_suc-le-suc h))
