-- Tables as lists.
use Rattle.std.specs.Prelude.{List, [], ◌∷◌, ℕ, zero, suc}

-- `f i`, `f (i + 1)` and so on: `n` of them.
unfoldable pub list_from : {A : Type 0} → (ℕ → A) → ℕ → ℕ → List A
list_from f i zero = []
list_from f i (suc n) = f i ∷ list_from f (suc i) n

-- A table of `n` entries, and one of `n` rows of `m` entries.
abbrev pub table_of : (ℕ → ℕ) → ℕ → List ℕ
table_of f n = list_from f 0 n

abbrev pub rows_of : (ℕ → ℕ → ℕ) → ℕ → ℕ → List (List ℕ)
rows_of f m n = list_from (λ i. table_of (f i) m) 0 n
