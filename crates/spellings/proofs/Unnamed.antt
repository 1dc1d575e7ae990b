-- A kind that no arm of the `match` names has no spelling. Assumes nothing.
use mathlib.Core.Path.{◌≡◌, refl}
use mathlib.Core.List.{List, [], ◌∷◌}
use Prim.Native.Nat.{ℕ, zero, suc, ◌+◌, ◌≤◌, ◌<◌}
use types.Run.{OneOf}
use lib.ListN.{length, get_or, get_or-eq_default}
use native.Mathlib.Omega.{arith}
use Rattle.spellings.specs.Spelling.{spellings, spelling}

-- The kinds that have a spelling, the last one first.
abbrev pub named : List (List ℕ) → ℕ → List ℕ → List ℕ
named [] i ks = ks
named ([] ∷ rows) i ks = named rows (suc i) ks
named ((c ∷ w) ∷ rows) i ks = named rows (suc i) (i ∷ ks)

-- None of the keys, as a `match` with one key an arm tells it.
abbrev pub Missed : List ℕ → ℕ → Type 0
Missed [] v = Unit
Missed (k ∷ ks) v = Missed ks v × (OneOf (k ∷ []) v → ⊥)

missed_before : (rows : List (List ℕ)) (i : ℕ) (ks : List ℕ) (v : ℕ) → Missed (named rows i ks) v → Missed ks v
missed_before [] i ks v m = m
missed_before ([] ∷ rows) i ks v m = missed_before rows (suc i) ks v m
missed_before ((c ∷ w) ∷ rows) i ks v m = (missed_before rows (suc i) (i ∷ ks) v m).0

unnamed : (rows : List (List ℕ)) (i : ℕ) (ks : List ℕ) (k v : ℕ) → v ≡ i + k → Missed (named rows i ks) v → get_or rows k [] ≡ []
unnamed [] i ks k v e m = refl
unnamed ([] ∷ rows) i ks zero v e m = refl
unnamed ([] ∷ rows) i ks (suc k) v e m = unnamed rows (suc i) ks k v (omega arith) m
unnamed ((c ∷ w) ∷ rows) i ks zero v e m =
    let z : v ≡ i = omega arith in
    absurd ((missed_before rows (suc i) (i ∷ ks) v m).1 z)
unnamed ((c ∷ w) ∷ rows) i ks (suc k) v e m = unnamed rows (suc i) (i ∷ ks) k v (omega arith) m

pub no_spelling : (k : ℕ) → Missed (named spellings 0 []) k → spelling k ≡ []
no_spelling k m = unnamed spellings 0 [] k k (omega arith) m

kinds_all : length spellings ≡ 126
kinds_all = refl

-- A kind over 125 has no spelling.
pub spelling_none : (k : ℕ) → 125 < k → spelling k ≡ []
spelling_none k h = let t : length spellings ≤ k = omega (arith, kinds_all) in get_or-eq_default spellings [] t
