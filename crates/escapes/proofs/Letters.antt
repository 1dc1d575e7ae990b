-- Laws of the letters of escapes. Assumes nothing.
use Rattle.std.specs.Prelude.{if◌then◌else◌}
use mathlib.Core.Path.{◌≡◌, refl, ◌∙◌}
use mathlib.Core.Bool.{Bool, true, false, not, false≢true}
use mathlib.Core.List.{List, [], ◌∷◌, map}
use mathlib.Core.Logic.{⊎_elim}
use mathlib.Core.Option.{Option, none, some}
use Prim.Native.Nat.{ℕ, ◌≤◌}
use types.Run.{OneOf}
use lib.Dec.{leb}
use native.Mathlib.Omega.{arith}
use borrow.Author.Tests.{eqb-true, ne_eqb, leb-true}
use Rattle.characters.specs.Choice.{◌is◌, within}
use Rattle.characters.proofs.Choice.{and_both, or_either, within_bounds}
use Rattle.rules.specs.Text.{one_of}
use Rattle.rules.specs.Tables.{ESCAPES, lookup}
use Rattle.bridge.proofs.Tests.{all_pass}

-- None of the keys, the last arm's first, as a `match` with one key an arm tells it.
abbrev pub Missed : List ℕ → ℕ → Type 0
Missed [] v = Unit
Missed (k ∷ ks) v = Missed ks v × (OneOf (k ∷ []) v → ⊥)

missed : (ks : List ℕ) (v k : ℕ) → Missed ks v → one_of ks k ≡ true → v ≡ k → ⊥
unfolding one_of
missed [] v k m h e = absurd (false≢true h)
missed (l ∷ ks) v k m h e =
    ⊎_elim (λ x. m.1 (e ∙ eqb-true k l x)) (λ x. missed ks v k m.0 x e) (or_either (k is l) (one_of ks k) h)

-- A table whose keys are all among those missed has no row.
pub lookup_missed : (ks : List ℕ) (rows : List (ℕ × ℕ)) (v : ℕ) → all_pass (one_of ks) (map (λ (r : ℕ × ℕ). r.0) rows) ≡ true → Missed ks v
    → lookup v rows ≡ none
unfolding lookup all_pass
lookup_missed ks [] v h m = refl
lookup_missed ks (r ∷ rows) v h m =
    let p = and_both (one_of ks r.0) (all_pass (one_of ks) (map (λ (r : ℕ × ℕ). r.0) rows)) h in
    rw (ne_eqb v r.0 (missed ks v r.0 m p.0)) (lookup_missed ks rows v p.1 m)

-- ── Letters that the table has ──

-- What holds of all keys of a table holds of one that has a row.
pub lookup_key : (f : ℕ → Bool) (rows : List (ℕ × ℕ)) (e v : ℕ) → all_pass f (map (λ (r : ℕ × ℕ). r.0) rows) ≡ true → lookup e rows ≡ some v → f e ≡ true
unfolding lookup all_pass
lookup_key f [] e v h k = absurd (let z : ◌≡◌ {A = ℕ} 0 1 = cc in omega arith)
lookup_key f (r ∷ rows) e v h k =
    let x = and_both (f r.0) (all_pass f (map (λ (r : ℕ × ℕ). r.0) rows)) h in
    go (e is r.0) refl k x.0 (λ y. lookup_key f rows e v x.1 y)
  where
    go : (b : Bool) → (e is r.0) ≡ b → (if b then some r.1 else lookup e rows) ≡ some v → f r.0 ≡ true → (lookup e rows ≡ some v → f e ≡ true) → f e ≡ true
    go true q k x y = let z = eqb-true e r.0 q in rw z x
    go false q k x y = y k

-- A letter of an escape is one flat character.
pub letter_flat : (e v : ℕ) → lookup e ESCAPES ≡ some v → (11 ≤ e) × (e ≤ 0x7F)
unfolding ESCAPES all_pass within
letter_flat e v k = within_bounds 11 0x7F e (lookup_key (within 11 0x7F) ESCAPES e v refl k)

pub letter_not_u : (e v : ℕ) → lookup e ESCAPES ≡ some v → e ≡ 117 → ⊥
unfolding ESCAPES all_pass
letter_not_u e v k x = false≢true (rw x at (lookup_key (λ c. not (c is 117)) ESCAPES e v refl k))

pub letter_high : (e : ℕ) → 128 ≤ e → lookup e ESCAPES ≡ none
letter_high e h = go (lookup e ESCAPES) refl
  where
    go : (o : Option ℕ) → lookup e ESCAPES ≡ o → o ≡ none
    go none k = refl
    go (some v) k = let z = letter_flat e v k in absurd (omega arith)

-- What holds of all values of a table holds of the one found.
lookup_value : (f : ℕ → Bool) (rows : List (ℕ × ℕ)) (e v : ℕ) → all_pass f (map (λ (r : ℕ × ℕ). r.1) rows) ≡ true → lookup e rows ≡ some v → f v ≡ true
unfolding lookup all_pass
lookup_value f [] e v h k = absurd (let z : ◌≡◌ {A = ℕ} 0 1 = cc in omega arith)
lookup_value f (r ∷ rows) e v h k =
    let x = and_both (f r.1) (all_pass f (map (λ (r : ℕ × ℕ). r.1) rows)) h in
    go (e is r.0) k x.0 (λ y. lookup_value f rows e v x.1 y)
  where
    go : (b : Bool) → (if b then some r.1 else lookup e rows) ≡ some v → f r.1 ≡ true → (lookup e rows ≡ some v → f v ≡ true) → f v ≡ true
    go true q x y = let z : r.1 ≡ v = cc in rw (← z) x
    go false q x y = y q

pub escape_small : (e v : ℕ) → lookup e ESCAPES ≡ some v → v ≤ 0x7F
unfolding ESCAPES all_pass
escape_small e v k = leb-true v 0x7F (lookup_value (λ x. leb x 0x7F) ESCAPES e v refl k)
