-- Tests that only one-byte characters pass, and tests by a list of characters. Assumes nothing.
use mathlib.Core.Path.{◌≡◌, refl, ◌∙◌}
use mathlib.Core.Bool.{Bool, true, false, ◌||◌, ◌&&◌, false≢true}
use mathlib.Core.Logic.{inl, inr, ⊎_elim}
use mathlib.Core.List.{List, [], ◌∷◌}
use Prim.Native.Nat.{ℕ, ◌≤◌}
use native.Mathlib.Omega.{arith}
use types.Run.{OneOf, hit}
use mir.Val.{has_key}
use borrow.Author.Tests.{eqb-true}
use Rattle.characters.specs.Choice.{◌is◌, within}
use Rattle.characters.proofs.Choice.{and_both, or_either, within_bounds}
use Rattle.rules.specs.Text.{Char, Text, one_of}
use Rattle.bridge.specs.Bridge.{Low, exactly}

-- ── Low ──

pub low_or : (lo : ℕ) (f g : Char → Bool) → Low lo f → Low lo g → Low lo (λ c. f c || g c)
low_or lo f g hf hg c e = ⊎_elim (hf c) (hg c) (or_either (f c) (g c) e)

pub low_within : (lo a b : ℕ) → lo ≤ a → b ≤ 0x7F → Low lo (within a b)
low_within lo a b h k c e = let p = within_bounds a b c e in (omega arith, omega arith)

pub low_is : (lo b : ℕ) → lo ≤ b → b ≤ 0x7F → Low lo (exactly b)
low_is lo b h k c e = let x = eqb-true c b e in (omega arith, omega arith)

pub low_weak : (f : Char → Bool) → Low 11 f → Low 1 f
low_weak f h c e = let p = h c e in (omega arith, p.1)

-- All of a text's characters lie between `lo` and 7F.
unfoldable pub all_low : ℕ → Text → Bool
all_low lo [] = true
all_low lo (d ∷ ds) = within lo 0x7F d && all_low lo ds

pub low_one_of : (lo : ℕ) (ds : Text) → all_low lo ds ≡ true → Low lo (one_of ds)
unfolding all_low one_of
low_one_of lo [] h c e = absurd (false≢true e)
low_one_of lo (d ∷ ds) h c e =
    let p = and_both (within lo 0x7F d) (all_low lo ds) h in
    let q = within_bounds lo 0x7F d p.0 in
    ⊎_elim
    (λ x. let y = eqb-true c d x in (omega arith, omega arith))
    (low_one_of lo ds p.1 c)
    (or_either (c is d) (one_of ds c) e)

-- One of two characters.
pub two_of_lem : (a b c : ℕ) → (c is a || c is b) ≡ one_of (a ∷ b ∷ []) c
unfolding one_of
two_of_lem a b c = go (c is a) (c is b)
  where
    go : (x y : Bool) → (x || y) ≡ (x || (y || false))
    go true y = refl
    go false true = refl
    go false false = refl

pub low_two : (lo a b : ℕ) → lo ≤ a → a ≤ 0x7F → lo ≤ b → b ≤ 0x7F → Low lo (one_of (a ∷ b ∷ []))
low_two lo a b h k i j c e =
    low_or lo (exactly a) (exactly b) (low_is lo a h k) (low_is lo b i j) c (two_of_lem a b c ∙ e)

-- ── The keys of a `match` on numbers ──

-- All of these pass.
unfoldable pub all_pass : (Char → Bool) → List ℕ → Bool
all_pass f [] = true
all_pass f (k ∷ ks) = f k && all_pass f ks

pub keys_pass : (f : Char → Bool) (ks : List ℕ) (v : ℕ) → all_pass f ks ≡ true → OneOf ks v → f v ≡ true
unfolding all_pass
keys_pass f [] v h e = absurd e
keys_pass f (k ∷ []) v h e = rw e (and_both (f k) true h).0
keys_pass f (k ∷ l ∷ ks) v h (inl e) = rw e (and_both (f k) (f l && all_pass f ks) h).0
keys_pass f (k ∷ l ∷ ks) v h (inr e) = keys_pass f (l ∷ ks) v (and_both (f k) (f l && all_pass f ks) h).1 e

-- A test passes each of these characters, and so the one that is among them.
pub one_pass : (f : Char → Bool) (ds : Text) (v : ℕ) → all_pass f ds ≡ true → one_of ds v ≡ true → f v ≡ true
unfolding all_pass one_of
one_pass f [] v h e = absurd (false≢true e)
one_pass f (d ∷ ds) v h e =
    let p = and_both (f d) (all_pass f ds) h in
    ⊎_elim (λ x. let y = eqb-true v d x in rw y p.0) (one_pass f ds v p.1) (or_either (v is d) (one_of ds v) e)

pub keys_miss : (ks ds : List ℕ) (v : ℕ) → all_pass (has_key ks) ds ≡ true → (OneOf ks v → ⊥) → one_of ds v ≡ false
keys_miss ks ds v h n = go (one_of ds v) refl
  where
    go : (b : Bool) → one_of ds v ≡ b → b ≡ false
    go false e = refl
    go true e = absurd (n (hit ks v (rw (one_pass (has_key ks) ds v h e) tt)))
