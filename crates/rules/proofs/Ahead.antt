-- Looking ahead at the front of a text `cs` sees the same with a line feed and any text `B` behind it, unless what is looked at
-- runs out with `cs`. `X` below is that line feed and `B`. Assumes nothing.
use Rattle.std.specs.Prelude.{if◌then◌else◌}
use mathlib.Core.Path.{◌≡◌, refl, ap}
use mathlib.Core.Bool.{Bool, true, false, ◌&&◌, ◌||◌, true≢false, false≢true}
use mathlib.Core.List.{[], ◌∷◌, ◌++◌}
use Prim.Native.Nat.{ℕ}
use lib.ListN.{length, drop}
use borrow.Author.Tests.{eqb-true, ne_eqb}
use Rattle.characters.specs.Choice.{◌is◌}
use Rattle.characters.proofs.Choice.{if_both, if_rel, and_both, or_neither}
use Rattle.rules.specs.Text.{Char, Text, one_of, LF}
use Rattle.rules.specs.Scan.{next, starts_with, Part, run, one_char, takes, ◌and_then◌, Upto, passes, up_to}

-- ── Tests ──

-- `x'` is `x`, unless the text ran out in `x`.
abbrev pub Keeps : {A : Type 0} → (A → Bool) → A → A → Type 0
Keeps ran_out x x' = ran_out x ≡ false → x' ≡ x

pub keeps_if : {A : Type 0} (o : A → Bool) (b b' : Bool) {x y x' y' : A}
    → b' ≡ b → (b ≡ true → Keeps o x x') → (b ≡ false → Keeps o y y') → Keeps o (if b then x else y) (if b' then x' else y')
keeps_if o b b' e f g = if_rel (Keeps o) b b' e f g

pub or_left : (a b : Bool) → (a || b) ≡ false → a ≡ false
or_left a b e = (or_neither a b e).0

pub or_right : (a b : Bool) → (a || b) ≡ false → b ≡ false
or_right a b e = (or_neither a b e).1

pub and_left : (a b : Bool) → (a && b) ≡ true → a ≡ true
and_left a b e = (and_both a b e).0

pub and_right : (a b : Bool) → (a && b) ≡ true → b ≡ true
and_right a b e = (and_both a b e).1

pub is_eq : (c d : ℕ) → (c is d) ≡ true → c ≡ d
is_eq c d e = eqb-true c d e

pub is_not : (c d : ℕ) → (c ≡ d → ⊥) → (c is d) ≡ false
is_not c d h = ne_eqb c d h

-- ── With a line feed and any text behind ──

module _ (B : Text) where
  abbrev pub X : Text
  X = LF ∷ B

  pub next_same : (p : Char → Bool) → p LF ≡ false → (cs : Text) → next p (cs ++ X) ≡ next p cs
  unfolding next
  next_same p e [] = e
  next_same p e (c ∷ cs) = refl

  pub starts_same : (mark : Text) → one_of mark LF ≡ false → (cs : Text) → starts_with mark (cs ++ X) ≡ starts_with mark cs
  unfolding starts_with one_of
  starts_same [] e cs = refl
  starts_same (p ∷ ps) e [] = rw (or_left (LF is p) (one_of ps LF) e)
  starts_same (p ∷ ps) e (c ∷ cs) = ap (λ b. c is p && b) (starts_same ps (or_right (LF is p) (one_of ps LF) e) cs)

  pub drop_same : (mark : Text) (cs : Text) → starts_with mark cs ≡ true → drop (length mark) (cs ++ X) ≡ drop (length mark) cs ++ X
  unfolding starts_with
  drop_same [] cs e = refl
  drop_same (p ∷ ps) [] e = absurd (false≢true e)
  drop_same (p ∷ ps) (c ∷ cs) e = drop_same ps cs (and_right (c is p) (starts_with ps cs) e)

  pub up_to_same : (mark : Text) → one_of mark LF ≡ false → (cs : Text)
      → Keeps (λ (u : Upto). u.open_end) (up_to mark cs) (up_to mark (cs ++ X))
  unfolding up_to
  up_to_same mark e [] = λ h. absurd (true≢false h)
  up_to_same mark e (c ∷ cs) =
      keeps_if (λ (u : Upto). u.open_end) (starts_with mark (c ∷ cs)) (starts_with mark (c ∷ (cs ++ X)))
      (starts_same mark e (c ∷ cs)) (λ _ h. refl) (λ _ h. ap (passes c) (up_to_same mark e cs h))

  -- A step that takes the same with `X` behind, and leaves `X` behind.
  abbrev pub with_X : Part → Part
  with_X a = record { taken = a.taken; left = a.left ++ X }

  abbrev pub Cuts : (Text → Part) → Type 0
  Cuts f = (cs : Text) → f (cs ++ X) ≡ with_X (f cs)

  pub run_cuts : (p : Char → Bool) → p LF ≡ false → Cuts (run p)
  unfolding run
  run_cuts p e [] = rw e
  run_cuts p e (c ∷ cs) = if_both (λ a a'. a ≡ with_X a') (p c) (λ _. ap (takes c) (run_cuts p e cs)) (λ _. refl)

  pub one_cuts : (p : Char → Bool) → p LF ≡ false → Cuts (one_char p)
  unfolding one_char
  one_cuts p e [] = rw e
  one_cuts p e (c ∷ cs) = if_both (λ a a'. a ≡ with_X a') (p c) (λ _. refl) (λ _. refl)

  pub and_then_cuts : (f g : Text → Part) → Cuts f → Cuts g → Cuts (f and_then g)
  and_then_cuts f g hf hg cs = rw (hf cs, hg (f cs).left)
