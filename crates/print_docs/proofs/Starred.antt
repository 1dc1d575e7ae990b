-- Line feeds of a doc text, and what becomes of them in a longer one. Assumes nothing.
use Rattle.std.specs.Prelude.{if◌then◌else◌}
use mathlib.Core.Path.{◌≡◌, refl, sym, ◌∙◌, ap}
use mathlib.Core.Bool.{Bool, true, false, ◌||◌}
use mathlib.Core.List.{[], ◌∷◌, ◌++◌}
use Prim.Native.Nat.{◌*◌, ◌≤◌, zero-le}
use native.Mathlib.Omega.{arith}
use borrow.Author.Tests.{eqb-false, ne_eqb}
use lib.ListN.{length}
use Rattle.characters.specs.Choice.{◌is◌}
use Rattle.characters.proofs.Choice.{if_all, or_neither}
use Rattle.rules.specs.Text.{Text, text, LF, one_of}
use Rattle.prints.specs.Writing.{starred}

-- ── Line feeds ──

pub feed_append : (a b : Text) → one_of (a ++ b) LF ≡ (one_of a LF || one_of b LF)
unfolding one_of
feed_append [] b = refl
feed_append (c ∷ a) b = go (LF is c) (feed_append a b)
  where
    go : (x : Bool) → one_of (a ++ b) LF ≡ (one_of a LF || one_of b LF) → (x || one_of (a ++ b) LF) ≡ ((x || one_of a LF) || one_of b LF)
    go true e = refl
    go false e = e

-- A part of a text without one.
pub feedless_part : (a b : Text) → one_of (a ++ b) LF ≡ false → (one_of a LF ≡ false) × (one_of b LF ≡ false)
feedless_part a b e = or_neither (one_of a LF) (one_of b LF) (sym (feed_append a b) ∙ e)

-- ── Starred ──

pub starred_append : (a b : Text) → starred (a ++ b) ≡ starred a ++ starred b
unfolding starred
starred_append [] b = refl
starred_append (c ∷ a) b = go (c is LF) (starred_append a b)
  where
    go : (x : Bool) → starred (a ++ b) ≡ starred a ++ starred b
        → (if x then LF ∷ (text "* " ++ starred (a ++ b)) else c ∷ starred (a ++ b))
        ≡ (if x then LF ∷ (text "* " ++ starred a) else c ∷ starred a) ++ starred b
    go true e = ap (λ (l : Text). LF ∷ (text "* " ++ l)) e
    go false e = ap (λ (l : Text). c ∷ l) e

pub starred_plain : (t : Text) → one_of t LF ≡ false → starred t ≡ t
unfolding starred one_of
starred_plain [] e = refl
starred_plain (c ∷ t) e =
    let p = or_neither (LF is c) (one_of t LF) e in
    rw (ne_eqb c LF (λ q. eqb-false LF c p.0 (sym q))) (ap (λ (l : Text). c ∷ l) (starred_plain t p.1))

pub starred_feed : starred (LF ∷ []) ≡ text "\n* "
unfolding starred
starred_feed = refl

pub starred_none : starred [] ≡ []
unfolding starred
starred_none = refl

pub starred_small : (t : Text) → length (starred t) ≤ 3 * length t
unfolding starred
starred_small [] = zero-le
starred_small (c ∷ t) =
    if_all (λ (l : Text). length l ≤ 3 * length (c ∷ t)) (c is LF) (λ _. omega (arith, starred_small t)) (λ _. omega (arith, starred_small t))
