-- What a text begins with, at byte places. Assumes nothing.
use mathlib.Core.Path.{◌≡◌, refl, sym, ◌∙◌, ap}
use mathlib.Core.Bool.{true, false}
use mathlib.Core.Logic.{◌⊎◌, inl, inr}
use mathlib.Core.List.{List, [], ◌∷◌}
use Prim.Native.Nat.{ℕ, ◌+◌, ◌≤◌, ◌<◌}
use lib.ListN.{length, get_or, drop, drop_of_length-le}
use lib.Seq.{drop-cons}
use native.Mathlib.Nat.{add-zero}
use native.Mathlib.Numerals.{add-one}
use native.Mathlib.Omega.{arith}
use Rattle.characters.specs.Utf8.{chars_at}
use Rattle.rules.specs.Text.{Text}
use Rattle.rules.specs.Scan.{next, starts_with}
use Rattle.bridge.specs.Bridge.{Letter, Letters, exactly}
use Rattle.bridge.proofs.Tests.{low_is}
use Rattle.bridge.proofs.Bytes.{next_cons, starts_at, starts_one, starts_first}

module _ (s : List ℕ) (at x : ℕ) (l : Letter x) where
  -- The character stands here, so the place is one of the text's.
  pub stands_there : next (exactly x) (chars_at s at) ≡ true → at < length s
  stands_there e = (next_cons (exactly x) (low_is 1 x l.0 l.1) s at e).0

  pub starts_yes : (t : Text) → next (exactly x) (chars_at s at) ≡ true
      → starts_with (x ∷ t) (chars_at s at) ≡ starts_with t (chars_at s (at + 1))
  starts_yes t e = starts_at s at x t (low_is 1 x l.0 l.1) ∙ rw e

  pub starts_no : (t : Text) → next (exactly x) (chars_at s at) ≡ false → starts_with (x ∷ t) (chars_at s at) ≡ false
  starts_no t e = starts_at s at x t (low_is 1 x l.0 l.1) ∙ rw e

  pub starts_two : (y : ℕ) → next (exactly x) (chars_at s at) ≡ true
      → starts_with (x ∷ y ∷ []) (chars_at s at) ≡ next (exactly y) (chars_at s (at + 1))
  starts_two y e = starts_yes (y ∷ []) e ∙ starts_one y (chars_at s (at + 1))

-- Two characters that stand at a place.
module _ (s : List ℕ) (at x y : ℕ) (l : Letter x) (k : Letter y) (e : starts_with (x ∷ y ∷ []) (chars_at s at) ≡ true) where
  first_stands : next (exactly x) (chars_at s at) ≡ true
  first_stands = starts_first x (y ∷ []) (chars_at s at) e

  second_stands : next (exactly y) (chars_at s (at + 1)) ≡ true
  second_stands = sym (starts_two s at x l y first_stands) ∙ e

  pub pair_there : at + 1 < length s
  pair_there = stands_there s (at + 1) y k second_stands

  pub starts_behind : (t : Text) → starts_with (x ∷ y ∷ t) (chars_at s at) ≡ starts_with t (chars_at s (at + 2))
  starts_behind t =
      let n : at + 1 + 1 ≡ at + 2 = omega arith in
      starts_yes s at x l (y ∷ t) first_stands
      ∙ (starts_yes s (at + 1) y k t second_stands ∙ ap (λ (i : ℕ). starts_with t (chars_at s i)) n)

-- ── Bytes one after another ──

-- From the byte `i` of `m` on: `m` stands at `at` exactly if the rest of it stands `i` bytes on.
pub record Standing (s m : List ℕ) (at i : ℕ) : Type 0 where
  pub same : starts_with m (chars_at s at) ≡ starts_with (drop i m) (chars_at s (at + i))
  pub letters : Letters (drop i m)
  pub place : (i ≡ 0) ⊎ (at + i ≤ length s)

pub standing_start : (s m : List ℕ) (at : ℕ) → Letters m → Standing s m at 0
standing_start s m at h = record { same = rw (add-zero at); letters = h; place = inl refl }

module _ (s m : List ℕ) (at i : ℕ) (g : Standing s m at i) where
  module _ (h : i < length m) where
    rest_is : drop i m ≡ get_or m i 0 ∷ drop (i + 1) m
    rest_is = rw (add-one i, drop-cons m i 0 h)

    rest_letters : Letters (get_or m i 0 ∷ drop (i + 1) m)
    rest_letters = rw rest_is at g.letters

    pub standing_letter : Letter (get_or m i 0)
    standing_letter = rest_letters.0

    rest_same : starts_with m (chars_at s at) ≡ starts_with (get_or m i 0 ∷ drop (i + 1) m) (chars_at s (at + i))
    rest_same = g.same ∙ ap (λ (t : Text). starts_with t (chars_at s (at + i))) rest_is

    pub standing_no : next (exactly (get_or m i 0)) (chars_at s (at + i)) ≡ false → false ≡ starts_with m (chars_at s at)
    standing_no e = sym (rest_same ∙ starts_no s (at + i) (get_or m i 0) standing_letter (drop (i + 1) m) e)

    pub standing_more : next (exactly (get_or m i 0)) (chars_at s (at + i)) ≡ true → Standing s m at (i + 1)
    standing_more e =
        let n : at + i + 1 ≡ at + (i + 1) = omega arith in
        let t = stands_there s (at + i) (get_or m i 0) standing_letter e in
        record {
          same =
              rest_same
              ∙ (starts_yes s (at + i) (get_or m i 0) standing_letter (drop (i + 1) m) e
              ∙ ap (λ (j : ℕ). starts_with (drop (i + 1) m) (chars_at s j)) n);
          letters = rest_letters.1;
          place = inr (omega (arith, t));
        }

  pub standing_end : length m ≤ i → true ≡ starts_with m (chars_at s at)
  unfolding starts_with
  standing_end h = sym (g.same ∙ rw (drop_of_length-le m h))
