-- Laws of `Cut`: parts of one line, by byte places. Assumes nothing.
use mathlib.Core.Path.{◌≡◌, refl, sym, ◌∙◌, ap, ap₂, subst}
use mathlib.Core.Bool.{Bool, true, false}
use mathlib.Core.Logic.{⊎_elim}
use mathlib.Core.List.{List, [], ◌∷◌, ◌++◌, append_assoc}
use Prim.Native.Nat.{ℕ, zero, suc, ◌+◌, ◌-◌, ◌≤◌, ◌<◌}
use lib.ListN.{length, get_or, take, drop}
use lib.Seq.{slice, slice_empty, slice-cons, length-slice, length-take-le, take-add, drop_at, drop-append-le}
use native.Mathlib.Omega.{arith}
use native.Mathlib.Nat.{add-zero}
use native.Mathlib.Numerals.{add-one}
use Rattle.characters.specs.Utf8.{chars_at}
use Rattle.characters.proofs.Choice.{le_or_lt}
use Rattle.characters.proofs.Characters.{chars_ascii}
use Rattle.rules.specs.Text.{Char, Text}
use Rattle.rules.specs.Scan.{next, Part, run, one_char, nothing, takes, ◌and_then◌}
use Rattle.runs.specs.Runs.{RunTo}
use Rattle.bridge.specs.Bridge.{Low, Flat, Cut}
use Rattle.bridge.proofs.Tests.{low_weak}
use Rattle.bridge.proofs.Bytes.{byte_cons, byte_next, past_end}

-- ── The rules' scans, by what stands next ──

pub run_none : (f : Char → Bool) (cs : Text) → next f cs ≡ false → run f cs ≡ nothing cs
unfolding run next
run_none f [] e = refl
run_none f (c ∷ cs) e = rw e

pub one_none : (f : Char → Bool) (cs : Text) → next f cs ≡ false → one_char f cs ≡ nothing cs
unfolding one_char next
one_none f [] e = refl
one_none f (c ∷ cs) e = rw e

-- ── Cuts one after the other ──

pub cut_nothing : (s : List ℕ) (at : ℕ) → at ≤ length s → Cut s at (nothing (chars_at s at)) at
cut_nothing s at h =
    record { left = refl; whole = refl; bytes = slice_empty at s; forth = omega arith; inside = h; flat = tt }

-- One character in front.
pub cut_cons : (s : List ℕ) (at : ℕ) (a : Part) (to : ℕ) → at < length s → 11 ≤ get_or s at 0 → get_or s at 0 ≤ 0x7F
    → Cut s (at + 1) a to → Cut s at (takes (get_or s at 0) a) to
cut_cons s at a to h l u k =
    let f = k.forth in
    let g = k.inside in
    record {
      left = k.left;
      whole = chars_ascii s at h u ∙ ap (λ (t : Text). get_or s at 0 ∷ t) k.whole;
      bytes = slice-cons at to s 0 (omega arith) g ∙ ap (λ (t : List ℕ). get_or s at 0 ∷ t) (rw (← add-one at) k.bytes);
      forth = omega arith;
      inside = g;
      flat = (l, u, k.flat);
    }

pub flat_append : (a b : Text) → Flat a → Flat b → Flat (a ++ b)
flat_append [] b h k = k
flat_append (c ∷ a) b h k = (h.0, h.1, flat_append a b h.2 k)

pub slice_append : (s : List ℕ) (at mid to : ℕ) → at ≤ mid → mid ≤ to → to ≤ length s
    → slice at to s ≡ slice at mid s ++ slice mid to s
slice_append s at mid to f g h =
    let x = take (to - mid) (drop mid s) in
    let n : mid + (to - mid) ≡ to = omega arith in
    let l : length (take mid s) ≡ mid = length-take-le mid s (omega arith) in
    let e : take to s ≡ take mid s ++ x = ap (λ (k : ℕ). take k s) (sym n) ∙ take-add mid (to - mid) s in
    let y : drop mid (take to s) ≡ x = rw e (drop_at (take mid s) x mid l) in
    rw (y, e) (drop-append-le at (take mid s) x (omega arith))

-- Two cuts are one.
pub cut_join : (s : List ℕ) (at mid to : ℕ) (a b : Part) → Cut s at a mid → Cut s mid b to
    → Cut s at (record { taken = a.taken ++ b.taken; left = b.left }) to
cut_join s at mid to a b x y =
    record {
      left = y.left;
      whole = x.whole ∙ (ap (λ (t : Text). a.taken ++ t) y.whole ∙ sym (append_assoc a.taken b.taken (chars_at s to)));
      bytes =
          slice_append s at mid to x.forth y.forth y.inside ∙ ap₂ (λ (t u : List ℕ). t ++ u) x.bytes y.bytes;
      forth = omega arith;
      inside = y.inside;
      flat = flat_append a.taken b.taken x.flat y.flat;
    }

-- What one rule takes and then another, by the cuts of each.
pub cut_then : (s : List ℕ) (at mid to : ℕ) (f g : Text → Part) → Cut s at (f (chars_at s at)) mid
    → Cut s mid (g (chars_at s mid)) to → Cut s at ((f and_then g) (chars_at s at)) to
cut_then s at mid to f g x y =
    cut_join s at mid to (f (chars_at s at)) (g (f (chars_at s at)).left) x
    (subst (λ (t : Text). Cut s mid (g t) to) x.left y)

-- The second rule's cut, told of what the first one leaves.
pub cut_rest : (s : List ℕ) (at mid to : ℕ) (f g : Text → Part) → Cut s at (f (chars_at s at)) mid
    → Cut s mid (g (chars_at s mid)) to → Cut s mid (g (f (chars_at s at)).left) to
cut_rest s at mid to f g x y = subst (λ (t : Text). Cut s mid (g t) to) x.left y

pub cut_length : (s : List ℕ) (at to : ℕ) (a : Part) → Cut s at a to → length a.taken ≡ to - at
cut_length s at to a x = rw (← x.bytes) (length-slice at to s x.inside)

-- ── Runs ──

module _ (f : Char → Bool) (low : Low 11 f) (s : List ℕ) where
  -- A run goes on at a byte that passes, and stops at one that does not.
  pub run_more : (at to : ℕ) → f (get_or s at 0) ≡ true → Cut s (at + 1) (run f (chars_at s (at + 1))) to
      → Cut s at (run f (chars_at s at)) to
  unfolding run
  run_more at to t k =
      let q = low (get_or s at 0) t in
      let b = byte_cons f (low_weak f low) s at t in
      rw (b.1, t) (cut_cons s at (run f (chars_at s (at + 1))) to b.0 q.0 q.1 k)

  pub run_stop : (at : ℕ) → at ≤ length s → f (get_or s at 0) ≡ false → Cut s at (run f (chars_at s at)) at
  run_stop at h t =
      rw (run_none f (chars_at s at) (byte_next f (low_weak f low) s at ∙ t)) (cut_nothing s at h)

  pub run_end : (at : ℕ) → length s ≤ at → at ≤ length s → Cut s at (run f (chars_at s at)) at
  run_end at l h = run_stop at h (past_end f (low_weak f low) s at l)

  -- A walk past the bytes that pass, where each answer of its test is that of `f`.
  module _ {A : ℕ → Bool → Type 0} (tells : (i : ℕ) (b : Bool) → A (get_or s i 0) b → b ≡ f (get_or s i 0)) {from to : ℕ} (r : RunTo A s from to) where
    run_from : (n at : ℕ) → at + n ≡ to → from ≤ at → Cut s at (run f (chars_at s at)) to
    run_from zero at e l =
        let t : at ≡ to = sym (add-zero at) ∙ e in
        subst (λ (n : ℕ). Cut s at (run f (chars_at s at)) n) t
        (⊎_elim (λ k. run_end at k (omega (arith, r.inside)))
        (λ k. run_stop at (omega (arith, r.inside)) (sym (tells at false (rw t (r.stop (omega arith)))))) (le_or_lt (length s) at))
    run_from (suc n) at e l =
        run_more at to (sym (tells at true (r.passed at l (omega arith)))) (run_from n (at + 1) (omega arith) (omega arith))

    pub cut_run : Cut s from (run f (chars_at s from)) to
    cut_run = run_from (to - from) from (omega (arith, r.forth)) (omega arith)

  -- One character that passes, or none.
  pub one_more : (at : ℕ) → f (get_or s at 0) ≡ true → Cut s at (one_char f (chars_at s at)) (at + 1)
  unfolding one_char
  one_more at t =
      let q = low (get_or s at 0) t in
      let b = byte_cons f (low_weak f low) s at t in
      let h = b.0 in
      rw (b.1, t)
      (cut_cons s at (nothing (chars_at s (at + 1))) (at + 1) h q.0 q.1 (cut_nothing s (at + 1) (omega arith)))

  pub one_stop : (at : ℕ) → at ≤ length s → f (get_or s at 0) ≡ false → Cut s at (one_char f (chars_at s at)) at
  one_stop at h t =
      rw (one_none f (chars_at s at) (byte_next f (low_weak f low) s at ∙ t)) (cut_nothing s at h)
