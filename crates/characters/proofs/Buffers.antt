-- Stores into a buffer at places that follow one another, and the part of a slice from a place on. Assumes nothing.
use mathlib.Core.Path.{◌≡◌, ◌∙◌, sym, ap}
use mathlib.Core.List.{List, [], ◌∷◌, ◌++◌, append_assoc}
use Prim.Native.Nat.{ℕ, suc, ◌+◌, ◌-◌, ◌≤◌}
use native.Mathlib.Nat.{add-zero, add-suc, suc-add}
use lib.ListN.{length, take, drop, set, length-drop}
use lib.Seq.{take_all, drop-drop, sets, sets-eq}
use borrow.Rule.Slice.PartMut.{put_mid}
use native.Mathlib.Omega.{arith}

pub sets_append : (l : List ℕ) (i : ℕ) (vs ws : List ℕ) → sets (sets l i vs) (i + length vs) ws ≡ sets l i (vs ++ ws)
sets_append l i [] ws = rw (add-zero i)
sets_append l i (v ∷ vs) ws = rw (add-suc i (length vs), ← suc-add i (length vs)) (sets_append (set l i v) (suc i) vs ws)

-- `d` is `c` with `ws` after the `n` values `vs`, and `c` is `b` with `vs` at `i`: `d` is `b` with both at `i`.
pub sets_more : (b c d : List ℕ) (i n : ℕ) (vs ws : List ℕ) → length vs ≡ n → c ≡ sets b i vs → d ≡ sets c (i + n) ws → d ≡ sets b i (vs ++ ws)
sets_more b c d i n vs ws e p q = q ∙ rw (p, ← e) (sets_append b i vs ws)

-- What the part of a slice from a place on holds.
pub part_from : (k : ℕ) (s : List ℕ) → take (length s - k) (drop k s) ≡ drop k s
part_from k s = take_all (length s - k) (drop k s) (omega (arith, length-drop k s))

-- A part of a slice became as many values `vs`: they stand in the slice from the part's start on.
pub sets_part : (l mid vs : List ℕ) (i k : ℕ) → mid ≡ vs → length vs ≡ k → i + k ≤ length l → put_mid i k l mid ≡ sets l i vs
sets_part l mid vs i k p e h =
    let g : i + length vs ≤ length l = omega arith in
    ap (λ (r : List ℕ). take i l ++ (r ++ drop k (drop i l))) p
    ∙ ap (λ (r : List ℕ). take i l ++ (vs ++ r)) (drop-drop k i l ∙ ap (λ (n : ℕ). drop (i + n) l) (sym e))
    ∙ sym (append_assoc (take i l) vs (drop (i + length vs) l)) ∙ sym (sets-eq vs l i g)
