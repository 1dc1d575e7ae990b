-- Stores at a buffer's front. Assumes nothing.
use mathlib.Core.Path.{◌≡◌, ◌∙◌}
use mathlib.Core.List.{List, ◌++◌}
use Prim.Native.Nat.{ℕ, ◌+◌, ◌≤◌}
use native.Mathlib.Nat.{zero-add}
use native.Mathlib.Omega.{arith}
use lib.ListN.{length, drop}
use lib.Seq.{sets, sets-eq}

-- A buffer whose front is written: the bytes written, and what stood after them.
pub sets_front : (b vs : List ℕ) → length vs ≤ length b → sets b 0 vs ≡ vs ++ drop (length vs) b
sets_front b vs h =
    let e : 0 + length vs ≡ length vs = zero-add (length vs) in
    let g : 0 + length vs ≤ length b = omega arith in
    sets-eq vs b 0 g ∙ rw e
