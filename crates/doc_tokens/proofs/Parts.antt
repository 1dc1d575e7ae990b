-- Parts of a script, and what is made of them. Assumes nothing.
use mathlib.Core.Path.{◌≡◌, sym, ap, ◌∙◌, subst}
use mathlib.Core.List.{List, ◌++◌}
use Prim.Native.Nat.{ℕ, ◌+◌, ◌-◌, ◌≤◌}
use native.Mathlib.Omega.{arith}
use lib.ListN.{length, take, drop}
use lib.Seq.{slice, take-add, drop_at, length-take-le}
use Rattle.characters.specs.Utf8.{chars_of, encode}
use Rattle.rules.specs.Text.{Text}
use Rattle.output.specs.Writing.{Put}

part_slice : (s : List ℕ) (m t : ℕ) → m ≤ t → t ≤ length s → take (t - m) (drop m s) ≡ slice m t s
part_slice s m t h k =
    let e : m + (t - m) ≡ t = omega arith in
    let w : length (take m s) ≡ m = length-take-le m s (omega arith) in
    let x : take t s ≡ take m s ++ take (t - m) (drop m s) = ap (λ (n : ℕ). take n s) (sym e) ∙ take-add m (t - m) s in
    sym (ap (drop m) x ∙ drop_at (take m s) (take (t - m) (drop m s)) m w)

pub made_of : (f : Text → Text) (s : List ℕ) (m t : ℕ) (old new : List ℕ) (at r : ℕ) → m ≤ t → t ≤ length s
    → Put old new at (encode (f (chars_of (take (t - m) (drop m s))))) r → Put old new at (encode (f (chars_of (slice m t s)))) r
made_of f s m t old new at r h k x = subst (λ (p : List ℕ). Put old new at (encode (f (chars_of p))) r) (part_slice s m t h k) x
