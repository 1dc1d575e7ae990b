-- What the rules found or did not find, as the code answers it. Assumes nothing.
use Rattle.std.specs.Prelude.{Some, None}
use mathlib.Core.Path.{◌≡◌, refl}
use mathlib.Core.Option.{Option, none, some}
use Prim.Native.Nat.{ℕ}
use native.Mathlib.Omega.{arith}
use Rattle.bridge.specs.Bridge.{value_of}

pub value_some : (o : Option ℕ) (v : ℕ) → value_of o ≡ Some v → o ≡ some v
value_some none v e = absurd (let z : ◌≡◌ {A = ℕ} 0 1 = cc in omega arith)
value_some (some w) v e = let q : w ≡ v = cc in rw q

pub value_none : (o : Option ℕ) → value_of o ≡ None → o ≡ none
value_none none e = refl
value_none (some w) e = absurd (let z : ◌≡◌ {A = ℕ} 0 1 = cc in omega arith)
