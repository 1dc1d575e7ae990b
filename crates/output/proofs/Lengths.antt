-- How long a record is at least and at most. Assumes nothing.
use Rattle.std.specs.Prelude.{if◌then◌else◌}
use mathlib.Core.Bool.{Bool, true, false}
use Prim.Native.Nat.{ℕ, ◌≤◌}
use native.Mathlib.Omega.{arith}
use Rattle.records.specs.Kinds.{has_text, record_length, has_code, error_length}

either : (t : Bool) (m n : ℕ) → 1 ≤ m → 1 ≤ n → n ≤ m → (1 ≤ (if t then m else n)) × ((if t then m else n) ≤ m)
either true m n h k l = (h, omega arith)
either false m n h k l = (k, l)

pub record_bounds : (k : ℕ) → (1 ≤ record_length k) × (record_length k ≤ 33)
unfolding record_length
record_bounds k = either (has_text k) 33 25 (omega arith) (omega arith) (omega arith)

pub error_bounds : (k : ℕ) → (1 ≤ error_length k) × (error_length k ≤ 29)
unfolding error_length
error_bounds k = either (has_code k) 29 25 (omega arith) (omega arith) (omega arith)
