-- Laws of `RunTo`. Assumes nothing.
use mathlib.Core.Bool.{Bool, true, false}
use mathlib.Core.List.{List}
use Prim.Native.Nat.{ℕ, ◌≤◌, ◌<◌}
use lib.ListN.{length, get_or}
use Rattle.runs.specs.Runs.{RunTo}

-- Each answer to another test.
pub run_as : {A B : ℕ → Bool → Type 0} {s : List ℕ} {from to : ℕ} → ((i : ℕ) (r : Bool) → A (get_or s i 0) r → B (get_or s i 0) r)
    → RunTo A s from to → RunTo B s from to
run_as h r =
    record {
      forth = r.forth;
      inside = r.inside;
      passed = λ i l u. h i true (r.passed i l u);
      stop = λ l. h _ false (r.stop l);
    }

-- The walk: the bytes from `from` up to `at` pass.
pub record Passed (A : ℕ → Bool → Type 0) (s : List ℕ) (from at : ℕ) : Type 0 where
  pub forth : from ≤ at
  pub inside : at ≤ length s
  pub passed : (i : ℕ) → from ≤ i → i < at → A (get_or s i 0) true
