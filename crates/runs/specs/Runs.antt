-- Runs of bytes that pass a test. `s` is the text.
use Rattle.std.specs.Prelude.{Bool, true, false, List, ℕ, ◌≤◌, ◌<◌, length, get_or}

-- From the place `from` to the place `to` the test, whose answers `Answers` tells, passes each byte, and it does not pass the one at `to`, if
-- there is one.
pub record RunTo (Answers : ℕ → Bool → Type 0) (s : List ℕ) (from to : ℕ) : Type 0 where
  pub forth : from ≤ to
  pub inside : to ≤ length s
  pub passed : (i : ℕ) → from ≤ i → i < to → Answers (get_or s i 0) true
  pub stop : to < length s → Answers (get_or s to 0) false
