-- `put_answer` meets its contract.
use Rattle.std.specs.Prelude.{◌≡◌, ℕ, ◌<◌, List, [], ◌∷◌, length, set, drop, refl}
use native.Mathlib.Omega.{arith}
use Rattle.host_answers.specs.Answers.{number_of, slots_after}
use Rattle.host_answers.proofs.put_answer.Goals as goal

first_set : (values : List ℕ) (kept : ℕ) → 0 < length values → set values 0 kept ≡ kept ∷ drop 1 values
first_set [] kept h = absurd (omega arith)
first_set (x ∷ values) kept h = refl

pub returns-in-Ok : goal.returns-in-Ok
unfolding number_of slots_after
returns-in-Ok g c = rw c.in-Ok.is (record { value = refl; slots_after = first_set _ _ (omega arith) })

pub returns-in-Err : goal.returns-in-Err
unfolding number_of slots_after
returns-in-Err g c = rw (c.in-Err.is, c.number.ensures, c.figure.ensures) (record { value = refl; slots_after = refl })
