-- What the calls of the host answer, as numbers. The result is 0 for a yes, else the number of the refusal.
use Rattle.std.specs.Prelude.{ℕ, Bool, List, ◌∷◌, get_or, set, if◌then◌else◌}
use Rattle.refusals.specs.Answers.{Answer, got, refused}

unfoldable pub number_of : {A : Type 0} → Answer A → ℕ
number_of (got a) = 0
number_of (refused number figure) = number

-- The slot of the figure, the first of each answer.
abbrev pub FIGURE : ℕ
FIGURE = 0

-- The slots after an answer: a yes keeps the figure's and sets the others to its values, a refusal sets the figure's and keeps the
-- others.
unfoldable pub slots_after : {A : Type 0} → (A → List ℕ) → Answer A → List ℕ → List ℕ
slots_after values (got a) old = get_or old FIGURE 0 ∷ values a
slots_after values (refused number figure) old = set old FIGURE figure

-- 1 for true, 0 for false.
unfoldable pub truth : Bool → ℕ
truth b = if b then 1 else 0
