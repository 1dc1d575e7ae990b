-- Answers as document 01 gives them: a yes with its values, or the number of the question that was answered with no and its
-- figure ("Questions before the answer"); and which of them a result of the code is.
use Rattle.std.specs.Prelude.{ℕ, Result, Ok, Err}
use Rattle.refusals.specs.declared.Refusal.{Refusal}
use Rattle.refusals.specs.Refusals.{refusal_number, refusal_figure}

pub data Answer (A : Type 0) : Type 0 where
  got : A → Answer A
  refused : ℕ → ℕ → Answer A

abbrev pub of_answer : {A : Type 0} → Result A Refusal → Answer A
of_answer (Ok a) = got a
of_answer (Err x) = refused (refusal_number x) (refusal_figure x)

-- After a yes to a question the later answer, and after a no its number and figure.
infixr 20 ◌then◌
unfoldable pub ◌then◌ : {A : Type 0} → Answer (Unit {0}) → Answer A → Answer A
got _ then later = later
refused number figure then later = refused number figure
