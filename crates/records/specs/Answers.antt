-- Answers of a reader of records (document 01, "Questions before the answer"), and which of them a result of the code is.
use Rattle.std.specs.Prelude.{ℕ, Bool, Result, Ok, Err}
use Rattle.refusals.specs.declared.Refusal.{Refusal}
use Rattle.refusals.specs.Refusals.{refusal_number, refusal_figure}
use Rattle.refusals.specs.Answers.{Answer, got, refused}
use Rattle.records.specs.declared.answers.TokenRecord.{TokenRecord}

-- An answer of a reader, and the place where the reader then stands.
pub record Turn (A : Type 0) : Type 0 where
  pub answer : Answer A
  pub place : ℕ

-- "A refused reader keeps its place", which is the one that it was asked at.
abbrev pub stopped : {A : Type 0} → ℕ → Refusal → Turn A
stopped at x = record { answer = refused (refusal_number x) (refusal_figure x); place = at }

-- A yes ends with the place where the reader then stands.
abbrev pub of_turn : {A : Type 0} → ℕ → Result (A × ℕ) Refusal → Turn A
of_turn at (Ok (a, place)) = record { answer = got a; place = place }
of_turn at (Err x) = stopped at x

abbrev pub of_consumed : ℕ → Result (TokenRecord × Bool × ℕ) Refusal → Turn (TokenRecord × Bool)
of_consumed at (Ok (r, fits, place)) = record { answer = got (r, fits); place = place }
of_consumed at (Err x) = stopped at x
