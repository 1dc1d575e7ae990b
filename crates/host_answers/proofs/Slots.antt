-- Laws of the slots: an answer whose values are put into an array. Assumes nothing.
use Rattle.std.specs.Prelude.{◌≡◌, ℕ, Bool, List, drop, Result, Ok, Err, IsOkAnd, MatchResult, refl}
use Rattle.refusals.specs.declared.Refusal.{Refusal}
use Rattle.refusals.specs.Answers.{Answer, of_answer}
use Rattle.records.specs.Answers.{of_turn, of_consumed}
use Rattle.records.specs.declared.answers.TokenRecord.{TokenRecord}
use Rattle.host_answers.specs.Answers.{number_of, slots_after}

-- The same number, and the same slots.
pub record SameSlots {A : Type 0} (q : Result (List ℕ) Refusal) (values : A → List ℕ) (a : Answer A) : Type 0 where
  pub value : number_of (of_answer q) ≡ number_of a
  pub slots : (old : List ℕ) → slots_after (drop 1) (of_answer q) old ≡ slots_after values a old

-- A result, and the array that its values were put into behind the figure's slot.
abbrev pub Mapped : {A : Type 0} → Result A Refusal → Result (List ℕ) Refusal → (A → List ℕ) → Type 0
Mapped r q values = MatchResult r (λ x. IsOkAnd q (λ v. drop 1 v ≡ values x)) (λ e. q ≡ Err e)

pub mapped_slots : {A : Type 0} (r : Result A Refusal) (q : Result (List ℕ) Refusal) (values : A → List ℕ) → Mapped r q values
    → SameSlots q values (of_answer r)
unfolding number_of slots_after
mapped_slots (Ok x) (Ok v) values m = record { value = refl; slots = λ old. rw m }
mapped_slots (Ok x) (Err e) values m = absurd m
mapped_slots (Err e) q values m = rw m (record { value = refl; slots = λ old. refl })

-- The same for a reader, whose values begin with the place where it then stands.
pub turn_slots : {A : Type 0} (at : ℕ) (r : Result (A × ℕ) Refusal) (q : Result (List ℕ) Refusal) (values : ℕ → A → List ℕ)
    → Mapped r q (λ x. values x.1 x.0) → SameSlots q (values (of_turn at r).place) (of_turn at r).answer
unfolding number_of slots_after
turn_slots at (Ok (x, place)) (Ok v) values m = record { value = refl; slots = λ old. rw m }
turn_slots at (Ok (x, place)) (Err e) values m = absurd m
turn_slots at (Err e) q values m = rw m (record { value = refl; slots = λ old. refl })

-- The same for consuming, whose values have beside the record whether it fits.
pub consumed_slots : (at : ℕ) (r : Result (TokenRecord × Bool × ℕ) Refusal) (q : Result (List ℕ) Refusal) (values : ℕ → TokenRecord × Bool → List ℕ)
    → Mapped r q (λ x. values x.2 (x.0, x.1)) → SameSlots q (values (of_consumed at r).place) (of_consumed at r).answer
unfolding number_of slots_after
consumed_slots at (Ok (x, fits, place)) (Ok v) values m = record { value = refl; slots = λ old. rw m }
consumed_slots at (Ok (x, fits, place)) (Err e) values m = absurd m
consumed_slots at (Err e) q values m = rw m (record { value = refl; slots = λ old. refl })
