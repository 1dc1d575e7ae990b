-- Laws of answers and refusals: which of them are the same. Assumes nothing.
use Rattle.std.specs.Prelude.{Result, Ok, Err, IsErr, IsErrAnd, if◌then◌else◌}
use mathlib.Core.Path.{◌≡◌, refl, sym, ◌∙◌, ap}
use Prim.Native.Nat.{ℕ}
use Rattle.characters.specs.Choice.{◌is◌}
use Rattle.refusals.specs.declared.Refusal.{Refusal}
use Rattle.refusals.specs.declared.Refusal.TheVariants.{Length, Utf8, Tokens, Texts, Errors, Kind, Place, Text, Cut, Barred, Mistake, Print}
use Rattle.refusals.specs.Refusals.{refusal_number, refusal_figure}
use Rattle.refusals.specs.Answers.{Answer, got, refused, of_answer, ◌then◌}

-- ── Answers told apart ──

module _ {A : Type 0} where
  pub got_is_not_refused : (a : A) (n f : ℕ) → ◌≡◌ {A = Answer A} (got a) (refused n f) → ⊥
  got_is_not_refused a n f e = cc

  pub same_got : (a b : A) → ◌≡◌ {A = Answer A} (got a) (got b) → a ≡ b
  same_got a b e = cc

  pub same_refused : (n f m g : ℕ) → ◌≡◌ {A = Answer A} (refused n f) (refused m g) → (n ≡ m) × (f ≡ g)
  same_refused n f m g e = (cc, cc)

-- ── A refusal is its number and its figure ──

-- The refusal of a number.
refusal_of : ℕ → ℕ → Refusal
refusal_of n f =
    if n is 1 then Length f
    else if n is 2 then Utf8 f
    else if n is 3 then Tokens f
    else if n is 4 then Texts f
    else if n is 5 then Errors f
    else if n is 6 then Kind f
    else if n is 7 then Place f
    else if n is 8 then Text f
    else if n is 9 then Cut f
    else if n is 10 then Barred f
    else if n is 11 then Mistake f
    else Print f

refusal_back : (x : Refusal) → refusal_of (refusal_number x) (refusal_figure x) ≡ x
unfolding refusal_of
refusal_back (Length n) = refl
refusal_back (Utf8 n) = refl
refusal_back (Tokens n) = refl
refusal_back (Texts n) = refl
refusal_back (Errors n) = refl
refusal_back (Kind n) = refl
refusal_back (Place n) = refl
refusal_back (Text n) = refl
refusal_back (Cut n) = refl
refusal_back (Barred n) = refl
refusal_back (Mistake n) = refl
refusal_back (Print n) = refl

pub same_refusal : (x y : Refusal) → refusal_number x ≡ refusal_number y → refusal_figure x ≡ refusal_figure y → x ≡ y
same_refusal x y e f = sym (refusal_back x) ∙ rw (e, f) (refusal_back y)

-- ── The code's results ──

module _ {A : Type 0} where
  pub same_answer : (r q : Result A Refusal) → of_answer r ≡ of_answer q → r ≡ q
  same_answer (Ok a) (Ok b) e = ap Ok (same_got a b e)
  same_answer (Ok a) (Err y) e = absurd (got_is_not_refused a _ _ e)
  same_answer (Err x) (Ok b) e = absurd (got_is_not_refused b _ _ (sym e))
  same_answer (Err x) (Err y) e = let p = same_refused _ _ _ _ e in ap Err (same_refusal x y p.0 p.1)

  -- Where it is known which answer it was.
  pub ok_is : (r : Result A Refusal) (a : A) → of_answer r ≡ got a → r ≡ Ok a
  ok_is (Ok b) a e = ap Ok (same_got b a e)
  ok_is (Err x) a e = absurd (got_is_not_refused a _ _ (sym e))

-- ── Questions one after another ──

module _ {A : Type 0} where
  -- What was answered with yes passed the question before it, and the later answer is the same.
  pub yes_then : (q : Answer (Unit {0})) (later : Answer A) (a : A) → got a ≡ (q then later) → (q ≡ got tt) × (got a ≡ later)
  unfolding ◌then◌
  yes_then (got _) later a e = (refl, e)
  yes_then (refused n f) later a e = absurd (got_is_not_refused a n f e)

-- ── A refusal passed on by `?` ──

pub passed_on : {A : Type 0} (r : Result A Refusal) (x : Refusal) → IsErr r × IsErrAnd r (λ y. y ≡ x) → r ≡ Err x
passed_on (Ok a) x e = absurd e.1
passed_on (Err y) x e = ap Err e.1
