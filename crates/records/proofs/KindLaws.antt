-- Laws of kinds. Assumes nothing.
use Rattle.std.specs.Prelude.{if◌then◌else◌}
use mathlib.Core.Path.{◌≡◌, refl}
use mathlib.Core.Bool.{Bool, true, false}
use mathlib.Core.Logic.{◌⊎◌, inl, inr, ⊎_elim}
use Prim.Native.Nat.{ℕ, ◌≤◌, ◌<◌}
use borrow.Author.Tests.{le-leb, lt-leb, ne_eqb}
use native.Mathlib.Omega.{arith}
use Rattle.characters.specs.Choice.{within}
use Rattle.records.specs.Kinds.{has_text, is_made, record_length, has_code, error_length}

-- ── What the tests say ──

pub text_low : (k : ℕ) → k < 6 → has_text k ≡ true
unfolding has_text
text_low k h = let t : k ≤ 5 = omega arith in simp (le-leb k 5 t)

pub text_key : (k : ℕ) → (k ≡ 39) ⊎ ((k ≡ 121) ⊎ ((k ≡ 123) ⊎ (k ≡ 125))) → has_text k ≡ true
unfolding has_text
text_key k = ⊎_elim (λ e. rw e) (⊎_elim (λ e. rw e) (⊎_elim (λ e. rw e) (λ e. rw e)))

pub text_none : (k : ℕ) → 6 ≤ k → ((k ≡ 39) ⊎ ((k ≡ 121) ⊎ ((k ≡ 123) ⊎ (k ≡ 125))) → ⊥) → has_text k ≡ false
unfolding has_text
text_none k h n =
    simp (
      lt-leb k 5 h,
      ne_eqb k 39 (λ e. n (inl e)),
      ne_eqb k 121 (λ e. n (inr (inl e))),
      ne_eqb k 123 (λ e. n (inr (inr (inl e)))),
      ne_eqb k 125 (λ e. n (inr (inr (inr e)))),
    )

pub made_range : (k : ℕ) → 2 ≤ k → k < 4 → is_made k ≡ true
unfolding is_made within
made_range k a b = let t : k ≤ 3 = omega arith in simp (le-leb 2 k a, le-leb k 3 t)

pub made_key : (k : ℕ) → (k ≡ 121) ⊎ (k ≡ 123) → is_made k ≡ true
unfolding is_made within
made_key k = ⊎_elim (λ e. rw e) (λ e. rw e)

pub made_low : (k : ℕ) → k < 2 → is_made k ≡ false
unfolding is_made within
made_low k h =
    simp (lt-leb 2 k h, ne_eqb k 121 (λ e. omega arith), ne_eqb k 123 (λ e. omega arith))

pub made_none : (k : ℕ) → 4 ≤ k → ((k ≡ 121) ⊎ (k ≡ 123) → ⊥) → is_made k ≡ false
unfolding is_made within
made_none k h n =
    let t : 2 ≤ k = omega arith in
    simp (le-leb 2 k t, lt-leb k 3 h, ne_eqb k 121 (λ e. n (inl e)), ne_eqb k 123 (λ e. n (inr e)))

-- ── Lengths ──

pub length_text : (k : ℕ) → has_text k ≡ true → record_length k ≡ 33
unfolding record_length
length_text k e = simp e

pub length_plain : (k : ℕ) → has_text k ≡ false → record_length k ≡ 25
unfolding record_length
length_plain k e = simp e

pub length_code : (k : ℕ) → has_code k ≡ true → error_length k ≡ 29
unfolding error_length
length_code k e = simp e

pub length_bare : (k : ℕ) → has_code k ≡ false → error_length k ≡ 25
unfolding error_length
length_bare k e = simp e

least_by : (t : Bool) → 25 ≤ (if t then 33 else 25)
least_by true = omega arith
least_by false = omega arith

pub record_least : (k : ℕ) → 25 ≤ record_length k
unfolding record_length
record_least k = least_by (has_text k)

least_error_by : (t : Bool) → 25 ≤ (if t then 29 else 25)
least_error_by true = omega arith
least_error_by false = omega arith

pub error_least : (k : ℕ) → 25 ≤ error_length k
unfolding error_length
error_least k = least_error_by (has_code k)

-- ── The kinds whose text is made, and those whose text is not ──

pub string_made : is_made 2 ≡ true
unfolding is_made within
string_made = refl

pub char_made : is_made 3 ≡ true
unfolding is_made within
char_made = refl

pub interp_made : is_made 121 ≡ true
unfolding is_made within
interp_made = refl

pub doc_made : is_made 123 ≡ true
unfolding is_made within
doc_made = refl

pub error_part : is_made 125 ≡ false
unfolding is_made within
error_part = refl

pub eof_bare : has_text 124 ≡ false
unfolding has_text
eof_bare = refl

pub eof_part : is_made 124 ≡ false
unfolding is_made within
eof_part = refl
