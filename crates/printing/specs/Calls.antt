-- What a caller of printing has after a yes, and after a second call over what the first wrote (document 02, order 2).
use Rattle.std.specs.Prelude.{◌≡◌, Result, Ok, true, List, [], ℕ, ◌≤◌, length, take, drop}
use Rattle.rules.specs.Script.{accepted, script_errors}
use Rattle.prints.specs.Print.{print_bytes}
use Rattle.prints.specs.Reprint.{Reprints}
use Rattle.refusals.specs.declared.Refusal.{Refusal}
use Rattle.printing.specs.Printing.{Printed}

-- The script `s` was printed as `n` bytes into the buffer `out`, which is `out'` afterwards.
pub record Filed (s out : List ℕ) (n : ℕ) (out' : List ℕ) : Type 0 where
  pub is_accepted : accepted s ≡ true
  pub no_error : script_errors s ≡ []
  pub size : n ≡ length (print_bytes s)
  pub room : n ≤ length out
  pub front : take n out' ≡ print_bytes s
  pub beyond : drop n out' ≡ drop n out

-- The `n` bytes `p` are a print of the script `s`: they say the same, and every call of printing them into a buffer of at least `n`
-- bytes answers with a yes and these bytes again.
pub record PrintsSame (s : List ℕ) (n : ℕ) (p : List ℕ) : Type 0 where
  pub size : length p ≡ n
  pub reprints : Reprints s p
  pub answer : (out : List ℕ) (r : Result ℕ Refusal) (out' : List ℕ) → n ≤ length out → Printed p out r out' → r ≡ Ok n
  pub front : (out : List ℕ) (r : Result ℕ Refusal) (out' : List ℕ) → n ≤ length out → Printed p out r out' → take n out' ≡ p
