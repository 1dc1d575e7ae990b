-- What printing answers to the host, as numbers.
use Rattle.std.specs.Prelude.{ℕ, ◌≡◌, List, [], ◌∷◌, length}
use Rattle.host_answers.specs.Answers.{number_of, slots_after}
use Rattle.prints.specs.Print.{print_bytes}
use Rattle.printing.specs.Printing.{print_answer, buffer_after}

-- The bytes written.
unfoldable pub print_values : ℕ → List ℕ
print_values n = n ∷ []

-- Printing the script `s`, with the print buffer and the slots before and after it.
pub record HostPrinted (s out slots : List ℕ) (r : ℕ) (out' slots' : List ℕ) : Type 0 where
  pub number : r ≡ number_of (print_answer s (length out))
  pub slots_after_lem : slots' ≡ slots_after print_values (print_answer s (length out)) slots
  pub out_after : out' ≡ buffer_after (print_answer s (length out)) out (print_bytes s)
