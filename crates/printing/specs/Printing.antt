-- What printing answers, and what it leaves in the print buffer (document 02, order 2, under "Answers").
use Rattle.std.specs.Prelude.{◌≡◌, Result, not, List, [], ◌∷◌, ◌++◌, ℕ, leb, length, drop, if◌then◌else◌}
use Rattle.rules.specs.Tokens.{TokenizeError}
use Rattle.rules.specs.Script.{script_errors}
use Rattle.refusals.specs.declared.Refusal.{Refusal}
use Rattle.refusals.specs.Refusals.{RefusedMistake, RefusedPrint}
use Rattle.refusals.specs.Answers.{Answer, got, refused, of_answer, ◌then◌}
use Rattle.questions.specs.Questions.{ask_text}
use Rattle.prints.specs.Print.{print_bytes}

-- ── The questions ──

-- "11 if an error was recorded (figure: start of the first)".
unfoldable pub ask_mistake : List TokenizeError → Answer (Unit {0})
ask_mistake [] = got tt
ask_mistake (e ∷ es) = refused RefusedMistake e.span.start

-- "then 12 if the output buffer is short (figure: bytes needed)".
unfoldable pub ask_print : ℕ → ℕ → Answer (Unit {0})
ask_print needed size = if not (leb needed size) then refused RefusedPrint needed else got tt

-- ── The answer ──

-- A script, and a print buffer of this size: "after question 2", 11, then 12. "A yes gives the bytes written."
unfoldable pub print_answer : List ℕ → ℕ → Answer ℕ
print_answer s size =
    ask_text s then ask_mistake (script_errors s) then ask_print (length (print_bytes s)) size then got (length (print_bytes s))

-- ── The buffer ──

-- The print buffer after an answer: the print stands at its front, and the bytes beyond it keep. A refusal changes no byte.
unfoldable pub buffer_after : Answer ℕ → List ℕ → List ℕ → List ℕ
buffer_after (got n) old bytes = bytes ++ drop (length bytes) old
buffer_after (refused number figure) old bytes = old

-- Printing the script `s` answered `r`, with the print buffer before and after it.
pub record Printed (s out : List ℕ) (r : Result ℕ Refusal) (out' : List ℕ) : Type 0 where
  pub answer : of_answer r ≡ print_answer s (length out)
  pub out_after : out' ≡ buffer_after (of_answer r) out (print_bytes s)
