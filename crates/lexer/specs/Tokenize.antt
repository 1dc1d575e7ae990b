-- What measuring and tokenising answer, and what tokenising leaves in the three buffers (document 01, "Records" and "Questions
-- before the answer").
use Rattle.std.specs.Prelude.{◌≡◌, Result, List, ◌++◌, ℕ, length, drop}
use Rattle.rules.specs.Script.{script_tokens, script_errors}
use Rattle.refusals.specs.declared.Refusal.{Refusal}
use Rattle.refusals.specs.Answers.{Answer, got, refused, of_answer, ◌then◌}
use Rattle.records.specs.Layout.{token_bytes, text_bytes, error_bytes}
use Rattle.room.specs.declared.Used.{Used}
use Rattle.room.specs.Needed.{needed}
use Rattle.questions.specs.Questions.{ask_text, ask_room}

-- ── The answers ──

-- "Measuring runs through 1 and 2."
unfoldable pub measure_answer : List ℕ → Answer Used
measure_answer s = ask_text s then got (needed s)

-- "Tokenising runs through 1 to 5": a script, and buffers of these sizes.
unfoldable pub tokenize_answer : List ℕ → ℕ → ℕ → ℕ → Answer Used
tokenize_answer s tokens texts errors = ask_text s then ask_room (needed s) tokens texts errors then got (needed s)

-- ── The buffers ──

-- A buffer after an answer: the bytes stand at its front, and those beyond them keep. A refusal changes no byte.
unfoldable pub buffer_after : Answer Used → List ℕ → List ℕ → List ℕ
buffer_after (got u) old bytes = bytes ++ drop (length bytes) old
buffer_after (refused number figure) old bytes = old

-- Tokenising the script `s` answered `r`, with the three buffers before and after it.
pub record Tokenized (s tokens texts errors : List ℕ) (r : Result Used Refusal) (tokens' texts' errors' : List ℕ) : Type 0 where
  pub answer : of_answer r ≡ tokenize_answer s (length tokens) (length texts) (length errors)
  pub tokens_after : tokens' ≡ buffer_after (of_answer r) tokens (token_bytes (script_tokens s))
  pub texts_after : texts' ≡ buffer_after (of_answer r) texts (text_bytes (script_tokens s))
  pub errors_after : errors' ≡ buffer_after (of_answer r) errors (error_bytes (script_errors s))
