-- What measuring and tokenising answer to the host, as numbers.
use Rattle.std.specs.Prelude.{ℕ, ◌≡◌, List, [], ◌∷◌, length}
use Rattle.rules.specs.Script.{script_tokens, script_errors}
use Rattle.records.specs.Layout.{token_bytes, text_bytes, error_bytes}
use Rattle.lexer.specs.Tokenize.{tokenize_answer, buffer_after}
use Rattle.room.specs.declared.Used.{Used}
use Rattle.host_answers.specs.Answers.{number_of, slots_after, truth}

-- The bytes used in each buffer, the number of tokens, 1 for closed and 0 for open.
unfoldable pub used_values : Used → List ℕ
used_values u = u.tokens ∷ u.texts ∷ u.errors ∷ u.count ∷ truth u.closed ∷ []

-- Tokenising the script `s`, with the three buffers and the slots before and after it.
pub record HostTokenized (s tokens texts errors slots : List ℕ) (r : ℕ) (tokens' texts' errors' slots' : List ℕ) : Type 0 where
  pub number : r ≡ number_of (tokenize_answer s (length tokens) (length texts) (length errors))
  pub slots_after_lem : slots' ≡ slots_after used_values (tokenize_answer s (length tokens) (length texts) (length errors)) slots
  pub tokens_after :
      tokens' ≡ buffer_after (tokenize_answer s (length tokens) (length texts) (length errors)) tokens (token_bytes (script_tokens s))
  pub texts_after :
      texts' ≡ buffer_after (tokenize_answer s (length tokens) (length texts) (length errors)) texts (text_bytes (script_tokens s))
  pub errors_after :
      errors' ≡ buffer_after (tokenize_answer s (length tokens) (length texts) (length errors)) errors (error_bytes (script_errors s))
