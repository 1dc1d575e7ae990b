-- When one pass is enough.
use Rattle.std.specs.Prelude.{Bool, ◌&&◌, ℕ, ◌+◌, ◌*◌, leb}
use Rattle.records.specs.Fields.{LONGEST_TOKEN, LONGEST_ERROR}

-- What a text of `n` bytes takes at most: the records of n + 1 tokens, texts of 2 n + 2 bytes, and the records of n errors.
unfoldable pub most_tokens : ℕ → ℕ
most_tokens n = LONGEST_TOKEN * (n + 1)

unfoldable pub most_texts : ℕ → ℕ
most_texts n = 2 * n + 2

unfoldable pub most_errors : ℕ → ℕ
most_errors n = LONGEST_ERROR * n

-- Buffers of these sizes hold what any text of `n` bytes takes.
unfoldable pub roomy : ℕ → ℕ → ℕ → ℕ → Bool
roomy n tokens texts errors = leb (most_tokens n) tokens && leb (most_texts n) texts && leb (most_errors n) errors
