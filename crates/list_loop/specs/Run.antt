-- What the list loop leaves.
use Rattle.std.specs.Prelude.{◌≡◌, true, List, ℕ}
use Rattle.std.proofs.lemmas.List.Edits.{sets}
use Rattle.rules.specs.Script.{script_tokens, script_errors}
use Rattle.records.specs.Layout.{token_bytes, text_bytes, error_bytes}
use Rattle.room.specs.declared.Used.{Used}
use Rattle.room.specs.Needed.{needed}

-- All that the script `s` takes stands at the front of each buffer; what lies outside of a buffer is passed over.
pub record Ran (s tokens texts errors : List ℕ) (r : Used) (tokens' texts' errors' : List ℕ) : Type 0 where
  pub used : r ≡ needed s
  pub tokens_written : tokens' ≡ sets tokens 0 (token_bytes (script_tokens s))
  pub texts_written : texts' ≡ sets texts 0 (text_bytes (script_tokens s))
  pub errors_written : errors' ≡ sets errors 0 (error_bytes (script_errors s))

-- Nothing used yet, and nothing open.
abbrev pub nothing_used : Used
nothing_used = record { tokens = 0; texts = 0; errors = 0; count = 0; closed = true }
