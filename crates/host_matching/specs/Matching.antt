-- What consume and match answer to the host, as numbers.
use Rattle.std.specs.Prelude.{ℕ, Bool, List, [], ◌∷◌, ◌++◌}
use Rattle.records.specs.declared.answers.TokenRecord.{TokenRecord}
use Rattle.host_answers.specs.Answers.{truth}
use Rattle.host_reading.specs.Records.{token_values}

-- Consuming: the next token's values, and 1 where the kind fits, else 0.
unfoldable pub consumed_values : ℕ → TokenRecord × Bool → List ℕ
consumed_values place x = token_values place x.0 ++ (truth x.1 ∷ [])

-- Matching: the next place, and 1 where the kind fits, else 0.
unfoldable pub matched_values : ℕ → Bool → List ℕ
matched_values place fits = place ∷ truth fits ∷ []
