-- Where texts lie in the text buffer, as the records of a token buffer tell it (document 01, "Records": "Texts fill the buffer's
-- front without gap or overlap").
use Rattle.std.specs.Prelude.{◌≡◌, List, [], ◌∷◌, ◌++◌, ℕ, zero, suc, ◌+◌, if◌then◌else◌}
use Rattle.characters.specs.Choice.{◌is◌}
use Rattle.rules.specs.Tables.{EOF}
use Rattle.records.specs.Kinds.{is_made}
use Rattle.refusals.specs.Answers.{Answer, got, refused}
use Rattle.record_reading.specs.Reading.{next_at}
use Rattle.records.specs.declared.answers.TokenRecord.{TokenRecord}

pub record Place : Type 0 where
  pub offset : ℕ
  pub size : ℕ

-- The place that a record tells, where its kind has a text in the text buffer.
unfoldable pub place_of : TokenRecord → List Place
place_of r = if is_made r.kind then record { offset = r.offset; size = r.length } ∷ [] else []

unfoldable pub place_turn : (ℕ → List Place) → Answer TokenRecord → ℕ → List Place
place_turn rest (got r) next = place_of r ++ (if r.kind is EOF then [] else rest next)
place_turn rest (refused n f) next = []

-- The places from a record on, in so many turns of a reader at most. EOF is the last record.
unfoldable pub places_from : ℕ → List ℕ → ℕ → List Place
places_from zero s at = []
places_from (suc turns) s at = place_turn (places_from turns s) (next_at s at).answer (next_at s at).place

-- The places lie one behind another from `from` to `to`, without gap or overlap. An empty one stands where the next begins, or at
-- the end.
unfoldable pub Fills : ℕ → List Place → ℕ → Type 0
Fills from [] to = from ≡ to
Fills from (p ∷ ps) to = (p.offset ≡ from) × Fills (from + p.size) ps to
