-- What a write of these bytes asks: the place after them is one of the places of `output`, so that no sum wraps.
use Rattle.std.specs.Prelude.{ℕ, ◌+◌, ◌≤◌, List, length}
use Rattle.output.specs.Writing.{PLACES}

pub record Room (at : ℕ) (bytes : List ℕ) : Type 0 where
  pub fits : at + length bytes ≤ PLACES
