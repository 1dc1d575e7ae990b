-- The first error of a list.
use Rattle.std.specs.Prelude.{List, [], ◌∷◌, ℕ}
use Rattle.rules.specs.Tokens.{TokenizeError}

-- Where it starts; 0 where there is none.
unfoldable pub first_start : List TokenizeError → ℕ
first_start [] = 0
first_start (e ∷ es) = e.span.start
