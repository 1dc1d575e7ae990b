-- What the records of a script tell of its strings: the pieces of a string share its start, at which a quote stands.
use Rattle.std.specs.Prelude.{Bool, false, ℕ, get_or}
use mathlib.Core.List.{List, [], ◌∷◌, map, drop_last}
use Rattle.std.proofs.Math.Option.{Option, none, some}
use Rattle.characters.specs.Choice.{◌is◌}
use Rattle.byte_order_mark.specs.Mark.{after_mark}
use Rattle.rules.specs.Text.{ch}
use Rattle.rules.specs.Tokens.{Token}
use Rattle.rules.specs.Script.{script_tokens}

-- The token before, if there is one, starts here.
unfoldable pub same_start : Option ℕ → ℕ → Bool
same_start none n = false
same_start (some m) n = m is n

-- For each token, whether it continues a string: it has the start of the token before it.
unfoldable pub continues : Option ℕ → List Token → List Bool
continues before [] = []
continues before (t ∷ ts) = same_start before t.span.start ∷ continues (some t.span.start) ts

-- A quote stands at the place.
unfoldable pub quote_at : List ℕ → ℕ → Bool
quote_at s n = get_or s n 0 is ch "\""

-- For each token of a script but EOF, whether it continues a string, and whether it stands in one.
unfoldable pub script_continues : List ℕ → List Bool
script_continues s = continues none (drop_last (script_tokens s))

unfoldable pub script_inside : List ℕ → List Bool
script_inside s = map (λ (t : Token). quote_at (after_mark s) t.span.start) (drop_last (script_tokens s))
