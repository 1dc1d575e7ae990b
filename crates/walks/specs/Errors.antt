-- The error of what is not closed.
use Rattle.std.specs.Prelude.{Bool, List, [], ◌∷◌, ℕ, if◌then◌else◌}
use Rattle.std.proofs.Math.Option.{none}
use Rattle.spans.specs.declared.Position.{Position}
use Rattle.rules.specs.Tokens.{TokenizeError}
use Rattle.rules.specs.Lexer.{span}

-- The error of this kind where the text ran out at `q` in what began at `p`; none where that was closed.
unfoldable pub unclosed : Bool → ℕ → Position → Position → List TokenizeError
unclosed closed kind p q = if closed then [] else record { kind = kind; span = span p q; char = none } ∷ []
