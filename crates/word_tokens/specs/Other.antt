-- Where no word, string or mark begins.
use Rattle.std.specs.Prelude.{◌≡◌, List, ℕ, get_or}
use Rattle.spans.specs.declared.Position.{Position}
use Rattle.classes.specs.Classes.{OTHER, class_of}
use Rattle.steps.specs.Tokens.{Kept}

-- Nothing that is skipped, and no byte of a class of its own.
pub record Other (s : List ℕ) (p : Position) : Type 0 where
  pub kept : Kept s p
  pub class_is : class_of (get_or s p.offset 0) ≡ OTHER
