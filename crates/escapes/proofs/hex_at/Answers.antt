use mathlib.Core.Path.{◌∙◌, ap}
use Rattle.escapes.specs.Escapes.{digit_of}
use Rattle.escapes.proofs.hex_at.Goals as goal

pub returns : goal.returns
returns c = c.hex_value.ensures ∙ ap digit_of c.byte_at-b.ensures
