-- `print_escapes::is_escaped` meets its contract. Assumes nothing.
use mathlib.Core.Path.{refl}
use Rattle.print_escapes.specs.Escapes.{is_escaped}
use Rattle.print_escapes.proofs.is_escaped.Goals as goal

pub returns : goal.returns
unfolding is_escaped
returns c = refl
