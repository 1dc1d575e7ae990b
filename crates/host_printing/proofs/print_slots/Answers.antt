-- `print_slots` meets its contract.
use mathlib.Core.Path.{refl}
use Rattle.host_printing.specs.Prints.{print_values}
use Rattle.host_printing.proofs.print_slots.Goals as goal

pub returns : goal.returns
unfolding print_values
returns c = refl
