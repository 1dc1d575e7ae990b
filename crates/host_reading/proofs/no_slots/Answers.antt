-- `no_slots` meets its contract.
use mathlib.Core.Path.{refl}
use Rattle.host_reading.specs.Records.{no_values}
use Rattle.host_reading.proofs.no_slots.Goals as goal

pub returns : goal.returns
unfolding no_values
returns c = refl
