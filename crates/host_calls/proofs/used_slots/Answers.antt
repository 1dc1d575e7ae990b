-- `used_slots` meets its contract.
use Rattle.host_calls.specs.Calls.{used_values}
use Rattle.host_calls.proofs.used_slots.Goals as goal

pub returns : goal.returns
unfolding used_values
returns c = rw c.truth_of.ensures
