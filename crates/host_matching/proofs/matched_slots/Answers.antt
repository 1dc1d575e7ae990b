-- `matched_slots` meets its contract.
use Rattle.host_matching.specs.Matching.{matched_values}
use Rattle.host_matching.proofs.matched_slots.Goals as goal

pub returns : goal.returns
unfolding matched_values
returns c = rw c.truth_of.ensures
