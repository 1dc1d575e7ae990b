-- `consumed_slots` meets its contract.
use Rattle.host_reading.specs.Records.{span_values, record_values, token_values}
use Rattle.host_matching.specs.Matching.{consumed_values}
use Rattle.host_matching.proofs.consumed_slots.Goals as goal

pub returns : goal.returns
unfolding span_values record_values token_values consumed_values
returns c = rw (c.span_slots.ensures, c.from-found.ensures, c.truth_of.ensures)
