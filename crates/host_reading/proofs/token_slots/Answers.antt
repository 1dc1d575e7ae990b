-- `token_slots` meets its contract.
use mathlib.Core.Path.{refl}
use Rattle.host_reading.specs.Records.{span_values, record_values, token_values}
use Rattle.host_reading.proofs.token_slots.Goals as goal

pub returns : goal.returns
unfolding span_values record_values token_values
returns c = rw (c.span_slots.ensures, c.from-kind.ensures) refl
