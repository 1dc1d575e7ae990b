-- `measure` meets its contract.
use mathlib.Core.Path.{◌∙◌}
use Rattle.host_answers.proofs.Slots.{mapped_slots}
use Rattle.host_calls.specs.Calls.{used_values}
use Rattle.host_calls.proofs.measure.Goals as goal

pub returns : goal.returns
returns c =
    let m = mapped_slots _ _ used_values c.map.ensures.cases in
    record {
      value = rw (← c.measure.ensures) (c.put_answer.ensures.value ∙ m.value);
      answer_after = rw (← c.measure.ensures) (c.put_answer.ensures.slots_after ∙ m.slots _);
    }
