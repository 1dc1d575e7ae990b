-- `next_error` meets its contract.
use mathlib.Core.Path.{◌∙◌}
use Rattle.host_answers.proofs.Slots.{turn_slots}
use Rattle.host_reading.specs.Records.{error_values}
use Rattle.host_reading.proofs.next_error.Goals as goal

pub returns : goal.returns
returns c =
    let m = turn_slots c.args.place _ _ error_values c.map.ensures.cases in
    record {
      value = rw (← c.next_error-next.ensures) (c.put_answer.ensures.value ∙ m.value);
      answer_after = rw (← c.next_error-next.ensures) (c.put_answer.ensures.slots_after ∙ m.slots _);
    }
