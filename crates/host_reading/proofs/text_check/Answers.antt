-- `text_check` meets its contract.
use mathlib.Core.Path.{◌∙◌}
use Rattle.host_answers.proofs.Slots.{mapped_slots}
use Rattle.host_reading.specs.Records.{no_values}
use Rattle.host_reading.proofs.text_check.Goals as goal

pub returns : goal.returns
returns c =
    let m = mapped_slots _ _ no_values c.map.ensures.cases in
    record {
      value = rw (← c.text_check-check.ensures) (c.put_answer.ensures.value ∙ m.value);
      answer_after = rw (← c.text_check-check.ensures) (c.put_answer.ensures.slots_after ∙ m.slots _);
    }
