-- `consume` meets its contract.
use mathlib.Core.Path.{◌∙◌}
use Rattle.host_answers.proofs.Slots.{consumed_slots}
use Rattle.host_matching.specs.Matching.{consumed_values}
use Rattle.host_matching.proofs.consume.Goals as goal

pub returns : goal.returns
returns c =
    let m = consumed_slots c.args.place _ _ consumed_values c.map.ensures.cases in
    record {
      value = rw (← c.consumed.ensures) (c.put_answer.ensures.value ∙ m.value);
      answer_after = rw (← c.consumed.ensures) (c.put_answer.ensures.slots_after ∙ m.slots _);
    }
