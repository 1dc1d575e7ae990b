-- `next_token` meets its contract.
use mathlib.Core.Path.{◌∙◌}
use Rattle.host_answers.proofs.Slots.{turn_slots}
use Rattle.host_reading.specs.Records.{token_values}
use Rattle.host_reading.proofs.next_token.Goals as goal

pub returns : goal.returns
returns c =
    let m = turn_slots c.args.place _ _ token_values c.map.ensures.cases in
    record {
      value = rw (← c.next_token-next.ensures) (c.put_answer.ensures.value ∙ m.value);
      answer_after = rw (← c.next_token-next.ensures) (c.put_answer.ensures.slots_after ∙ m.slots _);
    }
