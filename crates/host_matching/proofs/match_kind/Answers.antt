-- `match_kind` meets its contract.
use mathlib.Core.Path.{◌∙◌}
use Rattle.host_answers.proofs.Slots.{turn_slots}
use Rattle.host_matching.specs.Matching.{matched_values}
use Rattle.host_matching.proofs.match_kind.Goals as goal

pub returns : goal.returns
returns c =
    let m = turn_slots c.args.place _ _ matched_values c.map.ensures.cases in
    record {
      value = rw (← c.matched.ensures) (c.put_answer.ensures.value ∙ m.value);
      answer_after = rw (← c.matched.ensures) (c.put_answer.ensures.slots_after ∙ m.slots _);
    }
