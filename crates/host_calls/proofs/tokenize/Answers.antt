-- `tokenize` meets its contract.
use mathlib.Core.Path.{◌∙◌}
use Rattle.host_answers.proofs.Slots.{mapped_slots}
use Rattle.host_calls.specs.Calls.{used_values}
use Rattle.host_calls.proofs.tokenize.Goals as goal

pub returns : goal.returns
returns c =
    let m = mapped_slots _ _ used_values c.map.ensures.cases in
    let e = c.tokenize-used.ensures.answer in
    record {
      number = rw (← e) (c.put_answer.ensures.value ∙ m.value);
      slots_after_lem = rw (← e) (c.put_answer.ensures.slots_after ∙ m.slots _);
      tokens_after = rw (← e) c.tokenize-used.ensures.tokens_after;
      texts_after = rw (← e) c.tokenize-used.ensures.texts_after;
      errors_after = rw (← e) c.tokenize-used.ensures.errors_after;
    }
