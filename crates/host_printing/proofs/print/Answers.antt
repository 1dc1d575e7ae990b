-- `print` meets its contract.
use mathlib.Core.Path.{◌∙◌}
use Rattle.host_answers.proofs.Slots.{mapped_slots}
use Rattle.host_printing.specs.Prints.{print_values}
use Rattle.host_printing.proofs.print.Goals as goal

pub returns : goal.returns
returns c =
    let m = mapped_slots _ _ print_values c.map.ensures.cases in
    let e = c.print.ensures.answer in
    record {
      number = rw (← e) (c.put_answer.ensures.value ∙ m.value);
      slots_after_lem = rw (← e) (c.put_answer.ensures.slots_after ∙ m.slots _);
      out_after = rw (← e) c.print.ensures.out_after;
    }
