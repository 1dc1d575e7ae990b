-- `put_quoted` meets its contract. Assumes nothing.
use mathlib.Core.Path.{sym, ◌∙◌}
use Rattle.print_steps.proofs.put_quoted.Goals as goal

pub put_raw-requires : goal.put_raw-requires
put_raw-requires c =
    record { within = c.requires.within; from_value = sym c.stands_at.ensures ∙ c.if-stands_at.true; at_bound = c.requires.at_bound }

pub put_string-requires : goal.put_string-requires
put_string-requires c =
    record { within = c.requires.within; from_value = c.requires.from_value; from_value_2 = sym c.stands_at.ensures ∙ c.if-stands_at.false; at_bound = c.requires.at_bound }
