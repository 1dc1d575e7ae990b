-- `put_doc` meets its contract. Assumes nothing.
use mathlib.Core.Path.{sym, ◌∙◌}
use Rattle.print_steps.proofs.put_doc.Goals as goal

pub put_line_doc-requires : goal.put_line_doc-requires
put_line_doc-requires c =
    record { within = c.requires.within; from_value = sym c.stands_at.ensures ∙ c.if-stands_at.true; at_bound = c.requires.at_bound }

pub put_block_doc-requires : goal.put_block_doc-requires
put_block_doc-requires c =
    record { within = c.requires.within; from_value = c.requires.from_value (sym c.stands_at.ensures ∙ c.if-stands_at.false); at_bound = c.requires.at_bound }
