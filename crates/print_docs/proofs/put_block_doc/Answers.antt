-- `print_docs::put_block_doc` meets its contract. Assumes nothing.
use mathlib.Core.Path.{sym, ◌∙◌}
use native.Mathlib.Omega.{arith}
use Rattle.std.proofs.lemmas.Slice.{between_is}
use Rattle.text_parts.proofs.Feedless.{nothing_feedless}
use Rattle.print_docs.proofs.Lining.{block_small, block_put, one_line, more_lines_lem}
use Rattle.print_docs.proofs.put_block_doc.Goals as goal

pub put_short-requires-clause-line_value : goal.put_short-requires-clause-line_value
put_short-requires-clause-line_value c = nothing_feedless

pub put_long-requires-clause-c_bound : goal.put_long-requires-clause-c_bound
put_long-requires-clause-c_bound c =
    omega (arith, block_small _ _ c.begin-c.ensures, c.requires.part_len_bound)

pub put_long-requires-clause-c_value : goal.put_long-requires-clause-c_value
put_long-requires-clause-c_value c =
    more_lines_lem _ _ c.begin-c.ensures _ _ c.in-Some.ensures _ _ c.in-Some-second.ensures

pub returns-in_default-second : goal.returns-in_default-second
returns-in_default-second c =
    let b = c.begin-c.ensures in
    block_put _ _ b _ _ _ _ _ (one_line _ _ b _ _ c.in-Some.ensures c.in_default-second.ensures ∙ sym (between_is c.args.part.now _ _))
    c.put_short-in_default-second.ensures
