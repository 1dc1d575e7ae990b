-- `print_docs::put_lines` meets its contract. The invariant: what the cursor still gives, written from here on, gives what the whole
use native.Mathlib.Omega.{arith}
use Rattle.print_docs.proofs.Lining.{line_small, line_more, line_end}
use Rattle.print_docs.proofs.put_lines.Goals as goal

pub put_part-place-requires-clause-at_bound : goal.put_part-place-requires-clause-at_bound
put_part-place-requires-clause-at_bound c =
    omega (arith, line_small _ _ _ _ _ _ _ c.loop-x.invariant, c.requires.c_bound, c.requires.at_bound)

pub loop-x-preserved : goal.loop-x-preserved
loop-x-preserved c = line_more _ _ _ _ _ _ _ c.loop-x.invariant _ _ _ _ c.in-Some.ensures c.put_part-place.ensures

pub returns : goal.returns
returns c = line_end _ _ _ _ _ _ _ c.loop-x.invariant c.in_default.ensures
