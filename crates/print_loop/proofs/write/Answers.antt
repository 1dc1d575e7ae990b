-- `write` meets its contract: what is still to be written after each turn completes the print, and less of the text is left. Assumes nothing.
use Rattle.std.proofs.lemmas.Result.{err_from_is_err_and}
use Rattle.print_loop.proofs.Walks.{walk_start, walk_front, walk_wrong, walk_more, walk_forth, walk_end}
use Rattle.print_loop.proofs.write.Goals as goal

pub loop-w-init : goal.loop-w-init
loop-w-init c = walk_start _ _ _ c.after_mark-text.ensures.result_value c.args.script.passed

pub next-requires : goal.next-requires
next-requires c =
    record { within = c.loop-w.invariant.within; at_bound = walk_front _ _ _ _ _ _ _ c.loop-w.invariant }

pub returns-in_err-w : goal.returns-in_err-w
returns-in_err-w c =
    let p = err_from_is_err_and c.from_residual.result c.from_residual.ensures.1 in
    rw p.1 (walk_wrong _ _ _ _ _ _ _ c.loop-w.invariant c.next.new.out p.0 c.in_err-w.ensures)

pub loop-w-smaller : goal.loop-w-smaller
loop-w-smaller c =
    walk_forth _ _ _ _ _ _ _ c.loop-w.invariant _ _ _ (rw c.in-Some.is at c.in_ok-w.ensures)

pub loop-w-preserved : goal.loop-w-preserved
loop-w-preserved c =
    walk_more _ _ _ _ _ _ _ c.loop-w.invariant _ _ _ (rw c.in-Some.is at c.in_ok-w.ensures)

pub returns : goal.returns
returns c =
    walk_end _ _ _ _ _ _ _ c.loop-w.invariant _ (rw c.in_default.is at c.in_ok-w.ensures)
