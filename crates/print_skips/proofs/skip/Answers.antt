-- `skip` meets its contract. From the beginning to where the loop stands all is passed. Assumes nothing.
use Rattle.print_skips.proofs.Passing.{passed_none, passed_join, skipped_all, skipped_other}
use Rattle.print_skips.proofs.skip.Goals as goal

pub loop-w-init : goal.loop-w-init
loop-w-init c = passed_none _ _ c.requires

pub past_white-w-requires : goal.past_white-w-requires
past_white-w-requires c = c.loop-w.invariant.within

pub returns-then-w-ne-SLASH : goal.returns-then-w-ne-SLASH
returns-then-w-ne-SLASH c =
    skipped_other _ _ _ _ (passed_join _ _ _ _ c.loop-w.invariant c.past_white-w.ensures.passed) c.past_white-w.ensures.class_is c.past_white-w.ensures.stops c.if-w-ne-SLASH.true

pub returns-in_default : goal.returns-in_default
returns-in_default c =
    let x = rw c.in_default.is at c.in_ok-end.ensures in
    skipped_all c.args.text.now _ _ _ (passed_join _ _ _ _ c.loop-w.invariant c.past_white-w.ensures.passed) c.past_white-w.ensures.class_is c.past_white-w.ensures.stops x.0 x.1
