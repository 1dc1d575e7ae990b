-- `walks::skip::skip` meets its contract. From the beginning to where the loop stands nothing is yielded; the buffer is as it was. Assumes nothing.
use mathlib.Core.Path.{refl, ◌∙◌, ap, subst}
use lib.ListN.{length}
use borrow.Author.Tests.{not-true, not-false}
use Rattle.output.proofs.Buffers.{put_length}
use Rattle.skipping.specs.Skips.{CommentAt}
use Rattle.skipping.proofs.Skips.{gap_nil, gap_join, white_is_gap, comment_gap, skipped_all, skipped_open}
use native.Mathlib.Omega.{arith}
use Rattle.skipping.proofs.skip.Goals as goal

pub loop-c-init : goal.loop-c-init
loop-c-init c = (gap_nil _ _ c.requires.within, refl)

pub skip_white-at-requires : goal.skip_white-at-requires
skip_white-at-requires c = c.loop-c.invariant.0.within

pub comment_at-requires : goal.comment_at-requires
comment_at-requires c = c.skip_white-at.ensures.within

pub shape_of-errors-in_default : goal.shape_of-errors-in_default
shape_of-errors-in_default c = ap length c.loop-c.invariant.1

pub returns-in_default : goal.returns-in_default
returns-in_default c =
    let x = subst (CommentAt c.args.text.now c.skip_white-at.result) c.in_default.is c.comment_at.ensures in
    skipped_all c.args.text.now c.args.p c.skip_white-at.result _ _ c.args.used (gap_join c.args.text.now c.args.p c.loop-c.at c.skip_white-at.result c.loop-c.invariant.0 (white_is_gap c.args.text.now c.loop-c.at c.skip_white-at.result c.skip_white-at.ensures)) c.skip_white-at.ensures.stops x.0 x.1 c.loop-c.invariant.1

pub shape_of-errors-then-not-c : goal.shape_of-errors-then-not-c
shape_of-errors-then-not-c c =
    put_length _ _ _ _ _ c.put_open-place.ensures ∙ ap length c.loop-c.invariant.1

pub returns-then-not-c : goal.returns-then-not-c
returns-then-not-c c =
    let g = gap_join c.args.text.now c.args.p c.loop-c.at c.skip_white-at.result c.loop-c.invariant.0 (white_is_gap c.args.text.now c.loop-c.at c.skip_white-at.result c.skip_white-at.ensures) in
    let x = subst (CommentAt c.args.text.now c.skip_white-at.result) c.in-Some.is c.comment_at.ensures in
    skipped_open c.args.text.now c.args.p c.skip_white-at.result c.in-Some.c _ _ _ c.args.used _ g x (not-true _ c.if-not-c.true) c.loop-c.invariant.1 c.put_open-place.ensures

pub loop-c-smaller : goal.loop-c-smaller
loop-c-smaller c =
    let x = subst (CommentAt c.args.text.now c.skip_white-at.result) c.in-Some.is c.comment_at.ensures in
    omega (arith, c.skip_white-at.ensures.forth, x.forth, x.reach.within.inside)

pub loop-c-preserved : goal.loop-c-preserved
loop-c-preserved c =
    let g = gap_join c.args.text.now c.args.p c.loop-c.at c.skip_white-at.result c.loop-c.invariant.0 (white_is_gap c.args.text.now c.loop-c.at c.skip_white-at.result c.skip_white-at.ensures) in
    let x = subst (CommentAt c.args.text.now c.skip_white-at.result) c.in-Some.is c.comment_at.ensures in
    (gap_join c.args.text.now c.args.p c.skip_white-at.result _ g (comment_gap c.args.text.now c.skip_white-at.result c.in-Some.c x (not-false _ c.if-not-c.false)), c.loop-c.invariant.1)
