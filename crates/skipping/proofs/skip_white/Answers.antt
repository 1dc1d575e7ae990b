-- `walks::skip::skip_white` meets its contract. From the beginning to where the loop stands nothing is yielded. Assumes nothing.
use mathlib.Core.Path.{sym, ◌∙◌}
use Rattle.bridge.proofs.Reaches.{within_fits}
use Rattle.skipping.proofs.Skips.{gap_nil, gap_join, gap_blanks, blanks_place, blanks_end, some_gap}
use native.Mathlib.Omega.{arith}
use Rattle.skipping.proofs.skip_white.Goals as goal

pub loop-q-init : goal.loop-q-init
loop-q-init c = gap_nil _ _ c.requires

pub past_blanks-to-requires : goal.past_blanks-to-requires
past_blanks-to-requires c = c.loop-q.invariant.within.inside

pub overflow_sub-to : goal.overflow_sub-to
overflow_sub-to c = omega (arith, c.past_blanks-to.ensures.forth)

pub along-at-requires : goal.along-at-requires
along-at-requires c =
    within_fits c.args.text.now c.loop-q.at _ c.loop-q.invariant.within (omega (arith, c.past_blanks-to.ensures.inside, c.loop-q.invariant.within.size))

pub skip_some-q-requires : goal.skip_some-q-requires
skip_some-q-requires c =
    (gap_blanks c.args.text.now _ c.loop-q.at c.loop-q.invariant _ _ c.past_blanks-to.ensures c.along-at.ensures).within

pub returns-then-q-to : goal.returns-then-q-to
returns-then-q-to c =
    let n = blanks_place c.args.text.now _ c.loop-q.at c.loop-q.invariant _ _ c.past_blanks-to.ensures c.along-at.ensures in
    blanks_end c.args.text.now _ c.loop-q.at c.loop-q.invariant _ _ c.past_blanks-to.ensures c.along-at.ensures (c.skip_some-q.ensures.stops (c.if-q-to.true ∙ sym n))

pub loop-q-smaller : goal.loop-q-smaller
loop-q-smaller c =
    let n = blanks_place c.args.text.now _ c.loop-q.at c.loop-q.invariant _ _ c.past_blanks-to.ensures c.along-at.ensures in
    omega (arith, n, c.if-q-to.false, c.skip_some-q.ensures.forth, c.skip_some-q.ensures.within.inside, c.past_blanks-to.ensures.forth)

pub loop-q-preserved : goal.loop-q-preserved
loop-q-preserved c =
    let y = gap_blanks c.args.text.now _ c.loop-q.at c.loop-q.invariant _ _ c.past_blanks-to.ensures c.along-at.ensures in
    gap_join c.args.text.now _ c.along-at.result _ y (some_gap c.args.text.now _ _ c.skip_some-q.ensures)
