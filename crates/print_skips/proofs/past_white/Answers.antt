-- `past_white` meets its contract. From the beginning to where the loop stands all is passed. Assumes nothing.
use mathlib.Core.Path.{◌∙◌}
use native.Mathlib.Omega.{arith}
use Rattle.print_skips.proofs.Passing.{passed_none, passed_join, class_stops}
use Rattle.print_skips.proofs.past_white.Goals as goal

pub loop-b-init : goal.loop-b-init
loop-b-init c = passed_none _ _ c.requires

pub past_blanks-b-requires : goal.past_blanks-b-requires
past_blanks-b-requires c = c.loop-b.invariant.within

pub returns-then-b-ne-OTHER : goal.returns-then-b-ne-OTHER
returns-then-b-ne-OTHER c =
    record {
      passed = passed_join _ _ _ _ c.loop-b.invariant c.past_blanks-b.ensures.passed;
      class_is = c.past_blanks-b.ensures.class_is;
      stops = class_stops _ _ c.past_blanks-b.ensures.passed.within (λ e. c.if-b-ne-OTHER.true (c.past_blanks-b.ensures.class_is ∙ e)) (λ e. c.past_blanks-b.ensures.stops (c.past_blanks-b.ensures.class_is ∙ e));
    }

pub past_wide-q-requires : goal.past_wide-q-requires
past_wide-q-requires c = c.past_blanks-b.ensures.passed.within

pub returns-then-q-b : goal.returns-then-q-b
returns-then-q-b c =
    record {
      passed = passed_join _ _ _ _ c.loop-b.invariant c.past_blanks-b.ensures.passed;
      class_is = c.past_blanks-b.ensures.class_is;
      stops = c.past_wide-q.ensures.stops c.if-q-b.true;
    }

pub loop-b-smaller : goal.loop-b-smaller
loop-b-smaller c =
    omega (arith, c.past_wide-q.ensures.passed.forth, c.past_wide-q.ensures.passed.within.inside, c.past_blanks-b.ensures.passed.forth, c.if-q-b.false)

pub loop-b-preserved : goal.loop-b-preserved
loop-b-preserved c =
    let y = passed_join _ _ _ _ c.loop-b.invariant c.past_blanks-b.ensures.passed in
    passed_join _ _ _ _ y c.past_wide-q.ensures.passed
