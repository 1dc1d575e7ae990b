-- `past_blanks` meets its contract. From the beginning to where the loop stands all is passed. Assumes nothing.
use mathlib.Core.Path.{sym, ◌∙◌}
use native.Mathlib.Omega.{arith}
use Rattle.print_skips.proofs.Passing.{passed_none, passed_join, space_passed}
use Rattle.print_skips.proofs.past_blanks.Goals as goal

pub loop-class-init : goal.loop-class-init
loop-class-init c = (passed_none _ _ c.requires, c.at-class.ensures)

pub overflow_add-at : goal.overflow_add-at
overflow_add-at c =
    omega (arith, c.loop-class.invariant.0.within.size, c.loop-class.invariant.0.within.inside)

pub loop-class-smaller : goal.loop-class-smaller
loop-class-smaller c = omega (arith, (space_passed _ c.loop-class.at c.loop-class.invariant.0.within (sym c.loop-class.invariant.1 ∙ c.loop-class-test.true)).within.inside)

pub loop-class-preserved : goal.loop-class-preserved
loop-class-preserved c = (passed_join _ _ _ _ c.loop-class.invariant.0 (space_passed _ c.loop-class.at c.loop-class.invariant.0.within (sym c.loop-class.invariant.1 ∙ c.loop-class-test.true)), c.at-class-in-loop-class.ensures)

pub returns : goal.returns
returns c = record { passed = c.loop-class.invariant.0; class_is = c.loop-class.invariant.1; stops = c.loop-class-test.false }
