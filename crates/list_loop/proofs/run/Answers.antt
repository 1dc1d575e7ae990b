-- `run` meets its contract: what is still to be written after each turn completes what the script takes, and fewer tokens are left. Assumes nothing.
use mathlib.Core.Path.{◌∙◌}
use Rattle.list_loop.proofs.Loop.{going_start, going_used, going_tokens, going_count, gave, ended, going_less, going_turn, going_end}
use native.Mathlib.Omega.{arith}
use Rattle.list_loop.proofs.run.Goals as goal

pub loop-t-init : goal.loop-t-init
loop-t-init c =
    rw (c.nothing-u.ensures, c.begin-c.ensures)
    (going_start _ _ _ _ _ c.after_mark-text.ensures.result_value c.args.script.passed)

pub step-requires : goal.step-requires
step-requires c =
    record { good = c.loop-t.invariant.good; used = going_used _ _ _ _ _ _ _ _ _ _ c.loop-t.invariant }

pub put_token-used-requires : goal.put_token-used-requires
put_token-used-requires c = going_tokens _ _ _ _ _ _ _ _ _ _ c.loop-t.invariant

pub overflow_add-count : goal.overflow_add-count
overflow_add-count c = omega (arith, going_count _ _ _ _ _ _ _ _ _ _ c.loop-t.invariant)

pub loop-t-smaller : goal.loop-t-smaller
loop-t-smaller c =
    let y = gave _ _ _ _ _ _ _ _ _ c.step.ensures _ _ c.in-Token.is in
    going_less _ _ _ _ _ _ _ _ _ _ c.loop-t.invariant _ _ _ _ _ _ y c.put_token-used.ensures

pub loop-t-preserved : goal.loop-t-preserved
loop-t-preserved c =
    let y = gave _ _ _ _ _ _ _ _ _ c.step.ensures _ _ c.in-Token.is in
    going_turn _ _ _ _ _ _ _ _ _ _ c.loop-t.invariant _ _ _ _ _ _ y c.put_token-used.ensures

pub shape_of-tokens : goal.shape_of-tokens
shape_of-tokens c = c.loop-t.invariant.tokens_ahead.size

pub shape_of-texts : goal.shape_of-texts
shape_of-texts c = c.step.auto.texts ∙ c.loop-t.invariant.texts_ahead.size

pub shape_of-errors : goal.shape_of-errors
shape_of-errors c = c.step.auto.errors ∙ c.loop-t.invariant.errors_ahead.size

pub returns : goal.returns
returns c = going_end _ _ _ _ _ _ _ _ _ _ c.loop-t.invariant _ _ (ended _ _ _ _ _ _ _ _ _ c.step.ensures c.in_default.is)
