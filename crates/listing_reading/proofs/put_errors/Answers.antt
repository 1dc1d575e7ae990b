-- `put_errors` meets its contract. Assumes nothing.
use mathlib.Core.Path.{◌≡◌, sym, ◌∙◌, ap}
use Prim.Native.Nat.{◌+◌, ◌-◌}
use native.Mathlib.Omega.{arith}
use Rattle.records.specs.Answers.{of_turn}
use Rattle.listing_reading.proofs.Turns.{errors_start, errors_place, errors_more, errors_end, errors_none, errors_stop}
use Rattle.listing_reading.proofs.put_errors.Goals as goal

pub loop-turn-init : goal.loop-turn-init
loop-turn-init c = let e : c.args.count - 0 ≡ c.args.count = omega arith in rw e (errors_start _ _ _ _ c.requires)

pub shape_of-buf-in_default : goal.shape_of-buf-in_default
shape_of-buf-in_default c = c.loop-turn.invariant.ahead.size

pub returns-in_default : goal.returns-in_default
returns-in_default c = errors_end _ _ _ _ _ _ _ _ c.loop-turn.invariant (errors_stop _ _ _ _ _ _ (sym c.next_error.ensures ∙ ap (of_turn _) c.in_default.is))

pub put_error-p-requires : goal.put_error-p-requires
put_error-p-requires c = errors_place _ _ _ _ _ _ _ _ c.loop-turn.invariant _ _ (omega arith) (sym c.next_error.ensures ∙ ap (of_turn _) c.in-Ok.is)

pub loop-turn-preserved : goal.loop-turn-preserved
loop-turn-preserved c =
    let e : c.args.count - (c.loop-turn._turn + 1) ≡ c.args.count - c.loop-turn._turn - 1 = omega arith in
    rw e (errors_more _ _ _ _ _ _ _ _ c.loop-turn.invariant _ _ (omega arith) (sym c.next_error.ensures ∙ ap (of_turn _) c.in-Ok.is) _ _ c.put_error-p.ensures)

pub shape_of-buf : goal.shape_of-buf
shape_of-buf c = c.loop-turn.invariant.ahead.size

pub returns : goal.returns
returns c = errors_end _ _ _ _ _ _ _ _ c.loop-turn.invariant (errors_none _ _ _ (omega arith))
