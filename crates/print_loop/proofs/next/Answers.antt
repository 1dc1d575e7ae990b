-- `next` meets its contract. By what was skipped, and the class of what stands behind it. Assumes nothing.
use Rattle.std.proofs.lemmas.Result.{err_from_is_err_and}
use mathlib.Core.Path.{sym, ◌∙◌}
use native.Mathlib.Omega.{arith}
use Rattle.print_loop.proofs.Turns.{due_length, emitted_goes, end_turn}
use Rattle.print_loop.proofs.next.Goals as goal

pub returns-in_err-g : goal.returns-in_err-g
returns-in_err-g c = let p = err_from_is_err_and c.from_residual.result c.from_residual.ensures.1 in rw p.1 c.in_err-g.ensures

pub end_at-requires : goal.end_at-requires
end_at-requires c =
    let w = c.in_ok-g.ensures in
    record { within = w.passed.within; nothing = record { class_is = sym w.class_is ∙ c.if-class-eq-OTHER.true; kept = w.stops } }

pub returns-in_err-end_at : goal.returns-in_err-end_at
returns-in_err-end_at c =
    let p = err_from_is_err_and c.from_residual-in_err-end_at.result c.from_residual-in_err-end_at.ensures.1 in
    rw p.1 (c.in_ok-g.ensures.passed.right ∙ c.in_err-end_at.ensures)

pub returns-then-class-eq-OTHER : goal.returns-then-class-eq-OTHER
returns-then-class-eq-OTHER c =
    end_turn c.args.text.now c.args.from _ c.in_ok-g.ensures.passed c.args.due _ c.in_ok-end_at.ensures

pub put_element-requires : goal.put_element-requires
put_element-requires c =
    let w = c.in_ok-g.ensures in
    record { within = w.passed.within; chosen = record { class_is = w.class_is; some = c.if-class-eq-OTHER.false; kept = w.stops }; at_bound = omega (arith, c.put_space-place.ensures.place, due_length c.args.due, c.requires.at_bound) }

pub returns-in_err-element : goal.returns-in_err-element
returns-in_err-element c =
    let p = err_from_is_err_and c.from_residual-in_err-element.result c.from_residual-in_err-element.ensures.1 in
    rw p.1 (c.in_ok-g.ensures.passed.right ∙ c.in_err-element.ensures)

pub returns : goal.returns
returns c =
    emitted_goes c.args.text.now c.args.from _ c.in_ok-g.ensures.passed c.args.due _ _ _ c.args.at _ c.put_space-place.ensures _ _ c.in_ok-element.ensures
