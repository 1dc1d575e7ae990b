use mathlib.Core.Path.{sym, ◌∙◌}
use Rattle.record_texts.proofs.TextLaws.{inside_room, part_inside, part_none, place_inside, place_none}
use native.Mathlib.Omega.{arith}
use Rattle.record_texts.proofs.part.Goals as goal

pub overflow_add-result : goal.overflow_add-result
overflow_add-result c = omega (arith, inside_room _ _ _ (sym c.is_inside.ensures ∙ c.if-is_inside.true))

pub slice_bounds-result-end : goal.slice_bounds-result-end
slice_bounds-result-end c = omega (arith, inside_room _ _ _ (sym c.is_inside.ensures ∙ c.if-is_inside.true))

pub returns-then-is_inside : goal.returns-then-is_inside
returns-then-is_inside c =
    let e = sym c.is_inside.ensures ∙ c.if-is_inside.true in
    record { result_value = part_inside _ _ _ e; ref_ptr_value = place_inside _ _ _ _ e }

pub returns : goal.returns
returns c =
    let e = sym c.is_inside.ensures ∙ c.if-is_inside.false in
    record { result_value = part_none _ _ _ e; ref_ptr_value = place_none _ _ _ _ e }
