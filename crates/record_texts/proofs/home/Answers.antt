use mathlib.Core.Path.{sym, ◌∙◌}
use Rattle.record_texts.proofs.TextLaws.{home_made, home_script, place_made, place_script}
use Rattle.record_texts.proofs.home.Goals as goal

pub returns-then-is_made : goal.returns-then-is_made
returns-then-is_made c =
    let e = sym c.is_made.ensures ∙ c.if-is_made.true in
    record { result_value = sym (home_made _ _ _ e); ref_ptr_value = sym (place_made _ _ _ _ e) }

pub returns : goal.returns
returns c =
    let e = sym c.is_made.ensures ∙ c.if-is_made.false in
    record { result_value = c.after_mark.ensures.result_value ∙ sym (home_script _ _ _ e); ref_ptr_value = c.after_mark.ensures.ref_ptr_value ∙ sym (place_script _ _ _ _ e) }
