use mathlib.Core.Path.{sym, ◌∙◌}
use Rattle.record_texts.proofs.TextLaws.{text_none, text_fixed, text_part, text_none_place, text_fixed_place, text_part_place}
use Rattle.record_texts.proofs.text.Goals as goal

pub returns-then-not-is_whole : goal.returns-then-not-is_whole
returns-then-not-is_whole c =
    let w = sym c.is_whole.ensures ∙ c.if-not-is_whole.true in
    record { result_value = text_none _ _ _ _ w; ref_ptr_value = text_none_place _ _ _ _ w _ _ }

pub record_at-r-requires : goal.record_at-r-requires
record_at-r-requires c = (sym c.is_whole.ensures ∙ c.if-not-is_whole.false)

pub returns-then-not-has_text : goal.returns-then-not-has_text
returns-then-not-has_text c =
    let w = sym c.is_whole.ensures ∙ c.if-not-is_whole.false in
    let t = sym c.has_text.ensures ∙ c.if-not-has_text.true in
    record { result_value = text_fixed _ _ _ _ _ w c.record_at-r.ensures t; ref_ptr_value = text_fixed_place _ _ _ _ _ w c.record_at-r.ensures _ _ t }

pub returns : goal.returns
returns c =
    let w = sym c.is_whole.ensures ∙ c.if-not-is_whole.false in
    let t = sym c.has_text.ensures ∙ c.if-not-has_text.false in
    record { result_value = text_part _ _ _ _ _ w c.record_at-r.ensures _ _ t c.home-buffer.ensures.result_value c.part.ensures.result_value; ref_ptr_value = text_part_place _ _ _ _ _ w c.record_at-r.ensures _ _ _ _ _ t c.home-buffer.ensures.result_value c.home-buffer.ensures.ref_ptr_value c.part.ensures.ref_ptr_value }
