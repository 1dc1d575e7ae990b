use mathlib.Core.Path.{sym, ◌∙◌}
use Rattle.refusals.proofs.Answers.{passed_on}
use Rattle.record_texts.proofs.TextLaws.{check_none, check_fixed, check_inside, check_outside}
use Rattle.record_texts.proofs.text_check.Goals as goal

pub returns-in_err-ask_record : goal.returns-in_err-ask_record
returns-in_err-ask_record c =
    let e = c.in_err-ask_record.ensures in rw (passed_on _ _ c.from_residual.ensures, e.0) (check_none _ _ _ _ e.1)

pub returns-then-not-has_text : goal.returns-then-not-has_text
returns-then-not-has_text c = check_fixed _ _ _ _ _ c.in_ok-ask_record.ensures c.record_at-r.ensures (sym c.has_text.ensures ∙ c.if-not-has_text.true)

pub returns-then-is_inside : goal.returns-then-is_inside
returns-then-is_inside c = check_inside _ _ _ _ _ c.in_ok-ask_record.ensures c.record_at-r.ensures _ (sym c.has_text.ensures ∙ c.if-not-has_text.false) c.home-buffer.ensures.result_value (sym c.is_inside.ensures ∙ c.if-is_inside.true)

pub returns : goal.returns
returns c = check_outside _ _ _ _ _ c.in_ok-ask_record.ensures c.record_at-r.ensures _ (sym c.has_text.ensures ∙ c.if-not-has_text.false) c.home-buffer.ensures.result_value (sym c.is_inside.ensures ∙ c.if-is_inside.false)
