-- `longer_mark` meets its contract. Assumes nothing.
use mathlib.Core.Path.{sym, ◌∙◌}
use native.Mathlib.Omega.{arith}
use Rattle.classes.proofs.Laws.{class_there}
use Rattle.marks.proofs.Laws.{lone_word, second_letter, two_word, third_word, third_not}
use Rattle.marks.proofs.Marks.longer_mark.Goals as goal

pub overflow_add-at : goal.overflow_add-at
overflow_add-at c =
    let h = class_there c.args.text.now c.args.at (omega arith) in
    omega arith

pub returns-then-kind-lone : goal.returns-then-kind-lone
returns-then-kind-lone c =
    lone_word c.args.text.now c.args.at c.args.first c.mark_kind-lone.result c.at.result c.mark_kind-kind.result c.requires.first_value c.requires.le_first c.requires.first_bound
    c.mark_kind-lone.ensures c.at.ensures c.mark_kind-kind.ensures c.if-kind-lone.true

pub returns-in_default : goal.returns-in_default
returns-in_default c =
    two_word c.args.text.now c.args.at c.args.first c.mark_kind-lone.result c.at.result c.mark_kind-kind.result c.requires.first_value c.requires.le_first c.requires.first_bound
    c.mark_kind-lone.ensures c.at.ensures c.mark_kind-kind.ensures c.if-kind-lone.false c.in_default.ensures

pub overflow_add-at-2 : goal.overflow_add-at-2
overflow_add-at-2 c =
    let h = class_there c.args.text.now c.args.at (omega arith) in
    omega arith

pub overflow_add-at-3 : goal.overflow_add-at-3
overflow_add-at-3 c =
    let h = class_there c.args.text.now c.args.at (omega arith) in
    omega arith

pub is_at-requires : goal.is_at-requires
is_at-requires c =
    second_letter c.args.text.now c.args.at c.args.first c.mark_kind-lone.result c.at.result c.mark_kind-kind.result c.requires.first_value c.requires.le_first c.requires.first_bound
    c.mark_kind-lone.ensures c.at.ensures c.mark_kind-kind.ensures c.if-kind-lone.false c.byte_at-second.result c.byte_at-second.ensures

pub returns-then-is_at : goal.returns-then-is_at
returns-then-is_at c =
    third_word c.args.text.now c.args.at c.args.first c.mark_kind-lone.result c.at.result c.mark_kind-kind.result c.requires.first_value c.requires.le_first c.requires.first_bound
    c.mark_kind-lone.ensures c.at.ensures c.mark_kind-kind.ensures c.if-kind-lone.false
    c.byte_at-second.result c.byte_at-second.ensures c.in-Some.third c.in-Some.ensures (sym c.is_at.ensures ∙ c.if-is_at.true)

pub returns : goal.returns
returns c =
    third_not c.args.text.now c.args.at c.args.first c.mark_kind-lone.result c.at.result c.mark_kind-kind.result c.requires.first_value c.requires.le_first c.requires.first_bound
    c.mark_kind-lone.ensures c.at.ensures c.mark_kind-kind.ensures c.if-kind-lone.false
    c.byte_at-second.result c.byte_at-second.ensures c.in-Some.third c.in-Some.ensures (sym c.is_at.ensures ∙ c.if-is_at.false)
