-- `tokenize` meets its contract: by the questions one after another. Assumes nothing.
use mathlib.Core.Path.{sym, ◌∙◌}
use Rattle.refusals.proofs.Answers.{passed_on}
use Rattle.lexer.proofs.Answers.{tokenize_no, tokenize_full, tokenize_yes, tokenize_counted, roomy_yes, mark_fits, after_size, after_low}
use Rattle.lexer.proofs.tokenize.Goals as goal

pub returns-in_err-script : goal.returns-in_err-script
returns-in_err-script c = rw (passed_on _ _ c.from_residual.ensures) (tokenize_no _ _ _ _ _ (sym c.in_err-script.ensures))

pub overflow_sub-n : goal.overflow_sub-n
overflow_sub-n c = mark_fits _ _ c.mark_length.ensures

pub is_roomy-requires : goal.is_roomy-requires
is_roomy-requires c = after_low _ _ c.mark_length.ensures c.in_ok-script.script.passed

pub returns-then-is_roomy : goal.returns-then-is_roomy
returns-then-is_roomy c =
    let a = c.in_ok-script.ensures in
    let x = roomy_yes _ _ _ _ _ c.in_ok-script.script.passed (after_size _ _ c.mark_length.ensures) (sym c.is_roomy.ensures ∙ c.if-is_roomy.true) in
    tokenize_yes _ _ _ _ _ _ _ _ (sym a.0) (rw a.1 at x) (rw a.1 at c.run.ensures)

pub returns-in_err-ask_room : goal.returns-in_err-ask_room
returns-in_err-ask_room c =
    let a = c.in_ok-script.ensures in
    rw (passed_on _ _ c.from_residual-in_err-ask_room.ensures) (tokenize_full _ _ _ _ _ _ (sym a.0) (rw a.1 at c.count-u.ensures) (sym c.in_err-ask_room.ensures))

pub returns : goal.returns
returns c =
    let a = c.in_ok-script.ensures in
    tokenize_counted _ _ _ _ _ _ _ _ _ (sym a.0) (rw a.1 at c.count-u.ensures) (sym c.in_ok-ask_room.ensures) (rw a.1 at c.run-2.ensures)
