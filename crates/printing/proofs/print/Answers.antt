-- `print` meets its contract: by the questions one after another. Assumes nothing.
use mathlib.Core.Path.{sym}
use native.Mathlib.Omega.{arith}
use Rattle.refusals.proofs.Answers.{passed_on}
use Rattle.printing.proofs.Laws.{print_refused, print_mistake, print_short, print_done}
use Rattle.printing.proofs.print.Goals as goal

pub returns-in_err-script : goal.returns-in_err-script
returns-in_err-script c = rw (passed_on _ _ c.from_residual.ensures) (print_refused _ _ _ (sym c.in_err-script.ensures))

pub returns-then-size-bytes : goal.returns-then-size-bytes
returns-then-size-bytes c =
    let a = c.in_ok-script.ensures in
    print_short _ _ _ (sym a.0) _ (rw a.1 at c.in-Ok.ensures) (omega (arith, c.if-size-bytes.true))

pub returns-in_default : goal.returns-in_default
returns-in_default c =
    let a = c.in_ok-script.ensures in
    print_mistake _ _ _ (sym a.0) c.in_default.field-0 _ (rw a.1 at c.in_default.ensures) (rw a.1 at c.first_start.ensures)

pub returns : goal.returns
returns c =
    let a = c.in_ok-script.ensures in
    print_done _ _ _ (sym a.0) _ (rw a.1 at c.in-Ok.ensures) c.if-size-bytes.false _ _ (rw a.1 at c.write_front-2.ensures)
