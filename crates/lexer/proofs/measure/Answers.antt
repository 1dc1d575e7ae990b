-- `measure` meets its contract. Assumes nothing.
use mathlib.Core.Path.{sym}
use Rattle.refusals.proofs.Answers.{passed_on}
use Rattle.lexer.proofs.Answers.{measure_no, measure_yes}
use Rattle.lexer.proofs.measure.Goals as goal

pub returns-in_err-script : goal.returns-in_err-script
returns-in_err-script c = rw (passed_on _ _ c.from_residual.ensures) (measure_no _ _ _ (sym c.in_err-script.ensures))

pub returns : goal.returns
returns c =
    let a = c.in_ok-script.ensures in
    measure_yes _ _ (sym a.0) (rw a.1 at c.count.ensures)
