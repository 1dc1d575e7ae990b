-- `close` meets its contract.
use mathlib.Core.Path.{◌∙◌}
use Rattle.letters.proofs.CloseLaws.{closed_at}
use Rattle.letters.proofs.close.Goals as goal

pub returns-then-closed : goal.returns-then-closed
returns-then-closed c =
    closed_at c.args.text.now c.args.p _ _ _ _ _ _ c.is_at-closed.result c.is_at-closed.ensures (c.along.ensures ∙ rw c.if-closed.true) c.put_open-noted.ensures

pub returns : goal.returns
returns c =
    closed_at c.args.text.now c.args.p _ _ _ _ _ _ c.is_at-closed.result c.is_at-closed.ensures (rw c.if-closed.false) c.put_open-noted.ensures
