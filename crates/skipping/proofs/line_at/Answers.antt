-- `line_at` meets its contract. The two slashes, and then the third. Assumes nothing.
use mathlib.Core.Path.{sym, ◌∙◌}
use Rattle.skipping.proofs.Slashes.{slash, line_yes, line_no}
use Rattle.walks.proofs.Starts.{pair_there}
use native.Mathlib.Omega.{arith}
use Rattle.skipping.proofs.line_at.Goals as goal

pub overflow_add-at : goal.overflow_add-at
overflow_add-at c =
    let h = pair_there c.args.text.now c.args.at 47 47 slash slash (sym c.stands_at.ensures ∙ c.if-stands_at.true) in omega arith

pub returns-then-stands_at : goal.returns-then-stands_at
returns-then-stands_at c =
    line_yes c.args.text.now c.args.at _ (sym c.stands_at.ensures ∙ c.if-stands_at.true) c.is_at.ensures

pub returns-else-stands_at : goal.returns-else-stands_at
returns-else-stands_at c =
    c.if-stands_at.false ∙ line_no c.args.text.now c.args.at (sym c.stands_at.ensures ∙ c.if-stands_at.false)
