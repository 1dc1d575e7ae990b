-- `block_at` meets its contract. The slash and the star, and then the next two. Assumes nothing.
use mathlib.Core.Path.{sym, ◌∙◌, ap}
use mathlib.Core.Bool.{not}
use Rattle.skipping.proofs.Slashes.{slash, star, third_there, block_closed, block_yes, block_no}
use Rattle.walks.proofs.Starts.{pair_there}
use native.Mathlib.Omega.{arith}
use Rattle.skipping.proofs.block_at.Goals as goal

pub overflow_add-at : goal.overflow_add-at
overflow_add-at c =
    let h = pair_there c.args.text.now c.args.at 47 42 slash star (sym c.stands_at.ensures ∙ c.if-stands_at.true) in omega arith

pub overflow_add-at-else-not-is_at : goal.overflow_add-at-else-not-is_at
overflow_add-at-else-not-is_at c =
    let e = sym c.stands_at.ensures ∙ c.if-stands_at.true in
    let n = third_there c.args.text.now c.args.at e (sym c.is_at.ensures ∙ c.if-not-is_at.false) in omega arith

pub returns-then-not-is_at : goal.returns-then-not-is_at
returns-then-not-is_at c =
    let e = sym c.stands_at.ensures ∙ c.if-stands_at.true in
    ap not c.if-not-is_at.true ∙ block_yes c.args.text.now c.args.at e (sym c.is_at.ensures ∙ c.if-not-is_at.true)

pub returns-else-not-is_at : goal.returns-else-not-is_at
returns-else-not-is_at c =
    let e = sym c.stands_at.ensures ∙ c.if-stands_at.true in
    block_closed c.args.text.now c.args.at e _ (sym c.is_at.ensures ∙ c.if-not-is_at.false) c.is_at-else-not-is_at.ensures

pub returns-else-stands_at : goal.returns-else-stands_at
returns-else-stands_at c =
    c.if-stands_at.false ∙ block_no c.args.text.now c.args.at (sym c.stands_at.ensures ∙ c.if-stands_at.false)
