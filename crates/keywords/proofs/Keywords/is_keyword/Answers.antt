-- `is_keyword` meets its contract. Assumes nothing.
use mathlib.Core.Path.{◌≡◌, refl, ◌∙◌}
use native.Mathlib.Omega.{arith}
use Rattle.lexemes.proofs.Lists.{all_below}
use Rattle.keywords.proofs.Laws.{letters_short, pick_less, same_step, same_is}
use Rattle.keywords.proofs.Keywords.is_keyword.Goals as goal

pub loop-i-init : goal.loop-i-init
unfolding all_below
loop-i-init c = refl

pub bounds-name-k : goal.bounds-name-k
bounds-name-k c = rw c.pick_of-k.ensures (pick_less _ _ c.requires.some)

pub overflow_add-k : goal.overflow_add-k
overflow_add-k c =
    let z = pick_less c.loop-i.i _ c.requires.some in
    let b = letters_short c.args.row c.requires.row_bound in
    omega arith

pub entry-requires-clause-column_bound : goal.entry-requires-clause-column_bound
entry-requires-clause-column_bound c =
    let z = pick_less c.loop-i.i _ c.requires.some in
    let b = letters_short c.args.row c.requires.row_bound in
    omega arith

pub loop-i-preserved : goal.loop-i-preserved
loop-i-preserved c =
    same_step c.args.name.now c.args.row c.loop-i.i c.pick_of-k.result c.entry.result c.loop-i.same c.loop-i.invariant c.pick_of-k.ensures c.entry.ensures

pub returns : goal.returns
returns c =
    let n : c.loop-i.i ≡ 9 = omega arith in
    (c.loop-i.invariant ∙ rw n) ∙ same_is c.args.name.now c.args.row c.requires.row_bound c.requires.some c.requires.row_len
