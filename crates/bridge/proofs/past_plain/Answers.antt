-- `past_plain` meets its contract. Whatever ends the walk from where the loop stands ends it from its beginning. Assumes nothing.
use mathlib.Core.Path.{sym, ◌∙◌, subst}
use Prim.Native.Nat.{◌+◌}
use native.Mathlib.Omega.{arith}
use Rattle.bridge.proofs.Plains.{Mid, mid_start, mid_char, mid_tail, mid_stop, mid_end}
use Rattle.bridge.proofs.past_plain.Goals as goal
use Rattle.bridge.proofs.past_plain.Goals.{then-not-is_tail, else-not-is_tail}

pub loop-at-init : goal.loop-at-init
loop-at-init c =
    (mid_start _ c.args.text.now c.args.p c.requires.within, c.requires.stops)

pub returns-then-not-is_plain : goal.returns-then-not-is_plain
returns-then-not-is_plain c =
    let g = sym c.is_plain.ensures ∙ c.if-not-is_plain.true in
    mid_stop _ _ _ c.loop-at.invariant.1 _ _ c.loop-at.at c.loop-at.col c.loop-at.invariant.0 (omega arith) g

pub overflow_add-col : goal.overflow_add-col
overflow_add-col c =
    omega (arith, c.loop-at.invariant.0.within.columns, c.loop-at.invariant.0.within.inside, c.loop-at.invariant.0.within.size)

pub loop-at-smaller : goal.loop-at-smaller
loop-at-smaller c = omega arith

pub loop-at-preserved : goal.loop-at-preserved
loop-at-preserved c =
    let g = sym c.is_plain.ensures ∙ c.if-not-is_plain.false in
    let m : Mid _ _ _ (c.loop-at.at + 1) c.if-not-is_tail.col =
    elim c.if-not-is_tail.branch [
      | then-not-is_tail w ↦
          subst (Mid _ _ _ (c.loop-at.at + 1)) (sym w.col-is)
          (mid_char _ _ _ c.loop-at.invariant.1 _ _ c.loop-at.at c.loop-at.col c.loop-at.invariant.0 (omega arith) (sym c.is_tail.ensures ∙ w.if-not-is_tail.true) g)
      | else-not-is_tail w ↦
          subst (Mid _ _ _ (c.loop-at.at + 1)) (sym w.col-is)
          (mid_tail _ _ _ c.loop-at.invariant.1 _ _ c.loop-at.at c.loop-at.col c.loop-at.invariant.0 (omega arith) (sym c.is_tail.ensures ∙ w.if-not-is_tail.false))
    ] in
    (m, c.loop-at.invariant.1)

pub returns : goal.returns
returns c =
    mid_end _ _ _ c.loop-at.invariant.1 _ _ c.loop-at.at c.loop-at.col c.loop-at.invariant.0 (omega arith)
