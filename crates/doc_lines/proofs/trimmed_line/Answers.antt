-- `doc_lines::trimmed_line` meets its contract. The invariant: the characters passed, and where the last of them that is no white space
-- ends. Assumes nothing.
use mathlib.Core.Path.{subst}
use native.Mathlib.Omega.{arith}
use Rattle.characters.proofs.Widths.{width_bounds}
use Rattle.doc_lines.specs.Lines.{NextAt}
use Rattle.doc_lines.proofs.Places.{ending_start, ending_end, ending_feed, ending_more, in_line_lem, out_of_line}
use Rattle.doc_lines.proofs.Inks.{ending_ink}
use Rattle.doc_lines.proofs.trimmed_line.Goals as goal

pub loop-c-init : goal.loop-c-init
loop-c-init g c = (c.requires.inside, λ f t. ending_start _ _ _ c.requires.inside)

pub returns-in_default : goal.returns-in_default
returns-in_default g c f t =
    let k = ending_ink _ c.args.part.now _ c.loop-c.at c.loop-c.to c.past_ink-q.result _ (c.loop-c.invariant.1 f t) c.past_ink-q.ensures c.ink_end-end.ensures in
    let e = subst (NextAt c.args.part.now c.past_ink-q.result) c.in_default.is c.char_at.ensures in
    ending_end _ c.args.part.now _ c.past_ink-q.result _ k e

pub returns-then-ends : goal.returns-then-ends
returns-then-ends g c f t =
    let k = ending_ink _ c.args.part.now _ c.loop-c.at c.loop-c.to c.past_ink-q.result _ (c.loop-c.invariant.1 f t) c.past_ink-q.ensures c.ink_end-end.ensures in
    let w = subst (NextAt c.args.part.now c.past_ink-q.result) c.in-Some.is c.char_at.ensures in
    ending_feed _ c.args.part.now _ c.past_ink-q.result _ k c.in-Some.c c.in-Some.next w
    (out_of_line _ _ (t _ _ c.ends.ensures) c.if-ends.true)

pub loop-c-smaller : goal.loop-c-smaller
loop-c-smaller g c =
    let w = subst (NextAt c.args.part.now c.past_ink-q.result) c.in-Some.is c.char_at.ensures in
    omega (arith, w.place, w.inside, c.past_ink-q.ensures.forth, width_bounds c.in-Some.c)

pub loop-c-preserved : goal.loop-c-preserved
loop-c-preserved g c =
    let w = subst (NextAt c.args.part.now c.past_ink-q.result) c.in-Some.is c.char_at.ensures in (
      w.inside,
      λ f t.
          ending_more _ c.args.part.now _ c.past_ink-q.result _
          (ending_ink _ c.args.part.now _ c.loop-c.at c.loop-c.to c.past_ink-q.result _ (c.loop-c.invariant.1 f t) c.past_ink-q.ensures c.ink_end-end.ensures)
          c.in-Some.c c.in-Some.next w _ c.kept_end-to.ensures (in_line_lem _ _ (t _ _ c.ends.ensures) c.if-ends.false),
    )
