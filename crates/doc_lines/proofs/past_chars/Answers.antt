-- `doc_lines::past_chars` meets its contract. The invariant: what is passed from here on is passed from the start on. Assumes nothing.
use mathlib.Core.Path.{sym, ◌∙◌, subst}
use native.Mathlib.Omega.{arith}
use Rattle.characters.proofs.Widths.{width_bounds}
use Rattle.doc_lines.specs.Lines.{NextAt}
use Rattle.doc_lines.proofs.Places.{skip_start, skip_end, skip_stop, skip_more}
use Rattle.doc_lines.proofs.past_chars.Goals as goal

pub loop-c-init : goal.loop-c-init
loop-c-init g c = (c.requires.inside, λ f t. skip_start _ _ _ c.requires.inside)

pub returns-then-not-test-clause-passed : goal.returns-then-not-test-clause-passed
returns-then-not-test-clause-passed g c f t =
    let w = subst (NextAt c.args.part.now c.loop-c.place) c.in-Some.is c.char_at.ensures in
    skip_stop _ c.args.part.now _ c.loop-c.place (c.loop-c.invariant.1 f t) c.in-Some.c c.in-Some.next w (sym (t _ _ c.test.ensures) ∙ c.if-not-test.true)

pub loop-c-smaller : goal.loop-c-smaller
loop-c-smaller g c =
    let w = subst (NextAt c.args.part.now c.loop-c.place) c.in-Some.is c.char_at.ensures in
    omega (arith, w.place, w.inside, width_bounds c.in-Some.c)

pub loop-c-preserved : goal.loop-c-preserved
loop-c-preserved g c =
    let w = subst (NextAt c.args.part.now c.loop-c.place) c.in-Some.is c.char_at.ensures in (
      w.inside,
      λ f t.
          skip_more _ c.args.part.now _ c.loop-c.place (c.loop-c.invariant.1 f t) c.in-Some.c c.in-Some.next w (sym (t _ _ c.test.ensures) ∙ c.if-not-test.false),
    )

pub returns-clause-passed : goal.returns-clause-passed
returns-clause-passed g c f t =
    let e = subst (NextAt c.args.part.now c.loop-c.place) c.in_default.is c.char_at.ensures in
    skip_end _ c.args.part.now _ c.loop-c.place (c.loop-c.invariant.1 f t) e
