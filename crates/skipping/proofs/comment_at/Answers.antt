-- `walks::skip::comment_at` meets its contract. By the mark that stands there. Assumes nothing.
use mathlib.Core.Path.{sym, ◌∙◌, subst}
use Rattle.spans.specs.declared.Position.{Position}
use Rattle.rules.specs.Text.{text}
use Rattle.skipping.specs.Skips.{PastComment}
use Rattle.walks.proofs.Enclosed.{begin_reach}
use Rattle.skipping.proofs.Comments.{line_starts, block_starts, line_past, block_past}
use native.Mathlib.Omega.{arith}
use Rattle.skipping.proofs.comment_at.Goals as goal

pub to_byte-c-requires : goal.to_byte-c-requires
to_byte-c-requires c =
    let e = sym c.line_at.ensures ∙ c.if-line_at.true in
    let r = begin_reach (text "//") c.args.text.now c.args.p _ (omega arith) c.requires (line_starts _ e) c.along.ensures in
    record { within = r.within; letter = (omega arith, omega arith) }

pub returns-then-line_at : goal.returns-then-line_at
returns-then-line_at c =
    let e = sym c.line_at.ensures ∙ c.if-line_at.true in
    let r = begin_reach (text "//") c.args.text.now c.args.p _ (omega arith) c.requires (line_starts _ e) c.along.ensures in
    line_past c.args.text.now c.args.p _ _ e r c.to_byte-c.ensures

pub to_pair-c-requires : goal.to_pair-c-requires
to_pair-c-requires c =
    let e = sym c.block_at.ensures ∙ c.if-block_at.true in
    let r = begin_reach (text "/*") c.args.text.now c.args.p _ (omega arith) c.requires (block_starts _ e) c.along-then-block_at.ensures in
    r.within

pub returns-then-block_at : goal.returns-then-block_at
returns-then-block_at c =
    let e = sym c.block_at.ensures ∙ c.if-block_at.true in
    let r = begin_reach (text "/*") c.args.text.now c.args.p _ (omega arith) c.requires (block_starts _ e) c.along-then-block_at.ensures in
    subst (λ (d : Position). PastComment c.args.text.now c.args.p (record { at = d; found = c.to_pair-c.result.found })) (sym c.behind_mark-at.ensures)
    (block_past c.args.text.now c.args.p _ _ e r c.to_pair-c.ensures)

pub returns : goal.returns
returns c =
    (sym c.line_at.ensures ∙ c.if-line_at.false, sym c.block_at.ensures ∙ c.if-block_at.false)
