-- `comment_at` meets its contract. By the mark that stands there. Assumes nothing.
use mathlib.Core.Path.{◌≡◌, refl, sym, ◌∙◌, ap, subst}
use mathlib.Core.Bool.{true}
use mathlib.Core.List.{List}
use Prim.Native.Nat.{ℕ}
use borrow.Author.Tests.{not-true, not-false}
use Rattle.characters.specs.Utf8.{chars_at}
use native.Mathlib.Omega.{arith}
use Rattle.spans.specs.declared.Position.{Position}
use Rattle.rules.specs.Text.{text}
use Rattle.bridge.specs.Bridge.{placed, Within, Fits, onward}
use Rattle.bridge.proofs.Reaches.{within_fits}
use Rattle.walks.proofs.Enclosed.{begin_reach}
use Rattle.walks.specs.Openings.{opens_block}
use Rattle.walks.specs.declared.Closing.{Closing}
use Rattle.walks.specs.Walks.{star_slash, UpToAt, behind_mark}
use Rattle.skipping.specs.Skips.{PastComment}
use Rattle.skipping.proofs.Comments.{line_starts, block_starts, line_past, block_past}
use Rattle.print_skips.proofs.Passing.{comment_wrong, comment_passed}
use Rattle.print_skips.proofs.comment_at.Goals as goal

pub along-requires : goal.along-requires
along-requires c =
    subst (λ (p : Position). Fits p 2) (sym c.at_place.ensures) (within_fits c.args.text.now (placed c.args.at) 2 c.requires (omega arith))

pub to_byte-c-requires : goal.to_byte-c-requires
to_byte-c-requires c =
    let e = sym c.line_at.ensures ∙ c.if-line_at.true in
    let m = c.along.ensures ∙ ap (λ (q : Position). onward q 2) c.at_place.ensures in
    let r = begin_reach (text "//") c.args.text.now (placed c.args.at) _ (omega arith) c.requires (line_starts _ e) m in
    record { within = r.within; letter = (omega arith, omega arith) }

pub returns-then-line_at : goal.returns-then-line_at
returns-then-line_at c =
    let e = sym c.line_at.ensures ∙ c.if-line_at.true in
    let m = c.along.ensures ∙ ap (λ (q : Position). onward q 2) c.at_place.ensures in
    let r = begin_reach (text "//") c.args.text.now (placed c.args.at) _ (omega arith) c.requires (line_starts _ e) m in
    comment_passed c.args.text.now c.args.at _ (line_past c.args.text.now (placed c.args.at) _ _ e r c.to_byte-c.ensures) refl

pub along-requires-then-block_at : goal.along-requires-then-block_at
along-requires-then-block_at c =
    subst (λ (p : Position). Fits p 2) (sym c.at_place-then-block_at.ensures) (within_fits c.args.text.now (placed c.args.at) 2 c.requires (omega arith))

pub to_pair-c-requires : goal.to_pair-c-requires
to_pair-c-requires c =
    let e = sym c.block_at.ensures ∙ c.if-block_at.true in
    let m = c.along-then-block_at.ensures ∙ ap (λ (q : Position). onward q 2) c.at_place-then-block_at.ensures in
    (begin_reach (text "/*") c.args.text.now (placed c.args.at) _ (omega arith) c.requires (block_starts _ e) m).within

-- The comment that was passed.
block : (s : List ℕ) (at : ℕ) (m : Position) (r : Closing) → Within s (placed at) → opens_block (chars_at s at) ≡ true → m ≡ onward (placed at) 2
    → UpToAt star_slash s m r → PastComment s (placed at) (record { at = behind_mark r 2; found = r.found })
block s at m r w e q u =
    let x = begin_reach (text "/*") s (placed at) m (omega arith) w (block_starts _ e) q in
    block_past s (placed at) _ _ e x u

pub returns-then-open : goal.returns-then-open
returns-then-open c =
    let e = sym c.block_at.ensures ∙ c.if-block_at.true in
    let m = c.along-then-block_at.ensures ∙ ap (λ (q : Position). onward q 2) c.at_place-then-block_at.ensures in
    comment_wrong c.args.text.now c.args.at _ (block c.args.text.now c.args.at _ _ c.requires e m c.to_pair-c.ensures) (not-true _ c.if-open.true)

pub returns-then-block_at : goal.returns-then-block_at
returns-then-block_at c =
    let e = sym c.block_at.ensures ∙ c.if-block_at.true in
    let m = c.along-then-block_at.ensures ∙ ap (λ (q : Position). onward q 2) c.at_place-then-block_at.ensures in
    rw c.behind_mark-q.ensures (comment_passed c.args.text.now c.args.at _ (block c.args.text.now c.args.at _ _ c.requires e m c.to_pair-c.ensures) (not-false _ c.if-open.false))

pub returns : goal.returns
returns c =
    (sym c.line_at.ensures ∙ c.if-line_at.false, sym c.block_at.ensures ∙ c.if-block_at.false)
