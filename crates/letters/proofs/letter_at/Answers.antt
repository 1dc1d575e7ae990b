-- `letter_at` meets its contract.
use mathlib.Core.Path.{◌≡◌, refl, sym, ◌∙◌, ap, subst}
use Rattle.std.specs.Prelude.{Err}
use Rattle.std.proofs.lemmas.Result.{err_from_is_err_and, IfErr-at_err}
use Rattle.characters.specs.Utf8.{chars_at}
use Rattle.spans.specs.declared.Position.{Position}
use Rattle.bridge.specs.Bridge.{NextAt}
use Rattle.letters.specs.Letters.{LetterAt}
use Rattle.letters.proofs.LetterLaws.{char_bound, ends_now, ends_behind, letter_plain, back_two, letter_behind}
use Rattle.letters.proofs.letter_at.Goals as goal

pub returns-in_err-c : goal.returns-in_err-c
returns-in_err-c c =
    let x = err_from_is_err_and c.from_residual.result c.from_residual.ensures.1 in
    let d = rw c.in_err-c.ensures.ok_part at c.in_err-c.ensures.value in
    let e : c.from_residual.result ≡ Err c.args.p = cc (x.1, x.2, d) in
    subst (LetterAt c.args.text.now c.args.p) (sym e)
    (ends_now c.args.text.now c.args.p c.requires (subst (NextAt c.args.text.now c.args.p) c.in_err-c.ensures.ok_part c.look.ensures))

pub returns-in_err-e : goal.returns-in_err-e
returns-in_err-e c =
    let x = err_from_is_err_and c.from_residual-in_err-e.result c.from_residual-in_err-e.ensures.1 in
    let d = rw c.in_err-e.ensures.ok_part at c.in_err-e.ensures.value in
    let q = IfErr-at_err (λ (p : Position). c.in_err-e.field-0.0 ≡ p) d refl in
    let e : c.from_residual-in_err-e.result ≡ Err c.in_ok-c.q = x.1 ∙ ap Err (x.2 ∙ q) in
    let w = subst (NextAt c.args.text.now c.args.p) c.in_ok-c.ensures.ok_part c.look.ensures in
    subst (LetterAt c.args.text.now c.args.p) (sym e)
    (ends_behind c.args.text.now c.args.p c.in_ok-c.q c.in_ok-c.c w.0 c.if-c-eq-BACKSLASH.true
    (subst (NextAt c.args.text.now c.in_ok-c.q) c.in_err-e.ensures.ok_part c.look-then-c-eq-BACKSLASH.ensures))

pub escape-requires : goal.escape-requires
escape-requires c =
    let w = subst (NextAt c.args.text.now c.args.p) c.in_ok-c.ensures.ok_part c.look.ensures in
    let v = subst (NextAt c.args.text.now c.in_ok-c.q) c.in_ok-e.ensures.ok_part c.look-then-c-eq-BACKSLASH.ensures in
    record { within = c.requires; e_bound = char_bound c.args.text.now c.in_ok-c.q.offset c.in_ok-e.e (chars_at c.args.text.now c.in_ok-e.r.offset) v.0.chars; reach = back_two c.args.text.now c.args.p c.in_ok-c.q c.in_ok-c.c w.0 c.in_ok-e.e c.in_ok-e.r v.0 c.if-c-eq-BACKSLASH.true }

pub returns-then-c-eq-BACKSLASH : goal.returns-then-c-eq-BACKSLASH
returns-then-c-eq-BACKSLASH c =
    let w = subst (NextAt c.args.text.now c.args.p) c.in_ok-c.ensures.ok_part c.look.ensures in
    let v = subst (NextAt c.args.text.now c.in_ok-c.q) c.in_ok-e.ensures.ok_part c.look-then-c-eq-BACKSLASH.ensures in
    letter_behind c.args.text.now c.args.p c.in_ok-c.q c.in_ok-c.c w.0 c.in_ok-e.e c.in_ok-e.r v.0 c.if-c-eq-BACKSLASH.true c.escape.result c.escape.ensures

pub returns : goal.returns
returns c =
    let w = subst (NextAt c.args.text.now c.args.p) c.in_ok-c.ensures.ok_part c.look.ensures in
    letter_plain c.args.text.now c.args.p c.in_ok-c.q c.in_ok-c.c w.0 c.requires w.1 c.if-c-eq-BACKSLASH.false
