-- `walks::skip::skip_some` meets its contract. By the first byte. Assumes nothing.
use mathlib.Core.Path.{sym, ◌∙◌, ap, subst}
use native.Mathlib.Omega.{arith}
use Rattle.characters.specs.Space.{is_white}
use Rattle.characters.proofs.Widths.{width_one}
use Rattle.rules.specs.Lexer.{advance}
use Rattle.rules.specs.Lexer as rules
use Rattle.skipping.specs.Skips.{SomeWhite}
use Rattle.bridge.proofs.Reaches.{within_fits}
use Rattle.skipping.proofs.Skips.{gap_nil, gap_some, byte_none, byte_reach, behind_offset, white_gap}
use Rattle.skipping.proofs.skip_some.Goals as goal

pub skip_wide-requires : goal.skip_wide-requires
skip_wide-requires c =
    record { within = c.requires; bound = omega (arith, c.byte_at-b.ensures, c.if-b-ge128.true) }

pub returns-then-b-ge128 : goal.returns-then-b-ge128
returns-then-b-ge128 c = c.skip_wide.ensures

pub returns-then-not-is_white : goal.returns-then-not-is_white
returns-then-not-is_white c =
    let n = ap is_white (sym (c.from-c.ensures ∙ c.byte_at-b.ensures)) ∙ (sym c.is_white.ensures ∙ c.if-not-is_white.true) in
    gap_some _ _ _ (gap_nil _ c.args.p c.requires) (λ _. byte_none _ c.args.p c.requires (omega arith) n)

pub past-q-requires : goal.past-q-requires
past-q-requires c =
    record { fits = within_fits _ c.args.p 1 c.requires (omega arith); n_value = sym (width_one _ (omega (arith, c.from-c.ensures))) }

pub behind_white-requires : goal.behind_white-requires
behind_white-requires c = c.past-q.ensures

pub returns : goal.returns
returns c =
    let e = c.from-c.ensures ∙ c.byte_at-b.ensures in
    let t = ap is_white (sym e) ∙ (sym c.is_white.ensures ∙ c.if-not-is_white.false) in
    let r = byte_reach c.args.text.now c.args.p c.requires (omega arith) c.past-q.result t (c.past-q.ensures ∙ ap (advance c.args.p) e) in
    let g = white_gap c.args.text.now c.args.p c.past-q.result _ r.0 t r.1 in
    let o = behind_offset c.args.text.now c.args.p c.past-q.result _ r.0 in
    let m = r.1 in
    let x = c.behind_white.ensures ∙ ap (rules.skip c.args.p) e in
    subst (SomeWhite c.args.text.now c.args.p) (sym x) (gap_some c.args.text.now c.args.p _ g (λ z. absurd (omega arith)))
