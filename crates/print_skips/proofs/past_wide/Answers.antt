-- `past_wide` meets its contract. By the next character. Assumes nothing.
use mathlib.Core.Path.{sym, ◌∙◌, subst}
use native.Mathlib.Omega.{arith}
use Rattle.spans.specs.declared.Position.{Position}
use Rattle.bridge.specs.Bridge.{placed, Within, NextAt}
use Rattle.skipping.proofs.Skips.{stops_at, stops_end}
use Rattle.print_skips.proofs.Passing.{passed_none, white_passed}
use Rattle.print_skips.proofs.past_wide.Goals as goal

pub look-requires : goal.look-requires
look-requires c =
    subst (Within c.args.text.now) (sym c.at_place.ensures) c.requires

pub returns-in_default : goal.returns-in_default
returns-in_default c =
    let n = subst (λ (q : Position). NextAt c.args.text.now q c.look.result) c.at_place.ensures c.look.ensures in
    let e = subst (NextAt c.args.text.now (placed c.args.from)) c.in_default.is n in
    record { passed = passed_none c.args.text.now c.args.from c.requires; stops = λ _. stops_end _ e }

pub returns-then-is_white : goal.returns-then-is_white
returns-then-is_white c =
    let n = subst (λ (q : Position). NextAt c.args.text.now q c.look.result) c.at_place.ensures c.look.ensures in
    let x = subst (NextAt c.args.text.now (placed c.args.from)) c.in-Some.is n in
    let h = x.1 in
    record {
      passed = white_passed c.args.text.now c.args.from c.in-Some.c c.in-Some.q x.0 h (sym c.is_white.ensures ∙ c.if-is_white.true);
      stops = λ e. absurd (omega arith);
    }

pub returns : goal.returns
returns c =
    let n = subst (λ (q : Position). NextAt c.args.text.now q c.look.result) c.at_place.ensures c.look.ensures in
    let x = subst (NextAt c.args.text.now (placed c.args.from)) c.in-Some.is n in
    record {
      passed = passed_none c.args.text.now c.args.from c.requires;
      stops = λ _. stops_at c.args.text.now (placed c.args.from) c.in-Some.q c.in-Some.c x.0 (sym c.is_white.ensures ∙ c.if-is_white.false);
    }
