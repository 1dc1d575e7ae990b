-- `end_at` meets its contract. By the next character. Assumes nothing.
use mathlib.Core.Path.{sym, subst}
use Rattle.spans.specs.declared.Position.{Position}
use Rattle.bridge.specs.Bridge.{placed, Within, NextAt}
use Rattle.print_loop.proofs.Turns.{nothing_left, unexpected_wrong}
use Rattle.print_loop.proofs.end_at.Goals as goal

pub look-requires : goal.look-requires
look-requires c =
    subst (Within c.args.text.now) (sym c.at_place.ensures) c.requires.within

pub returns-in_default : goal.returns-in_default
returns-in_default c =
    let n = subst (λ (q : Position). NextAt c.args.text.now q c.look.result) c.at_place.ensures c.look.ensures in
    nothing_left c.args.text.now c.args.from (subst (NextAt c.args.text.now (placed c.args.from)) c.in_default.is n)

pub returns : goal.returns
returns c =
    let n = subst (λ (q : Position). NextAt c.args.text.now q c.look.result) c.at_place.ensures c.look.ensures in
    let x = subst (NextAt c.args.text.now (placed c.args.from)) c.in-Some.is n in
    unexpected_wrong c.args.text.now c.args.from c.requires.nothing _ _ x.0.chars
