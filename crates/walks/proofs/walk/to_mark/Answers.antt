-- `walks::walk::to_mark` meets its contract. Whatever ends the walk from where the loop stands ends it from its beginning. Assumes nothing.
use mathlib.Core.Path.{subst}
use Rattle.bridge.specs.Bridge.{NextAt}
use Rattle.walks.proofs.Walks.{walking_on, upto_end, upto_stop, upto_more}
use Rattle.walks.proofs.walk.to_mark.Goals as goal

pub returns-then-stands : goal.returns-then-stands
returns-then-stands g c ms tells =
    let y = walking_on c.args.first ms c.args.text.now _ c.loop-at.at (c.loop-at.invariant.1 ms tells) c.past_plain-at.result c.past_plain-at.ensures in
    y.1 _ (upto_stop c.args.first ms c.args.text.now c.past_plain-at.result _ (tells _ _ c.stands.ensures) c.if-stands.true y.0)

pub returns-in_default : goal.returns-in_default
returns-in_default g c ms tells =
    let y = walking_on c.args.first ms c.args.text.now _ c.loop-at.at (c.loop-at.invariant.1 ms tells) c.past_plain-at.result c.past_plain-at.ensures in
    y.1 _ (upto_end c.args.first ms c.args.text.now c.past_plain-at.result y.0 (subst (NextAt c.args.text.now c.past_plain-at.result) c.in_default.is c.look.ensures))

pub loop-at-preserved : goal.loop-at-preserved
loop-at-preserved g c =
    let w = subst (NextAt c.args.text.now c.past_plain-at.result) c.in-Some.is c.look.ensures in (
      w.0.within,
      λ ms tells.
          let y = walking_on c.args.first ms c.args.text.now _ c.loop-at.at (c.loop-at.invariant.1 ms tells) c.past_plain-at.result c.past_plain-at.ensures in
          (w.0.within, λ z x. y.1 z (upto_more c.args.first ms c.args.text.now c.past_plain-at.result _ (tells _ _ c.stands.ensures) c.if-stands.false _ _ w.0 z x)),
    )
