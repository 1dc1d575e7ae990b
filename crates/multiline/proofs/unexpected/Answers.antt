-- `walks::token::unexpected` meets its contract. A character stands there, since one that begins nothing does. Assumes nothing.
use mathlib.Core.Path.{subst}
use Rattle.bridge.specs.Bridge.{NextAt}
use Rattle.multiline.proofs.Tokens.{unexpected_at, unexpected_none}
use Rattle.multiline.proofs.unexpected.Goals as goal

pub returns-in_default : goal.returns-in_default
returns-in_default c =
    unexpected_none c.args.text.now c.args.p c.requires.within c.requires.offset_value (subst (NextAt c.args.text.now c.args.p) c.in_default.is c.look.ensures)

pub returns : goal.returns
returns c =
    let x = subst (NextAt c.args.text.now c.args.p) c.in-Some.is c.look.ensures in
    unexpected_at c.args.text.now c.args.p c.requires.within c.requires.offset_value c.in-Some.c c.in-Some.q x.0 _ _ _ _ _ c.between-span.ensures c.put_error_record-end.ensures
