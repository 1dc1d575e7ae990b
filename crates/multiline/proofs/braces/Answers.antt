-- `walks::token::braces` meets its contract. The walk from behind the brace gives its end. Assumes nothing.
use Rattle.multiline.specs.Tokens.{dollar_brace}
use Rattle.walks.proofs.Enclosed.{begin_reach}
use Rattle.multiline.proofs.Tokens.{braces_at}
use native.Mathlib.Omega.{arith}
use Rattle.multiline.proofs.braces.Goals as goal

pub to_byte-c-requires : goal.to_byte-c-requires
to_byte-c-requires c =
    record { within = (begin_reach dollar_brace c.args.text.now c.args.p _ (omega arith) c.requires.within c.requires.offset_value c.along.ensures).within; letter = (omega arith, omega arith) }

pub returns : goal.returns
returns c =
    let r = begin_reach dollar_brace c.args.text.now c.args.p _ (omega arith) c.requires.within c.requires.offset_value c.along.ensures in
    braces_at c.args.text.now c.args.p _ _ _ _ _ _ _ c.requires.offset_value r c.to_byte-c.ensures c.behind_mark-at.ensures c.put_bytes-end.ensures
