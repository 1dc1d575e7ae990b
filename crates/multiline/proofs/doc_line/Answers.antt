-- `walks::token::doc_line` meets its contract. The walk to the line's end gives its part. Assumes nothing.
use Rattle.multiline.specs.Tokens.{slashes}
use Rattle.walks.proofs.Enclosed.{begin_reach}
use Rattle.multiline.proofs.Tokens.{doc_line_at}
use native.Mathlib.Omega.{arith}
use Rattle.multiline.proofs.doc_line.Goals as goal

pub to_byte-c-requires : goal.to_byte-c-requires
to_byte-c-requires c =
    record { within = (begin_reach slashes c.args.text.now c.args.p _ (omega arith) c.requires.within c.requires.offset_value c.along-inner.ensures).within; letter = (omega arith, omega arith) }

pub returns : goal.returns
returns c =
    let r = begin_reach slashes c.args.text.now c.args.p _ (omega arith) c.requires.within c.requires.offset_value c.along-inner.ensures in
    doc_line_at c.args.text.now c.args.p _ _ c.requires.offset_value r c.to_byte-c.ensures
