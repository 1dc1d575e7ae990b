-- `walks::token::doc_block` meets its contract. The walk from behind its mark gives its part and its end. Assumes nothing.
use Rattle.rules.specs.Text.{text}
use Rattle.walks.proofs.Openings.{doc_starts}
use Rattle.walks.proofs.Enclosed.{begin_reach}
use Rattle.multiline.proofs.Tokens.{doc_block_at}
use native.Mathlib.Omega.{arith}
use Rattle.multiline.proofs.doc_block.Goals as goal

pub to_pair-c-requires : goal.to_pair-c-requires
to_pair-c-requires c =
    (begin_reach (text "/**") c.args.text.now c.args.p _ (omega arith) c.requires.within (doc_starts _ c.requires.offset_value) c.along-inner.ensures).within

pub returns : goal.returns
returns c =
    let r = begin_reach (text "/**") c.args.text.now c.args.p _ (omega arith) c.requires.within (doc_starts _ c.requires.offset_value) c.along-inner.ensures in
    doc_block_at c.args.text.now c.args.p _ _ _ _ _ _ _ c.requires.offset_value r c.to_pair-c.ensures c.behind_mark-at.ensures c.put_open-end.ensures
