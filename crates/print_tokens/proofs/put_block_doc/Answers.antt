-- `print_tokens::put_block_doc` meets its contract. Assumes nothing.
use mathlib.Core.Path.{◌≡◌, sym, subst}
use mathlib.Core.Bool.{true}
use native.Mathlib.Omega.{arith}
use Rattle.characters.specs.Utf8.{chars_at}
use Rattle.spans.specs.declared.Position.{Position}
use Rattle.bridge.specs.Bridge.{Within}
use Rattle.walks.specs.Openings.{opens_doc}
use Rattle.print_tokens.proofs.Faults.{token_wrong}
use Rattle.print_tokens.proofs.Comments.{part_small, block_placed, block_emits}
use Rattle.print_tokens.proofs.put_block_doc.Goals as goal

pub doc_block-d-requires : goal.doc_block-d-requires
doc_block-d-requires c =
    let e = sym c.at_place.ensures in
    record { within = subst (Within c.args.text.now) e c.requires.within; offset_value = subst (λ (p : Position). opens_doc (chars_at c.args.text.now p.offset) ≡ true) e c.requires.from_value; used_bound = omega arith }

pub returns-then-d-gt0 : goal.returns-then-d-gt0
returns-then-d-gt0 c =
    let b = block_placed c.args.text.now c.args.from _ _ _ _ c.at_place.ensures c.doc_block-d.ensures in
    token_wrong c.args.text.now c.args.from _ _ _ b.one _ _ _ b.written (omega (arith, c.if-d-gt0.true))

pub put_block_doc-requires : goal.put_block_doc-requires
put_block_doc-requires c =
    record { part_len_bound = part_small c.args.text.now _ c.doc_block-d.result.from c.doc_block-d.result.to c.requires.within; at_bound = omega (arith, c.requires.at_bound) }

pub returns : goal.returns
returns c =
    let b = block_placed c.args.text.now c.args.from _ _ _ _ c.at_place.ensures c.doc_block-d.ensures in
    block_emits c.args.text.now c.args.from c.requires.from_value _ _ _ b c.if-d-gt0.false _ _ _ _ c.put_block_doc.ensures
