-- `print_tokens::put_line_doc` meets its contract. Assumes nothing.
use mathlib.Core.Path.{◌≡◌, sym, subst}
use mathlib.Core.Bool.{true}
use native.Mathlib.Omega.{arith}
use Rattle.characters.specs.Utf8.{chars_at}
use Rattle.spans.specs.declared.Position.{Position}
use Rattle.rules.specs.Scan.{starts_with}
use Rattle.bridge.specs.Bridge.{Within}
use Rattle.multiline.specs.Tokens.{slashes, DocLineAt}
use Rattle.print_tokens.proofs.Comments.{part_small, part_feedless, line_emits}
use Rattle.print_tokens.proofs.put_line_doc.Goals as goal

pub doc_line-d-requires : goal.doc_line-d-requires
doc_line-d-requires c =
    let e = sym c.at_place.ensures in
    record { within = subst (Within c.args.text.now) e c.requires.within; offset_value = subst (λ (p : Position). starts_with slashes (chars_at c.args.text.now p.offset) ≡ true) e c.requires.from_value }

pub put_line_doc-requires : goal.put_line_doc-requires
put_line_doc-requires c =
    let l = subst (λ (p : Position). DocLineAt c.args.text.now p c.doc_line-d.result) c.at_place.ensures c.doc_line-d.ensures in
    record { part_len_bound = part_small c.args.text.now _ c.doc_line-d.result.from c.doc_line-d.result.to c.requires.within; part_value = part_feedless c.args.text.now c.args.from c.requires.from_value c.doc_line-d.result l; at_bound = omega (arith, c.requires.at_bound) }

pub returns : goal.returns
returns c =
    let l = subst (λ (p : Position). DocLineAt c.args.text.now p c.doc_line-d.result) c.at_place.ensures c.doc_line-d.ensures in
    line_emits c.args.text.now c.args.from c.requires.from_value c.doc_line-d.result l _ _ _ _ c.put_line_doc.ensures
