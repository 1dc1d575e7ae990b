use mathlib.Core.Path.{sym, ◌∙◌}
use Rattle.records.proofs.KindLaws.{length_text, length_plain, record_least}
use Rattle.records.proofs.Bytes.{token_text_lem, token_plain}
use native.Mathlib.Omega.{arith}
use Rattle.record_writing.proofs.put_token.Goals as goal

pub put_head-requires : goal.put_head-requires
put_head-requires c = omega (arith, record_least c.args.r.kind)

pub put_pair-requires : goal.put_pair-requires
put_pair-requires c = omega (arith, length_text _ (sym c.has_text.ensures ∙ c.if-has_text.true), c.put_head.auto.buf)

pub returns-then-has_text : goal.returns-then-has_text
returns-then-has_text c = (omega (arith, length_text _ (sym c.has_text.ensures ∙ c.if-has_text.true)), token_text_lem _ _ _ _ _ _ _ _ (sym c.has_text.ensures ∙ c.if-has_text.true) c.put_head.ensures c.put_pair.ensures)

pub returns : goal.returns
returns c = (omega (arith, length_plain _ (sym c.has_text.ensures ∙ c.if-has_text.false)), token_plain _ _ _ _ _ _ _ (sym c.has_text.ensures ∙ c.if-has_text.false) c.put_head.ensures)
