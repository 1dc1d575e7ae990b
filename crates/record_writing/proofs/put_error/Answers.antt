use mathlib.Core.Path.{sym, ◌∙◌}
use Rattle.records.proofs.KindLaws.{length_code, length_bare}
use Rattle.records.proofs.Bytes.{error_code, error_bare}
use native.Mathlib.Omega.{arith}
use Rattle.record_writing.proofs.put_error.Goals as goal

pub put_head-requires : goal.put_head-requires
put_head-requires c = omega (arith, length_code _ (sym c.has_code.ensures ∙ c.if-has_code.true))

pub put32-requires : goal.put32-requires
put32-requires c = omega (arith, length_code _ (sym c.has_code.ensures ∙ c.if-has_code.true), c.put_head.auto.buf)

pub returns-then-has_code : goal.returns-then-has_code
returns-then-has_code c = (omega (arith, length_code _ (sym c.has_code.ensures ∙ c.if-has_code.true)), error_code _ _ _ _ _ _ _ (sym c.has_code.ensures ∙ c.if-has_code.true) c.put_head.ensures c.put32.ensures)

pub put_head-requires-2 : goal.put_head-requires-2
put_head-requires-2 c = omega (arith, length_bare _ (sym c.has_code.ensures ∙ c.if-has_code.false))

pub returns : goal.returns
returns c = (omega (arith, length_bare _ (sym c.has_code.ensures ∙ c.if-has_code.false)), error_bare _ _ _ _ _ _ (sym c.has_code.ensures ∙ c.if-has_code.false) c.put_head-2.ensures)
