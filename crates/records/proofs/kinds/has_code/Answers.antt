use borrow.Author.Tests.{eq-eqb, ne_eqb}
use Rattle.records.specs.Kinds.{has_code}
use Rattle.records.proofs.kinds.has_code.Goals as goal

pub returns-then-kind-eq-UNEXPECTED_CHARACTER : goal.returns-then-kind-eq-UNEXPECTED_CHARACTER
unfolding has_code
returns-then-kind-eq-UNEXPECTED_CHARACTER c = simp (eq-eqb _ 1 c.if-kind-eq-UNEXPECTED_CHARACTER.true)

pub returns-else-kind-eq-UNEXPECTED_CHARACTER : goal.returns-else-kind-eq-UNEXPECTED_CHARACTER
unfolding has_code
returns-else-kind-eq-UNEXPECTED_CHARACTER c = simp (ne_eqb _ 1 c.if-kind-eq-UNEXPECTED_CHARACTER.false)
