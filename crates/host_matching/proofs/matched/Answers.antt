-- `matched` meets its contract.
use Rattle.refusals.proofs.Answers.{passed_on}
use Rattle.host_matching.proofs.Unknown.{match_unknown}
use Rattle.host_matching.proofs.matched.Goals as goal

-- A kind over 125.
pub returns-in_err-byte : goal.returns-in_err-byte
returns-in_err-byte c = rw (passed_on _ _ c.from_residual.ensures) (match_unknown _ _ _ _ c.in_err-byte.ensures)

pub returns : goal.returns
returns c = rw c.in_ok-byte.ensures at c.match_kind.ensures
