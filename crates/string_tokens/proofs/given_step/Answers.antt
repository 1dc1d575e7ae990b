-- `given_step` meets its contract.
use Rattle.string_tokens.proofs.given_step.Goals as goal

pub returns-in-Outside : goal.returns-in-Outside
returns-in-Outside c = rw c.in-Outside.is

pub returns-in-InString : goal.returns-in-InString
returns-in-InString c = rw c.in-InString.is
