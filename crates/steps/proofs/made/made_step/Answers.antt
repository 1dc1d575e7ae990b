-- `made::made_step` meets its contract.
use Rattle.steps.proofs.made.made_step.Goals as goal

pub returns : goal.returns
returns c = rw c.between-span.ensures
