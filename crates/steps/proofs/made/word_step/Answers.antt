-- `made::word_step` meets its contract.
use Rattle.steps.proofs.made.word_step.Goals as goal

pub returns : goal.returns
returns c = rw (c.between-span.ensures, c.along.ensures, c.along-at.ensures)
