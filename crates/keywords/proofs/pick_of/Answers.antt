-- `pick_of` meets its contract. Assumes nothing.
use Rattle.keywords.proofs.Laws.{pick_in, pick_out}
use Rattle.keywords.proofs.pick_of.Goals as goal

pub returns-then-i-n : goal.returns-then-i-n
returns-then-i-n c = pick_in _ _ c.if-i-n.true

pub returns-else-i-n : goal.returns-else-i-n
returns-else-i-n c = pick_out _ _ c.if-i-n.false
