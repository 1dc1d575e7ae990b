-- `walks::walk::behind_mark` meets its contract. By whether the mark was found. Assumes nothing.
use Rattle.walks.specs.Walks.{behind_mark}
use Rattle.walks.proofs.walk.behind_mark.Goals as goal

pub returns-then-c : goal.returns-then-c
unfolding behind_mark
returns-then-c c = rw c.if-c.true c.along.ensures

pub returns : goal.returns
unfolding behind_mark
returns c = rw c.if-c.false
