-- `walks::ahead::stands_at` meets its contract. The invariant: the bytes stand at the place exactly if the rest of them stands here.
use Rattle.walks.proofs.Starts.{Standing}
use Rattle.walks.proofs.ahead.stands_at.Given as goal

abbrev pub invariant-loop-i : goal.invariant-loop-i
invariant-loop-i g l = Standing l.text l.mark l.at l.i
