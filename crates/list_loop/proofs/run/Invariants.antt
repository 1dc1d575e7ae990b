-- `run` meets its contract: what is still to be written after each turn completes what the script takes, and fewer tokens are left. Assumes nothing.
use lib.ListN.{length}
use Rattle.steps.specs.Step.{rest}
use Rattle.list_loop.proofs.Loop.{Going}
use Rattle.list_loop.proofs.run.Given as goal

abbrev pub invariant-loop-t : goal.invariant-loop-t
invariant-loop-t l = Going l.script.bytes.now l.text l.initial.tokens l.initial.texts l.initial.errors l.tokens l.texts l.errors l.c l.u

abbrev pub decreases-loop-t : goal.decreases-loop-t
decreases-loop-t l = length (rest l.text l.c).tokens
