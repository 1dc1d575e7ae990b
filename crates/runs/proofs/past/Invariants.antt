-- `past` meets its contract. The bytes up to here pass. Assumes nothing.
use Prim.Native.Nat.{◌-◌}
use lib.ListN.{length}
use Rattle.runs.proofs.Runs.{Passed}
use Rattle.runs.proofs.past.Given as goal

abbrev pub invariant-loop-at : goal.invariant-loop-at
invariant-loop-at g l = Passed (λ b r. goal.F-post g l.test b r) l.text l.from l.at

abbrev pub decreases-loop-at : goal.decreases-loop-at
decreases-loop-at g l = length l.text - l.at
