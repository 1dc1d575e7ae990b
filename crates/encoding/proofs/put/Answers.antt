-- `encoding::put` meets its contract. Assumes nothing.
use native.Mathlib.Omega.{arith}
use Rattle.characters.proofs.Buffers.{sets_part}
use Rattle.encoding.proofs.put.Goals as goal

pub returns : goal.returns
returns g c = sets_part _ _ _ _ _ c.copy_from_slice.ensures.after (omega arith) (omega arith)
