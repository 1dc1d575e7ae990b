-- `output::put_byte` meets its contract. Assumes nothing.
use mathlib.Core.Path.{refl}
use native.Mathlib.Omega.{arith}
use Rattle.output.proofs.Buffers.{byte_outside}
use Rattle.output.proofs.put_byte.Goals as goal

pub returns : goal.returns
returns c = byte_outside _ _ _ _ (omega arith) refl
