use native.Mathlib.Omega.{arith}
use Rattle.record_reading.specs.Reading.{num32}
use Rattle.record_reading.proofs.read.get32.Goals as goal

pub returns : goal.returns
unfolding num32
returns c = (c.from_le_bytes.ensures, omega arith)
