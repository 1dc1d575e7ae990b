use mathlib.Core.Path.{ap, ◌∙◌}
use native.Mathlib.Omega.{arith}
use lib.ListN.{take}
use Rattle.records.specs.Records.{le32}
use Rattle.characters.proofs.Buffers.{sets_part}
use Rattle.record_writing.proofs.put32.Goals as goal

pub returns : goal.returns
unfolding le32
returns c =
    sets_part c.args.buf.now _ (le32 c.args.v) c.args.at _ (c.copy_from_slice.ensures.after ∙ ap (take 4) c.to_le_bytes-bytes.ensures) (omega arith) (omega arith)
