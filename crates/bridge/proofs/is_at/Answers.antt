-- `is_at` meets its contract. Assumes nothing.
use mathlib.Core.Path.{sym}
use Rattle.bridge.specs.Bridge.{exactly}
use Rattle.bridge.proofs.Tests.{low_is}
use Rattle.bridge.proofs.Bytes.{byte_next}
use Rattle.bridge.proofs.is_at.Goals as goal

pub returns : goal.returns
returns c =
    rw c.byte_at.ensures (sym (byte_next (exactly c.args.b) (low_is 1 c.args.b c.requires.0 c.requires.1) c.args.text.now c.args.at))
