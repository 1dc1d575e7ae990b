use mathlib.Core.Path.{refl}
use Rattle.records.specs.Records.{le32, pair_bytes}
use Rattle.characters.proofs.Buffers.{sets_more}
use Rattle.record_writing.proofs.put_pair.Goals as goal

pub returns : goal.returns
unfolding pair_bytes le32
returns c =
    sets_more c.args.buf.now _ _ c.args.at 4 (le32 c.args.a) (le32 c.args.b) refl c.put32.ensures c.put32-2.ensures
