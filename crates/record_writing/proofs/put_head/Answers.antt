use mathlib.Core.Path.{refl}
use mathlib.Core.List.{[], ◌∷◌}
use Rattle.records.specs.Records.{head_bytes, span_bytes}
use Rattle.characters.proofs.Buffers.{sets_more}
use Rattle.record_writing.proofs.put_head.Goals as goal

pub returns : goal.returns
unfolding head_bytes
returns c =
    sets_more c.args.buf.now _ _ c.args.at 1 (c.args.kind ∷ []) (span_bytes c.args.span) refl refl c.put_span.ensures
