use mathlib.Core.Path.{refl}
use mathlib.Core.List.{◌++◌}
use Rattle.records.specs.Records.{le32, pair_bytes, span_bytes}
use Rattle.characters.proofs.Buffers.{sets_more}
use Rattle.record_writing.proofs.put_span.Goals as goal

pub returns : goal.returns
unfolding span_bytes pair_bytes le32
returns c =
    sets_more c.args.buf.now _ _ c.args.at 16 (pair_bytes c.args.span.start c.args.span.end ++ pair_bytes c.args.span.start_line c.args.span.start_col) (pair_bytes c.args.span.end_line c.args.span.end_col) refl
    (sets_more c.args.buf.now _ _ c.args.at 8 (pair_bytes c.args.span.start c.args.span.end) (pair_bytes c.args.span.start_line c.args.span.start_col) refl
    c.put_pair.ensures c.put_pair-2.ensures)
    c.put_pair-3.ensures
