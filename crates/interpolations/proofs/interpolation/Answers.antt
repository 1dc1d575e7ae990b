use lib.Seq.{length-slice}
use Rattle.output.proofs.Buffers.{part_bound, put_slice}
use Rattle.interpolations.proofs.InterpLaws.{past_forth, interpolation_at_lem}
use native.Mathlib.Omega.{arith}
use Rattle.interpolations.proofs.interpolation.Goals as goal

pub slice_bounds-put_bytes-count : goal.slice_bounds-put_bytes-count
slice_bounds-put_bytes-count c = past_forth c.args.text.now c.args.p c.requires.within c.past_interpolation-c.result c.past_interpolation-c.ensures

pub slice_bounds-put_bytes-start : goal.slice_bounds-put_bytes-start
slice_bounds-put_bytes-start c =
    omega (arith, past_forth c.args.text.now c.args.p c.requires.within c.past_interpolation-c.result c.past_interpolation-c.ensures, c.past_interpolation-c.ensures.reach.within.inside)

pub put_bytes-part-requires : goal.put_bytes-part-requires
put_bytes-part-requires c =
    record { part_bound = part_bound c.args.text.now c.args.p.offset c.past_interpolation-c.result.at.offset _ (omega (arith, c.past_interpolation-c.ensures.reach.within.size)); at_bound = omega (arith, c.requires.used_texts_bound) }

pub put_brace-end-requires : goal.put_brace-end-requires
put_brace-end-requires c =
    let l = length-slice c.args.p.offset c.past_interpolation-c.result.at.offset c.args.text.now c.past_interpolation-c.ensures.reach.within.inside in
    let w = put_slice c.args.text.now c.args.p.offset c.past_interpolation-c.result.at.offset c.put_bytes-part.ensures in
    omega (arith, w.place, l, c.past_interpolation-c.ensures.reach.within.inside, c.past_interpolation-c.ensures.reach.within.size, c.requires.used_texts_bound)

pub returns : goal.returns
returns c =
    interpolation_at_lem c.args.text.now c.args.p c.requires.within c.past_interpolation-c.result c.past_interpolation-c.ensures c.args.start _ _ _ _ _ _ _ _ _ _ c.between.result c.between.ensures (put_slice c.args.text.now c.args.p.offset c.past_interpolation-c.result.at.offset c.put_bytes-part.ensures) c.put_brace-end.ensures c.put_open-noted.ensures
