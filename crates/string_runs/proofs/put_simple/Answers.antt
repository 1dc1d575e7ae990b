use Rattle.output.proofs.Buffers.{put_length, put_slice, part_bound}
use Rattle.string_runs.proofs.Rows.{units_plain, wrote_start, wrote_few, wrote_more, wrote_join}
use native.Mathlib.Omega.{arith}
use Rattle.string_runs.proofs.put_simple.Goals as goal

pub loop-at-init : goal.loop-at-init
loop-at-init c =
    (wrote_start c.args.text.now c.args.p c.args.texts.now c.args.used_texts c.requires.within, c.requires.used_texts_bound)

pub past_plain-q-requires : goal.past_plain-q-requires
past_plain-q-requires c =
    record { within = c.loop-at.invariant.0.units.reach.within; stops = record { first = omega arith; second = omega arith; third = omega arith } }

pub put_bytes-part-requires : goal.put_bytes-part-requires
put_bytes-part-requires c =
    let u = units_plain _ _ _ c.loop-at.invariant.0.units.reach.within c.past_plain-q.ensures in
    let w = u.reach.within in
    let f = wrote_few _ _ _ _ _ _ _ c.loop-at.invariant.0 in
    record { part_bound = part_bound c.args.text.now c.loop-at.at.offset c.past_plain-q.result.offset _ (omega (arith, w.size)); at_bound = omega (arith, f.0, f.1, c.loop-at.invariant.1) }

pub put_escapes-w-requires : goal.put_escapes-w-requires
put_escapes-w-requires c =
    let u = units_plain _ _ _ c.loop-at.invariant.0.units.reach.within c.past_plain-q.ensures in
    let y = wrote_more _ _ _ _ _ _ _ c.loop-at.invariant.0 _ _ _ _ u (put_slice c.args.text.now c.loop-at.at.offset c.past_plain-q.result.offset c.put_bytes-part.ensures) in
    let f = wrote_few _ _ _ _ _ _ _ y in
    record { within = y.units.reach.within; used_texts_bound = omega (arith, f.0, f.1, c.loop-at.invariant.1) }

pub shape_of-texts-then-at-to : goal.shape_of-texts-then-at-to
shape_of-texts-then-at-to c =
    let u = units_plain _ _ _ c.loop-at.invariant.0.units.reach.within c.past_plain-q.ensures in
    let y = wrote_more _ _ _ _ _ _ _ c.loop-at.invariant.0 _ _ _ _ u (put_slice c.args.text.now c.loop-at.at.offset c.past_plain-q.result.offset c.put_bytes-part.ensures) in
    let z = wrote_join _ _ _ _ _ _ _ y _ _ _ c.put_escapes-w.ensures in
    put_length _ _ _ _ _ z.made

pub returns-then-at-to : goal.returns-then-at-to
returns-then-at-to c =
    let u = units_plain _ _ _ c.loop-at.invariant.0.units.reach.within c.past_plain-q.ensures in
    let y = wrote_more _ _ _ _ _ _ _ c.loop-at.invariant.0 _ _ _ _ u (put_slice c.args.text.now c.loop-at.at.offset c.past_plain-q.result.offset c.put_bytes-part.ensures) in
    wrote_join _ _ _ _ _ _ _ y _ _ _ c.put_escapes-w.ensures

pub loop-at-smaller : goal.loop-at-smaller
loop-at-smaller c =
    let u = units_plain _ _ _ c.loop-at.invariant.0.units.reach.within c.past_plain-q.ensures in
    omega (arith, u.small, c.put_escapes-w.ensures.units.small, c.put_escapes-w.ensures.units.reach.within.inside)

pub loop-at-preserved : goal.loop-at-preserved
loop-at-preserved c =
    let u = units_plain _ _ _ c.loop-at.invariant.0.units.reach.within c.past_plain-q.ensures in
    let y = wrote_more _ _ _ _ _ _ _ c.loop-at.invariant.0 _ _ _ _ u (put_slice c.args.text.now c.loop-at.at.offset c.past_plain-q.result.offset c.put_bytes-part.ensures) in
    (wrote_join _ _ _ _ _ _ _ y _ _ _ c.put_escapes-w.ensures, c.loop-at.invariant.1)
