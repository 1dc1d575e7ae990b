use mathlib.Core.Path.{subst}
use Rattle.bridge.proofs.Reaches.{within_fits}
use Rattle.output.proofs.Buffers.{put_length, part_bound}
use Rattle.string_units.specs.Units.{FoundAt}
use Rattle.string_runs.proofs.RunLaws.{made_part}
use Rattle.string_runs.proofs.Rows.{sofar_start, sofar_room, sofar_wrote, sofar_unit, sofar_stop}
use native.Mathlib.Omega.{arith}
use Rattle.string_runs.proofs.run_units.Goals as goal

pub loop-u-init : goal.loop-u-init
loop-u-init c =
    sofar_start c.args.text.now c.args.p c.args.texts.now c.args.errors.now c.args.used_texts c.args.used_errors c.requires.within c.requires.room

pub put_simple-w-requires : goal.put_simple-w-requires
put_simple-w-requires c =
    record { within = c.loop-u.invariant.units.reach.within; used_texts_bound = (sofar_room _ _ _ _ _ _ _ _ _ _ _ c.loop-u.invariant).0 }

pub unit_at-requires : goal.unit_at-requires
unit_at-requires c = c.put_simple-w.ensures.units.reach.within

pub shape_of-texts-in_default : goal.shape_of-texts-in_default
shape_of-texts-in_default c =
    let y = sofar_wrote _ _ _ _ _ _ _ _ _ _ _ c.loop-u.invariant _ _ _ c.put_simple-w.ensures in
    put_length _ _ _ _ _ y.made

pub shape_of-errors-in_default : goal.shape_of-errors-in_default
shape_of-errors-in_default c = put_length _ _ _ _ _ c.loop-u.invariant.noted

pub returns-in_default : goal.returns-in_default
returns-in_default c =
    let y = sofar_wrote c.args.text.now _ _ _ _ _ _ _ _ _ _ c.loop-u.invariant _ _ _ c.put_simple-w.ensures in
    sofar_stop c.args.text.now _ c.put_simple-w.result.at _ _ _ _ _ _ _ _ y (subst (FoundAt c.args.text.now c.put_simple-w.result.at) c.in_default.is c.unit_at.ensures)

pub put_made-made-requires : goal.put_made-made-requires
put_made-made-requires c =
    let y = sofar_wrote c.args.text.now _ _ _ _ _ _ _ _ _ _ c.loop-u.invariant _ _ _ c.put_simple-w.ensures in
    let x = subst (FoundAt c.args.text.now c.put_simple-w.result.at) c.in-Some.is c.unit_at.ensures in
    let v = x.1.reach.within in
    let m = (sofar_room c.args.text.now _ c.put_simple-w.result.at _ _ _ _ _ _ _ _ y).0 in
    record { own_len_bound = part_bound c.args.text.now _ _ _ (omega (arith, v.size)); char = x.1.char; at_bound = omega arith }

pub put_mistake-noted-requires : goal.put_mistake-noted-requires
put_mistake-noted-requires c =
    let y = sofar_wrote c.args.text.now _ _ _ _ _ _ _ _ _ _ c.loop-u.invariant _ _ _ c.put_simple-w.ensures in
    record { fits = within_fits c.args.text.now c.put_simple-w.result.at 1 y.units.reach.within (omega arith); at_bound = (sofar_room c.args.text.now _ c.put_simple-w.result.at _ _ _ _ _ _ _ _ y).1 }

pub loop-u-smaller : goal.loop-u-smaller
loop-u-smaller c =
    let x = subst (FoundAt c.args.text.now c.put_simple-w.result.at) c.in-Some.is c.unit_at.ensures in
    omega (arith, x.1.forth, x.1.reach.within.inside, c.put_simple-w.ensures.units.small)

pub loop-u-preserved : goal.loop-u-preserved
loop-u-preserved c =
    let y = sofar_wrote c.args.text.now _ _ _ _ _ _ _ _ _ _ c.loop-u.invariant _ _ _ c.put_simple-w.ensures in
    let x = subst (FoundAt c.args.text.now c.put_simple-w.result.at) c.in-Some.is c.unit_at.ensures in
    sofar_unit c.args.text.now _ c.put_simple-w.result.at _ _ _ _ _ _ _ _ y _ x _ _ _ _ (made_part c.args.text.now _ _ _ c.put_made-made.ensures) c.put_mistake-noted.ensures
