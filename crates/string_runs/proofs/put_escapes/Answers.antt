use mathlib.Core.Path.{◌∙◌, sym}
use Rattle.string_runs.proofs.Rows.{units_short, wrote_start, wrote_more}
use native.Mathlib.Omega.{arith}
use Rattle.string_runs.proofs.put_escapes.Goals as goal

pub loop-v-init : goal.loop-v-init
loop-v-init c =
    (wrote_start c.args.text.now c.args.p c.args.texts.now c.args.used_texts c.requires.within, c.requires.used_texts_bound)

pub loop-v-smaller : goal.loop-v-smaller
loop-v-smaller c =
    let u = units_short c.args.text.now c.loop-v.at c.loop-v.invariant.0.units.reach.within _ (sym c.short_escape.ensures ∙ c.in-Some.is) _ c.along-at.ensures in
    omega (arith, u.small, u.reach.within.inside)

pub loop-v-preserved : goal.loop-v-preserved
loop-v-preserved c =
    let u = units_short c.args.text.now c.loop-v.at c.loop-v.invariant.0.units.reach.within _ (sym c.short_escape.ensures ∙ c.in-Some.is) _ c.along-at.ensures in
    (wrote_more c.args.text.now _ _ _ _ _ _ c.loop-v.invariant.0 _ _ _ _ u c.put_byte-made.ensures, c.loop-v.invariant.1)
