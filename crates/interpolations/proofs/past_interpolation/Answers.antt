use mathlib.Core.Path.{sym, ◌∙◌, subst}
use Rattle.spans.specs.declared.Position.{Position}
use Rattle.bridge.specs.Bridge.{Within}
use Rattle.bridge.proofs.Reaches.{one_on, within_fits}
use Rattle.interpolations.proofs.InterpLaws.{opening_brace, brace_past, name_past}
use native.Mathlib.Omega.{arith}
use Rattle.interpolations.proofs.past_interpolation.Goals as goal

pub to_byte-c-requires : goal.to_byte-c-requires
to_byte-c-requires c =
    let b = sym c.is_at.ensures ∙ c.if-is_at.true in
    record { within = subst (λ (q : Position). Within c.args.text.now q) (sym c.along.ensures) (opening_brace c.args.text.now c.args.p c.requires.within c.requires.offset_value b).within; letter = (omega arith, omega arith) }

pub behind_mark-requires : goal.behind_mark-requires
behind_mark-requires c =
    within_fits c.args.text.now c.to_byte-c.result.at 1 c.to_byte-c.ensures.reach.within (omega arith)

pub returns-then-is_at : goal.returns-then-is_at
returns-then-is_at c =
    let b = sym c.is_at.ensures ∙ c.if-is_at.true in
    brace_past c.args.text.now c.args.p c.requires.within c.requires.offset_value c.along.result c.behind_mark.result c.to_byte-c.result b c.along.ensures c.to_byte-c.ensures c.behind_mark.ensures

pub name_end-to-requires : goal.name_end-to-requires
name_end-to-requires c =
    let b = sym c.is_at.ensures ∙ c.if-is_at.false in
    let v = (one_on c.args.text.now c.args.p 36 (omega arith) (omega arith) c.requires.within c.requires.offset_value).within.inside in
    v

pub overflow_sub-to : goal.overflow_sub-to
overflow_sub-to c =
    omega arith

pub along-requires-2 : goal.along-requires-2
along-requires-2 c =
    within_fits c.args.text.now c.args.p _ c.requires.within (omega (arith, c.name_end-to.ensures.inside, c.requires.within.size))

pub returns : goal.returns
returns c =
    let b = sym c.is_at.ensures ∙ c.if-is_at.false in
    name_past c.args.text.now c.args.p c.requires.within c.requires.offset_value c.name_end-to.result c.along-2.result b c.name_end-to.ensures c.along-2.ensures
