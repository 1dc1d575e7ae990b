-- `text_parts::units::unit_step` meets its contract. Assumes nothing.
use mathlib.Core.Path.{sym, subst}
use Rattle.spans.specs.declared.Position.{Position}
use Rattle.bridge.specs.Bridge.{placed, Within}
use Rattle.string_units.specs.Units.{FoundAt}
use Rattle.text_parts.proofs.Strings.{none_on, unit_on}
use Rattle.text_parts.proofs.units.unit_step.Goals as goal

pub unit_at-requires : goal.unit_at-requires
unit_at-requires c =
    subst (Within c.args.text.now) (sym c.at_place.ensures) c.requires

pub returns-in_default : goal.returns-in_default
returns-in_default c =
    let n = subst (λ (q : Position). FoundAt c.args.text.now q c.unit_at.result) c.at_place.ensures c.unit_at.ensures in
    none_on c.args.text.now c.args.from (subst (FoundAt c.args.text.now (placed c.args.from)) c.in_default.is n)

pub returns : goal.returns
returns c =
    let n = subst (λ (q : Position). FoundAt c.args.text.now q c.unit_at.result) c.at_place.ensures c.unit_at.ensures in
    unit_on c.args.text.now c.args.from _ _ _ (subst (FoundAt c.args.text.now (placed c.args.from)) c.in-Some.is n) c.part_of.ensures c.is_some.ensures
