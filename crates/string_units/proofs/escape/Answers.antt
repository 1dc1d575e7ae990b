use mathlib.Core.Path.{sym, ◌∙◌, subst}
use Prim.Native.Nat.{ℕ}
use mathlib.Core.List.{[], ◌∷◌}
use Rattle.cursor.specs.Strings.{StringUnit}
use Rattle.bridge.specs.Bridge.{NextAt, Reach}
use Rattle.string_units.specs.Units.{UnitAt}
use Rattle.bridge.proofs.Values.{value_some, value_none}
use Rattle.string_units.proofs.UnitLaws.{escape_end, two, escape_unicode, escape_char, escape_kept}
use Rattle.string_units.proofs.escape.Goals as goal

pub returns-in_default : goal.returns-in_default
returns-in_default c =
    escape_end c.args.text.now c.args.p c.args.q c.requires.reach (subst (NextAt c.args.text.now c.args.q) c.in_default.is c.look.ensures)

pub unicode-requires : goal.unicode-requires
unicode-requires c =
    let w = subst (NextAt c.args.text.now c.args.q) c.in-Some.is c.look.ensures in
    record { within = c.requires.within; reach = subst (λ (d : ℕ). Reach c.args.text.now c.args.p (92 ∷ d ∷ []) c.in-Some.r) c.if-e-eq-LETTER_U.true (two c.args.text.now c.args.p c.args.q c.requires.reach c.in-Some.e c.in-Some.r w.0 w.1) }

pub returns-then-e-eq-LETTER_U : goal.returns-then-e-eq-LETTER_U
returns-then-e-eq-LETTER_U c =
    let w = subst (NextAt c.args.text.now c.args.q) c.in-Some.is c.look.ensures in
    subst (λ (x : StringUnit). UnitAt c.args.text.now c.args.p x c.unicode.result) (sym (escape_unicode c.args.text.now c.args.p c.args.q c.requires.reach c.in-Some.e c.in-Some.r w.0 w.1 c.if-e-eq-LETTER_U.true)) c.unicode.ensures

pub returns-in_default-escaped : goal.returns-in_default-escaped
returns-in_default-escaped c =
    let w = subst (NextAt c.args.text.now c.args.q) c.in-Some.is c.look.ensures in
    escape_kept c.args.text.now c.args.p c.args.q c.requires.reach c.in-Some.e c.in-Some.r w.0 w.1 c.requires.within.inside c.if-e-eq-LETTER_U.false (value_none _ (sym c.escaped.ensures ∙ c.in_default-escaped.is))

pub returns : goal.returns
returns c =
    let w = subst (NextAt c.args.text.now c.args.q) c.in-Some.is c.look.ensures in
    escape_char c.args.text.now c.args.p c.args.q c.requires.reach c.in-Some.e c.in-Some.r w.0 w.1 _ c.if-e-eq-LETTER_U.false (value_some _ _ (sym c.escaped.ensures ∙ c.in-Some-escaped.is))
