use mathlib.Core.Path.{sym, ◌∙◌, subst}
use Prim.Native.Nat.{ℕ}
use mathlib.Core.List.{[], ◌∷◌}
use Rattle.bridge.specs.Bridge.{NextAt, Reach}
use Rattle.string_units.proofs.UnitLaws.{no_feed, no_quote, no_opening, stands_escape, stands_dollar, stands_plain, stands_none, none_at, some_at, plain_at}
use Rattle.string_units.proofs.unit_at.Goals as goal

pub returns-in_default : goal.returns-in_default
returns-in_default c =
    stands_none _ (subst (NextAt c.args.text.now c.args.p) c.in_default.is c.look.ensures)

pub returns-then-c-eq-LINE_FEED : goal.returns-then-c-eq-LINE_FEED
returns-then-c-eq-LINE_FEED c =
    let w = subst (NextAt c.args.text.now c.args.p) c.in-Some.is c.look.ensures in
    none_at c.args.text.now c.args.p c.in-Some.q c.in-Some.c w.0 (no_feed _ _ c.if-c-eq-LINE_FEED.true)

pub returns-then-c-eq-QUOTE : goal.returns-then-c-eq-QUOTE
returns-then-c-eq-QUOTE c =
    let w = subst (NextAt c.args.text.now c.args.p) c.in-Some.is c.look.ensures in
    none_at c.args.text.now c.args.p c.in-Some.q c.in-Some.c w.0 (no_quote _ _ c.if-c-eq-QUOTE.true)

pub escape-requires : goal.escape-requires
escape-requires c =
    let w = subst (NextAt c.args.text.now c.args.p) c.in-Some.is c.look.ensures in
    record { within = c.requires; reach = subst (λ (d : ℕ). Reach c.args.text.now c.args.p (d ∷ []) c.in-Some.q) c.if-c-eq-BACKSLASH.true w.0 }

pub returns-then-c-eq-BACKSLASH : goal.returns-then-c-eq-BACKSLASH
returns-then-c-eq-BACKSLASH c =
    let w = subst (NextAt c.args.text.now c.args.p) c.in-Some.is c.look.ensures in
    some_at c.args.text.now c.args.p c.in-Some.q c.in-Some.c w.0 _ _ (stands_escape _ _ c.if-c-eq-BACKSLASH.true) c.escape.ensures

pub returns-then-opens_at : goal.returns-then-opens_at
returns-then-opens_at c =
    let w = subst (NextAt c.args.text.now c.args.p) c.in-Some.is c.look.ensures in
    none_at c.args.text.now c.args.p c.in-Some.q c.in-Some.c w.0 (no_opening _ _ c.if-c-eq-DOLLAR.true (sym c.opens_at.ensures ∙ c.if-opens_at.true))

pub returns-then-c-eq-DOLLAR : goal.returns-then-c-eq-DOLLAR
returns-then-c-eq-DOLLAR c =
    let w = subst (NextAt c.args.text.now c.args.p) c.in-Some.is c.look.ensures in
    plain_at c.args.text.now c.args.p c.in-Some.q c.in-Some.c w.0 _ c.plain.ensures c.requires w.1 (stands_dollar _ _ c.if-c-eq-DOLLAR.true (sym c.opens_at.ensures ∙ c.if-opens_at.false))

pub returns : goal.returns
returns c =
    let w = subst (NextAt c.args.text.now c.args.p) c.in-Some.is c.look.ensures in
    plain_at c.args.text.now c.args.p c.in-Some.q c.in-Some.c w.0 _ c.plain-2.ensures c.requires w.1 (stands_plain _ _ c.if-c-eq-LINE_FEED.false c.if-c-eq-QUOTE.false c.if-c-eq-BACKSLASH.false c.if-c-eq-DOLLAR.false)
