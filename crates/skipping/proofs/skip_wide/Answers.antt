-- `walks::skip::skip_wide` meets its contract. From the beginning to where the loop stands nothing is yielded. Assumes nothing.
use mathlib.Core.Path.{◌≡◌, sym, ◌∙◌, ap, subst}
use Prim.Native.Nat.{ℕ}
use lib.ListN.{get_or}
use native.Mathlib.Omega.{arith}
use Rattle.characters.specs.Space.{is_white}
use Rattle.characters.specs.Utf8.{chars_at}
use Rattle.rules.specs.Scan.{next}
use Rattle.bridge.specs.Bridge.{NextAt}
use Rattle.skipping.proofs.Skips.{gap_nil, gap_join, gap_some, wide_gap, stops_at, stops_end}
use Rattle.skipping.proofs.skip_wide.Goals as goal

pub loop-at-init : goal.loop-at-init
loop-at-init c = gap_nil _ _ c.requires.within

pub returns-then-byte_at-lt128 : goal.returns-then-byte_at-lt128
returns-then-byte_at-lt128 c =
    gap_some c.args.text.now _ _ c.loop-at.invariant (λ e.
    let g : get_or c.args.text.now c.loop-at.at.offset 0 ≡ get_or c.args.text.now c.args.p.offset 0 = ap (λ (k : ℕ). get_or c.args.text.now k 0) e in
    absurd (omega (arith, c.byte_at.ensures, c.if-byte_at-lt128.true, c.requires.bound)))

pub look-requires : goal.look-requires
look-requires c = c.loop-at.invariant.within

pub returns-in_default : goal.returns-in_default
returns-in_default c =
    let n = subst (NextAt c.args.text.now c.loop-at.at) c.in_default.is c.look.ensures in
    gap_some c.args.text.now _ _ c.loop-at.invariant (λ e. stops_end _ (ap (chars_at c.args.text.now) (sym e) ∙ n))

pub returns-then-not-is_white : goal.returns-then-not-is_white
returns-then-not-is_white c =
    let w = subst (NextAt c.args.text.now c.loop-at.at) c.in-Some.is c.look.ensures in
    let n = stops_at c.args.text.now c.loop-at.at c.in-Some.q c.in-Some.c w.0 (sym c.is_white.ensures ∙ c.if-not-is_white.true) in
    gap_some c.args.text.now _ _ c.loop-at.invariant (λ e. ap (λ (i : ℕ). next is_white (chars_at c.args.text.now i)) (sym e) ∙ n)

pub loop-at-smaller : goal.loop-at-smaller
loop-at-smaller c =
    let w = subst (NextAt c.args.text.now c.loop-at.at) c.in-Some.is c.look.ensures in
    omega (arith, w.1, w.0.within.inside)

pub loop-at-preserved : goal.loop-at-preserved
loop-at-preserved c =
    let w = subst (NextAt c.args.text.now c.loop-at.at) c.in-Some.is c.look.ensures in
    let t = sym c.is_white.ensures ∙ c.if-not-is_white.false in
    gap_join c.args.text.now _ c.loop-at.at _ c.loop-at.invariant (wide_gap c.args.text.now c.loop-at.at c.in-Some.q c.in-Some.c w.0 (omega (arith, c.byte_at.ensures)) t w.1)
