-- `print_strings::put_interpolation` meets its contract. Assumes nothing.
use mathlib.Core.Path.{◌≡◌, subst}
use mathlib.Core.List.{List}
use Prim.Native.Nat.{ℕ}
use native.Mathlib.Omega.{arith}
use borrow.Author.Tests.{not-true, not-false}
use Rattle.spans.specs.declared.Position.{Position}
use Rattle.bridge.specs.Bridge.{placed}
use Rattle.walks.specs.declared.Closing.{Closing}
use Rattle.output.proofs.Buffers.{part_bound, put_slice}
use Rattle.interpolations.specs.Interpolations.{PastAt}
use Rattle.interpolations.proofs.InterpLaws.{past_forth}
use Rattle.print_strings.proofs.Interps.{parting_place, interp_open, interp_at}
use Rattle.print_strings.proofs.put_interpolation.Goals as goal

past : (s : List ℕ) (from : ℕ) (q : Position) (r : Closing) → q ≡ placed from → PastAt s q r → PastAt s (placed from) r
past s from q r e h = subst (λ (p : Position). PastAt s p r) e h

pub returns-then-not-c : goal.returns-then-not-c
returns-then-not-c c =
    interp_open c.args.s.now c.args.from c.requires.within _ (past _ _ _ _ c.at_place.ensures c.past_interpolation-c.ensures) c.args.named c.args.out.now c.args.at (not-true _ c.if-not-c.true) c.args.out.now (record {})

pub slice_bounds-put_bytes-count : goal.slice_bounds-put_bytes-count
slice_bounds-put_bytes-count c =
    omega (arith, past_forth c.args.s.now (placed c.args.from) c.requires.within _ (past _ _ _ _ c.at_place.ensures c.past_interpolation-c.ensures))

pub slice_bounds-put_bytes-start : goal.slice_bounds-put_bytes-start
slice_bounds-put_bytes-start c =
    let p = past c.args.s.now c.args.from _ c.past_interpolation-c.result c.at_place.ensures c.past_interpolation-c.ensures in
    omega (arith, past_forth c.args.s.now (placed c.args.from) c.requires.within _ p, p.reach.within.inside)

pub put_bytes-end-requires : goal.put_bytes-end-requires
put_bytes-end-requires c =
    record { part_bound = part_bound c.args.s.now c.args.from c.past_interpolation-c.result.at.offset _ (omega (arith, c.requires.within.size)); at_bound = omega (arith, parting_place _ _ _ _ _ c.put_parting-place.ensures, c.requires.at_bound) }

pub returns : goal.returns
returns c =
    interp_at c.args.s.now c.args.from c.requires.within _ (past _ _ _ _ c.at_place.ensures c.past_interpolation-c.ensures) c.args.named _ _
    (not-false _ c.if-not-c.false) _ _ _ _ _ c.put_parting-place.ensures (put_slice c.args.s.now c.args.from c.past_interpolation-c.result.at.offset c.put_bytes-end.ensures) c.is_at-braces.ensures
