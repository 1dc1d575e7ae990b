-- `print_strings::put_units` meets its contract. The invariant: the units so far were written as a literal, without an error. The
use mathlib.Core.Path.{refl, subst}
use mathlib.Core.Bool.{◌&&◌, not}
use Prim.Native.Nat.{ℕ}
use native.Mathlib.Omega.{arith}
use Rattle.bridge.specs.Bridge.{placed, Within}
use Rattle.print_places.proofs.Elements.{within_placed}
use Rattle.print_strings.proofs.Plains.{part_bare}
use Rattle.print_strings.proofs.Rows.{row_begin, row_small, row_within, row_on, row_over, row_bad}
use Rattle.print_strings.proofs.put_units.Goals as goal

pub loop-n-init : goal.loop-n-init
loop-n-init c = (row_begin _ _ _ _ _, c.requires.within)

pub next-requires : goal.next-requires
next-requires c =
    let (q, d, y) = c.loop-n.invariant.0 _ refl c.loop-n.invariant.1 in
    subst (λ (n : ℕ). Within c.args.s.now (placed n)) d (within_placed c.args.s.now q (row_within _ _ _ _ _ _ _ _ _ y))

pub returns-then-n : goal.returns-then-n
returns-then-n c =
    row_bad _ _ _ _ _ _ _ _ _ c.loop-n.invariant.0 _ (rw c.in-Some.is at c.next.ensures) c.if-n.true _

pub put_part-place-requires : goal.put_part-place-requires
put_part-place-requires c =
    let h = rw c.in-Some.is at c.next.ensures in
    let (q, d, y) = c.loop-n.invariant.0 _ refl c.loop-n.invariant.1 in
    let v = row_within _ _ _ _ _ _ _ _ _ y in
    let g = h q d v in
    record { part_within = g.inside; s_len_bound = v.size; part_value = part_bare c.args.s.now q _ c.loop-n.name (c.in-Some.n.plain && not c.loop-n.name) v g refl; at_bound = omega (arith, row_small _ _ _ _ _ _ _ _ _ y, v.inside, v.size, c.requires.at_bound) }

pub loop-n-smaller : goal.loop-n-smaller
loop-n-smaller c =
    let h = rw c.in-Some.is at c.next.ensures in
    let (q, d, y) = c.loop-n.invariant.0 _ refl c.loop-n.invariant.1 in
    let g = h q d (row_within _ _ _ _ _ _ _ _ _ y) in
    omega (arith, d, g.forth, g.ends, g.units.reach.within.inside)

pub loop-n-preserved : goal.loop-n-preserved
loop-n-preserved c =
    let h = rw c.in-Some.is at c.next.ensures in (
      row_on _ _ _ _ _ _ _ _ _ c.loop-n.invariant.0 _ h c.if-n.false _ _ _ c.put_part-place.ensures c.is_named-name.ensures,
      c.loop-n.invariant.1,
    )

pub returns : goal.returns
returns c = row_over _ _ _ _ _ _ _ _ _ c.loop-n.invariant.0 (rw c.in_default.is at c.next.ensures)
