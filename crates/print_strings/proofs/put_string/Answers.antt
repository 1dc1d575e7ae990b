-- `print_strings::put_string` meets its contract. The invariant: the string was written up to here, and what is still to be written
use Rattle.std.proofs.lemmas.Result.{err_from_is_err_and}
use mathlib.Core.Path.{◌∙◌, sym}
use native.Mathlib.Omega.{arith}
use Rattle.print_strings.proofs.Loops.{string_begin, at_within, at_small, at_bad, at_room, row_within, at_closed, at_stuck, at_open, at_more, at_less}
use Rattle.print_strings.proofs.put_string.Goals as goal

pub overflow_add-c : goal.overflow_add-c
overflow_add-c c =
    omega (arith, c.requires.within.inside, c.requires.within.size)

pub loop-r-init : goal.loop-r-init
loop-r-init c =
    λ first p. string_begin c.args.s.now c.args.from c.requires.within c.requires.from_value c.requires.from_value_2 first _ _ _ p

pub put_units-requires : goal.put_units-requires
put_units-requires c =
    let y = c.loop-r.invariant c.args.out.now c.put_byte-place.ensures in
    record { within = at_within _ _ _ _ _ _ _ _ y; at_bound = omega (arith, at_small _ _ _ _ _ _ _ _ y, c.requires.within.size, c.requires.at_bound) }

pub returns-in_err-r : goal.returns-in_err-r
returns-in_err-r c =
    let y = c.loop-r.invariant c.args.out.now c.put_byte-place.ensures in
    let p = err_from_is_err_and c.from_residual.result c.from_residual.ensures.1 in
    rw p.1 (at_bad _ _ _ _ _ _ _ _ y c.put_units.new.out p.0 c.in_err-r.ensures)

pub overflow_add-behind : goal.overflow_add-behind
overflow_add-behind c =
    let y = c.loop-r.invariant c.args.out.now c.put_byte-place.ensures in
    let v = row_within _ _ _ _ _ _ _ _ y _ _ c.in_ok-r.ensures in
    omega (arith, v.inside, v.size)

pub put_byte-requires : goal.put_byte-requires
put_byte-requires c =
    let y = c.loop-r.invariant c.args.out.now c.put_byte-place.ensures in
    omega (arith, at_room _ _ _ _ _ _ _ _ y _ _ c.in_ok-r.ensures, c.requires.within.size, c.requires.at_bound)

pub returns-then-is_at : goal.returns-then-is_at
returns-then-is_at c =
    let y = c.loop-r.invariant c.args.out.now c.put_byte-place.ensures in
    at_closed _ _ _ _ _ _ _ _ y _ _ c.in_ok-r.ensures (sym c.is_at.ensures ∙ c.if-is_at.true) _ _ c.put_byte.ensures

pub returns-then-not-is_at : goal.returns-then-not-is_at
returns-then-not-is_at c =
    let y = c.loop-r.invariant c.args.out.now c.put_byte-place.ensures in
    at_stuck _ _ _ _ _ _ _ _ y _ _ c.in_ok-r.ensures (sym c.is_at.ensures ∙ c.if-is_at.false) (sym c.is_at-in-loop-r.ensures ∙ c.if-not-is_at.true)

pub put_interpolation-requires : goal.put_interpolation-requires
put_interpolation-requires c =
    let y = c.loop-r.invariant c.args.out.now c.put_byte-place.ensures in
    record { within = row_within _ _ _ _ _ _ _ _ y _ _ c.in_ok-r.ensures; from_value = sym c.is_at-in-loop-r.ensures ∙ c.if-not-is_at.false; at_bound = omega (arith, at_room _ _ _ _ _ _ _ _ y _ _ c.in_ok-r.ensures, c.requires.within.size, c.requires.at_bound) }

pub returns-in_err-i : goal.returns-in_err-i
returns-in_err-i c =
    let y = c.loop-r.invariant c.args.out.now c.put_byte-place.ensures in
    let d = sym c.is_at-in-loop-r.ensures ∙ c.if-not-is_at.false in
    let p = err_from_is_err_and c.from_residual-in_err-i.result c.from_residual-in_err-i.ensures.1 in
    rw p.1 (at_open _ _ _ _ _ _ _ _ y _ _ c.in_ok-r.ensures d c.put_interpolation.new.out p.0 c.in_err-i.ensures)

pub loop-r-smaller : goal.loop-r-smaller
loop-r-smaller c =
    let y = c.loop-r.invariant c.args.out.now c.put_byte-place.ensures in
    let d = sym c.is_at-in-loop-r.ensures ∙ c.if-not-is_at.false in
    omega (arith, at_less _ _ _ _ _ _ _ _ y _ _ c.in_ok-r.ensures d _ _ c.in_ok-i.ensures)

pub loop-r-preserved : goal.loop-r-preserved
loop-r-preserved c = λ first p.
    let y = c.loop-r.invariant first p in
    let d = sym c.is_at-in-loop-r.ensures ∙ c.if-not-is_at.false in
    at_more _ _ _ _ _ _ _ _ y _ _ c.in_ok-r.ensures d _ _ c.in_ok-i.ensures
