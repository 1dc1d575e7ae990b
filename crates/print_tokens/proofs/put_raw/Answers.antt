-- `print_tokens::put_raw` meets its contract. Assumes nothing.
use mathlib.Core.Path.{◌≡◌, sym, subst}
use mathlib.Core.Bool.{true}
use Prim.Native.Nat.{◌+◌}
use native.Mathlib.Omega.{arith}
use Rattle.characters.specs.Utf8.{chars_at}
use Rattle.spans.specs.declared.Position.{Position}
use Rattle.rules.specs.Scan.{starts_with}
use Rattle.bridge.specs.Bridge.{Within}
use Rattle.walks.specs.Walks.{quotes}
use Rattle.output.proofs.Buffers.{part_bound}
use Rattle.print_escapes.proofs.Walks.{escapes_slice}
use Rattle.print_tokens.proofs.Faults.{token_wrong}
use Rattle.print_tokens.proofs.Quoted.{raw_placed, raw_inside, raw_small, raw_emits}
use Rattle.print_tokens.proofs.put_raw.Goals as goal

pub raw-m-requires : goal.raw-m-requires
raw-m-requires c =
    let e = sym c.at_place.ensures in
    record { within = subst (Within c.args.text.now) e c.requires.within; offset_value = subst (λ (p : Position). starts_with quotes (chars_at c.args.text.now p.offset) ≡ true) e c.requires.from_value; used_texts_bound = omega arith; used_errors_bound = omega arith }

pub returns-then-m-gt0 : goal.returns-then-m-gt0
returns-then-m-gt0 c =
    let r = raw_placed c.args.text.now c.args.from _ _ _ _ _ _ c.at_place.ensures c.raw-m.ensures in
    token_wrong c.args.text.now c.args.from _ _ _ r.one _ _ _ r.written (omega (arith, c.if-m-gt0.true))

pub overflow_add-begin : goal.overflow_add-begin
overflow_add-begin c =
    omega (arith, c.requires.within.inside, c.requires.within.size)

pub overflow_add-end : goal.overflow_add-end
overflow_add-end c =
    let r = raw_placed c.args.text.now c.args.from _ _ _ _ _ _ c.at_place.ensures c.raw-m.ensures in
    omega (arith, raw_inside c.args.text.now c.args.from c.requires.within c.requires.from_value _ _ _ _ _ r, c.requires.within.size)

pub slice_bounds-put_escapes-end : goal.slice_bounds-put_escapes-end
slice_bounds-put_escapes-end c =
    let r = raw_placed c.args.text.now c.args.from _ _ _ _ _ _ c.at_place.ensures c.raw-m.ensures in
    let n = raw_inside c.args.text.now c.args.from c.requires.within c.requires.from_value _ _ _ _ _ r in
    omega (arith, n)

pub put_escapes-place-requires : goal.put_escapes-place-requires
put_escapes-place-requires c =
    let r = raw_placed c.args.text.now c.args.from _ _ _ _ _ _ c.at_place.ensures c.raw-m.ensures in
    let n = raw_inside c.args.text.now c.args.from c.requires.within c.requires.from_value _ _ _ _ _ r in
    record { text_bound = part_bound c.args.text.now (c.args.from + 3) (c.args.from + 3 + c.raw-m.result.texts) _ (omega (arith, n, c.requires.within.size)); at_bound = omega (arith, c.put_byte-front.ensures.place, c.requires.at_bound) }

pub returns : goal.returns
returns c =
    let r = raw_placed c.args.text.now c.args.from _ _ _ _ _ _ c.at_place.ensures c.raw-m.ensures in
    raw_emits c.args.text.now c.args.from c.requires.within c.requires.from_value _ _ _ _ _ r _ _ _ _ _ _ c.put_byte-front.ensures (escapes_slice 34 c.args.text.now (c.args.from + 3) (c.args.from + 3 + c.raw-m.result.texts) c.put_escapes-place.ensures) _ _ c.if-m-gt0.false
    c.put_byte.ensures

pub put_byte-requires : goal.put_byte-requires
put_byte-requires c =
    let r = raw_placed c.args.text.now c.args.from _ _ _ _ _ _ c.at_place.ensures c.raw-m.ensures in
    let n = raw_inside c.args.text.now c.args.from c.requires.within c.requires.from_value _ _ _ _ _ r in
    let y = raw_small c.args.text.now c.args.from c.requires.within c.requires.from_value _ _ _ _ _ r _ _ _ _ _ _ c.put_byte-front.ensures (escapes_slice 34 c.args.text.now (c.args.from + 3) (c.args.from + 3 + c.raw-m.result.texts) c.put_escapes-place.ensures) in
    omega (arith, n, y, c.requires.within.size, c.requires.at_bound)
