-- `encoding::put_char` meets its contract. Assumes nothing.
use mathlib.Core.Path.{refl}
use Rattle.characters.proofs.Widths.{width_one, width_two, width_three, width_four, encode_one, encode_two, encode_three, encode_four}
use native.Mathlib.Omega.{arith}
use Rattle.encoding.proofs.put_char.Goals as goal

pub put-requires : goal.put-requires
put-requires c =
    let w = width_one _ c.if-c-le127.true in
    omega (arith, rw w at c.requires.c_in_bounds)

pub returns-then-c-le127 : goal.returns-then-c-le127
returns-then-c-le127 c =
    rw (encode_one _ c.if-c-le127.true, width_one _ c.if-c-le127.true) (refl, c.put.ensures)

pub put-requires-then-c-le2047 : goal.put-requires-then-c-le2047
put-requires-then-c-le2047 c =
    let w = width_two _ c.if-c-le127.false c.if-c-le2047.true in
    omega (arith, rw w at c.requires.c_in_bounds)

pub returns-then-c-le2047 : goal.returns-then-c-le2047
returns-then-c-le2047 c =
    rw (encode_two _ c.if-c-le127.false c.if-c-le2047.true, width_two _ c.if-c-le127.false c.if-c-le2047.true) (refl, c.put-then-c-le2047.ensures)

pub put-requires-then-c-le65535 : goal.put-requires-then-c-le65535
put-requires-then-c-le65535 c =
    let w = width_three _ c.if-c-le2047.false c.if-c-le65535.true in
    omega (arith, rw w at c.requires.c_in_bounds)

pub returns-then-c-le65535 : goal.returns-then-c-le65535
returns-then-c-le65535 c =
    rw (encode_three _ c.if-c-le2047.false c.if-c-le65535.true, width_three _ c.if-c-le2047.false c.if-c-le65535.true) (refl, c.put-then-c-le65535.ensures)

pub put-requires-2 : goal.put-requires-2
put-requires-2 c =
    let w = width_four _ c.if-c-le65535.false in
    omega (arith, rw w at c.requires.c_in_bounds)

pub returns : goal.returns
returns c =
    rw (encode_four _ c.if-c-le65535.false, width_four _ c.if-c-le65535.false) (refl, c.put-2.ensures)
