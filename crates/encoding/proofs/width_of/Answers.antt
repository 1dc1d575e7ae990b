-- `encoding::width_of` meets its contract. Assumes nothing.
use mathlib.Core.Path.{sym}
use Rattle.characters.proofs.Widths.{width_one, width_two, width_three, width_four}
use Rattle.encoding.proofs.width_of.Goals as goal

pub returns-then-c-le127 : goal.returns-then-c-le127
returns-then-c-le127 c = sym (width_one _ c.if-c-le127.true)

pub returns-then-c-le2047 : goal.returns-then-c-le2047
returns-then-c-le2047 c = sym (width_two _ c.if-c-le127.false c.if-c-le2047.true)

pub returns-then-c-le65535 : goal.returns-then-c-le65535
returns-then-c-le65535 c = sym (width_three _ c.if-c-le2047.false c.if-c-le65535.true)

pub returns : goal.returns
returns c = sym (width_four _ c.if-c-le65535.false)
