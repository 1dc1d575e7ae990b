-- `print_tokens::put_made` meets its contract. Assumes nothing.
use native.Mathlib.Omega.{arith}
use lib.Seq.{slice, length-slice}
use Rattle.rules.specs.Text.{ch}
use Rattle.print_escapes.proofs.Sizes.{escapes_length}
use Rattle.print_tokens.proofs.Letters.{none_put, some_put}
use Rattle.print_tokens.proofs.put_made.Goals as goal

pub returns-then-n-eq0 : goal.returns-then-n-eq0
returns-then-n-eq0 c =
    none_put c.args.made.now c.args.n _ _ _ _ c.if-n-eq0.true c.put_bytes.ensures

pub returns : goal.returns
returns c =
    some_put c.args.made.now c.args.n _ _ _ _ _ _ _ _ c.requires.n_in_bounds c.if-n-eq0.false c.put_byte-front.ensures c.put_escapes-place.ensures
    c.put_byte.ensures

pub put_byte-requires : goal.put_byte-requires
put_byte-requires c =
    let l = length-slice 0 c.args.n c.args.made.now c.requires.n_in_bounds in
    omega (arith, c.put_escapes-place.ensures.place, c.put_byte-front.ensures.place, escapes_length (ch "'") (slice 0 c.args.n c.args.made.now), l, c.requires.n_bound, c.requires.at_bound)
