-- `print_docs::put_part` meets its contract. Assumes nothing.
use mathlib.Core.Path.{subst}
use native.Mathlib.Omega.{arith}
use Rattle.output.proofs.Buffers.{part_bound, put_slice}
use Rattle.print_docs.specs.Docs.{LinePart}
use Rattle.print_docs.proofs.Lining.{bytes_put, feed_put, nothing_put}
use Rattle.print_docs.proofs.put_part.Goals as goal

pub slice_bounds-put_bytes-count : goal.slice_bounds-put_bytes-count
slice_bounds-put_bytes-count c = (subst (LinePart c.args.part.now) c.in-Bytes.is c.requires.line_part).0

pub slice_bounds-put_bytes-start : goal.slice_bounds-put_bytes-start
slice_bounds-put_bytes-start c =
    let f = subst (LinePart c.args.part.now) c.in-Bytes.is c.requires.line_part in
    omega (arith, f.0, f.1)

pub put_bytes-requires : goal.put_bytes-requires
put_bytes-requires c =
    record { part_bound = part_bound c.args.part.now c.in-Bytes.from c.in-Bytes.to _ (omega (arith, c.requires.part_len_bound)); at_bound = omega (arith, c.requires.at_bound) }

pub returns-in-Bytes : goal.returns-in-Bytes
returns-in-Bytes c =
    bytes_put c.args.part.now _ _ c.args.x _ _ _ _ c.in-Bytes.is c.requires.line_part (put_slice c.args.part.now c.in-Bytes.from c.in-Bytes.to c.put_bytes.ensures)

pub returns-in-Char : goal.returns-in-Char
returns-in-Char c =
    feed_put c.args.part.now _ _ c.args.x _ _ _ c.in-Char.is c.requires.line_part c.put_bytes-in-Char.ensures

pub returns-in-Nothing : goal.returns-in-Nothing
returns-in-Nothing c =
    nothing_put c.args.part.now c.args.out.now c.args.x c.args.at c.in-Nothing.is
