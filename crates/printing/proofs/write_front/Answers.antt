-- `printing::write_front` meets its contract. Assumes nothing.
use mathlib.Core.Path.{refl, sym, ◌∙◌}
use native.Mathlib.Omega.{arith}
use lib.ListN.{drop, length-append, length-drop}
use lib.Seq.{length-take-le}
use Rattle.printing.proofs.write_front.Goals as goal

pub slice_bounds-write-end-2 : goal.slice_bounds-write-end-2
slice_bounds-write-end-2 c =
    sym (length-take-le c.args.n c.args.out.now c.requires)

pub shape_of-out : goal.shape_of-out
shape_of-out c =
    omega (arith, length-append c.write.new.out (drop c.args.n c.args.out.now), length-drop c.args.n c.args.out.now, length-take-le c.args.n c.args.out.now c.requires, c.write.auto.out, c.requires)

pub returns : goal.returns
returns c =
    record {
      front = c.write.new.out;
      size = c.write.auto.out ∙ length-take-le c.args.n c.args.out.now c.requires;
      walked = c.write.ensures;
      after = refl;
    }
