-- `byte_order_mark::after_mark` meets its contract. Assumes nothing.
use Rattle.byte_order_mark.proofs.Marks.{mark_length_inside, after_mark_part}
use mathlib.Core.Path.{ap}
use Prim.Native.Nat.{ℕ}
use Rattle.byte_order_mark.specs.Slices.{bytes_behind}
use native.Mathlib.Omega.{arith}
use Rattle.byte_order_mark.proofs.after_mark.Goals as goal

pub slice_bounds-result-count : goal.slice_bounds-result-count
slice_bounds-result-count c = omega (arith, mark_length_inside c.args.text.now)

pub slice_bounds-result-start : goal.slice_bounds-result-start
slice_bounds-result-start c = omega (arith, mark_length_inside c.args.text.now)

pub returns : goal.returns
returns c = record { result_value = after_mark_part _ _ c.mark_length-n.ensures; ref_ptr_value = ap (λ (n : ℕ). bytes_behind n c.args.text.ref_ptr) c.mark_length-n.ensures }
