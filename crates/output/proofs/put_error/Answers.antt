-- `output::put_error` meets its contract. Where the whole fits it is written at once, and where none of it fits nothing is;
use mathlib.Core.Path.{sym, ◌∙◌}
use Prim.Native.Nat.{ℕ}
use native.Mathlib.Omega.{arith}
use lib.ListN.{length-take}
use Rattle.records.proofs.Bytes.{length_error}
use Rattle.output.proofs.Lengths.{error_bounds}
use Rattle.output.proofs.Buffers.{whole_put, none_put, cut_put}
use Rattle.output.proofs.put_error.Goals as goal

pub overflow_add-at : goal.overflow_add-at
overflow_add-at c = omega (arith, error_bounds c.args.kind)

pub returns-then-at-n : goal.returns-then-at-n
returns-then-at-n c = whole_put _ _ _ _ _ _ (length_error _ _ _) c.put_error.ensures.0 c.put_error.ensures.1

pub overflow_add-result : goal.overflow_add-result
overflow_add-result c = omega (arith, error_bounds c.args.kind)

pub returns-then-buf-at : goal.returns-then-buf-at
returns-then-buf-at c = none_put _ _ _ _ (length_error _ _ _ ∙ sym c.error_length-n.ensures) c.if-buf-at.true

pub put_error-requires-2 : goal.put_error-requires-2
put_error-requires-2 c = omega (arith, error_bounds c.args.kind)

pub slice_bounds-bytes-end : goal.slice_bounds-bytes-end
slice_bounds-bytes-end c = omega (arith, error_bounds c.args.kind)

pub slice_bounds-put_bytes-end : goal.slice_bounds-put_bytes-end
slice_bounds-put_bytes-end c = omega (arith, error_bounds c.args.kind, length-take {A = ℕ}, c.put_error-2.auto.buf)

pub put_bytes-requires : goal.put_bytes-requires
put_bytes-requires c = record { part_bound = omega (arith, error_bounds c.args.kind, length-take {A = ℕ}, c.put_error-2.auto.buf); at_bound = omega arith }

pub returns : goal.returns
returns c =
    let m = error_bounds c.args.kind in
    cut_put _ _ _ _ _ _ _ _ (length_error _ _ _ ∙ sym c.error_length-n.ensures) (omega (arith, m)) c.put_error-2.ensures.1 c.put_bytes.ensures
