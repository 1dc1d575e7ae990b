-- `output::put_token` meets its contract. Where the whole fits it is written at once, and where none of it fits nothing is;
use mathlib.Core.Path.{sym, ◌∙◌}
use Prim.Native.Nat.{ℕ}
use native.Mathlib.Omega.{arith}
use lib.ListN.{length-take}
use Rattle.records.proofs.Bytes.{length_token}
use Rattle.output.proofs.Lengths.{record_bounds}
use Rattle.output.proofs.Buffers.{whole_put, none_put, cut_put}
use Rattle.output.proofs.put_token.Goals as goal

pub overflow_add-at : goal.overflow_add-at
overflow_add-at c = omega (arith, record_bounds c.args.r.kind)

pub returns-then-at-n : goal.returns-then-at-n
returns-then-at-n c = whole_put _ _ _ _ _ _ (length_token _ _ _ _) c.put_token.ensures.0 c.put_token.ensures.1

pub overflow_add-result : goal.overflow_add-result
overflow_add-result c = omega (arith, record_bounds c.args.r.kind)

pub returns-then-buf-at : goal.returns-then-buf-at
returns-then-buf-at c = none_put _ _ _ _ (length_token _ _ _ _ ∙ sym c.record_length-n.ensures) c.if-buf-at.true

pub put_token-requires-2 : goal.put_token-requires-2
put_token-requires-2 c = omega (arith, record_bounds c.args.r.kind)

pub slice_bounds-bytes-end : goal.slice_bounds-bytes-end
slice_bounds-bytes-end c = omega (arith, record_bounds c.args.r.kind)

pub slice_bounds-put_bytes-end : goal.slice_bounds-put_bytes-end
slice_bounds-put_bytes-end c = omega (arith, record_bounds c.args.r.kind, length-take {A = ℕ}, c.put_token-2.auto.buf)

pub put_bytes-requires : goal.put_bytes-requires
put_bytes-requires c = record { part_bound = omega (arith, record_bounds c.args.r.kind, length-take {A = ℕ}, c.put_token-2.auto.buf); at_bound = omega arith }

pub returns : goal.returns
returns c =
    let m = record_bounds c.args.r.kind in
    cut_put _ _ _ _ _ _ _ _ (length_token _ _ _ _ ∙ sym c.record_length-n.ensures) (omega (arith, m)) c.put_token-2.ensures.1 c.put_bytes.ensures
