-- `output::put_char` meets its contract. Where the whole fits it is written at once, and where none of it fits nothing is;
use mathlib.Core.Path.{sym, ◌∙◌}
use Prim.Native.Nat.{ℕ}
use native.Mathlib.Omega.{arith}
use lib.ListN.{length-take}
use Rattle.characters.proofs.Widths.{width_bounds, char_length}
use Rattle.output.proofs.Buffers.{whole_put, none_put, cut_put}
use Rattle.output.proofs.put_char.Goals as goal

pub overflow_add-at : goal.overflow_add-at
overflow_add-at c = omega (arith, width_bounds c.args.c)

pub put_char-requires : goal.put_char-requires
put_char-requires c = record { c_bound = omega arith; c_in_bounds = omega arith }

pub returns-then-at-n : goal.returns-then-at-n
returns-then-at-n c = whole_put _ _ _ _ _ _ (char_length _) c.put_char.ensures.0 c.put_char.ensures.1

pub overflow_add-result : goal.overflow_add-result
overflow_add-result c = omega (arith, width_bounds c.args.c)

pub returns-then-buf-at : goal.returns-then-buf-at
returns-then-buf-at c = none_put _ _ _ _ (char_length _ ∙ sym c.width_of-n.ensures) c.if-buf-at.true

pub put_char-requires-2 : goal.put_char-requires-2
put_char-requires-2 c = record { c_bound = omega (arith, width_bounds c.args.c); c_in_bounds = omega (arith, width_bounds c.args.c) }

pub slice_bounds-bytes-end : goal.slice_bounds-bytes-end
slice_bounds-bytes-end c = omega (arith, width_bounds c.args.c)

pub slice_bounds-put_bytes-end : goal.slice_bounds-put_bytes-end
slice_bounds-put_bytes-end c = omega (arith, width_bounds c.args.c, length-take {A = ℕ}, c.put_char-2.auto.buf)

pub put_bytes-requires : goal.put_bytes-requires
put_bytes-requires c = record { part_bound = omega (arith, width_bounds c.args.c, length-take {A = ℕ}, c.put_char-2.auto.buf); at_bound = omega arith }

pub returns : goal.returns
returns c =
    let m = width_bounds c.args.c in
    cut_put _ _ _ _ _ _ _ _ (char_length _ ∙ sym c.width_of-n.ensures) (omega (arith, m)) c.put_char-2.ensures.1 c.put_bytes.ensures
