-- `encoding::encode_char` meets its contract. Assumes nothing.
use mathlib.Core.Path.{sym, ◌∙◌}
use lib.ListN.{length}
use Rattle.characters.proofs.Widths.{scalar_bounds}
use Rattle.encoding.proofs.Rooms.{room_yes, room_no_scalar, room_too_small, encode_refused, encode_written}
use native.Mathlib.Omega.{arith}
use Rattle.encoding.proofs.encode_char.Goals as goal

pub returns-then-not-is_scalar : goal.returns-then-not-is_scalar
returns-then-not-is_scalar c =
    let t = c.if-not-is_scalar.true in
    let e = sym c.is_scalar.ensures ∙ t in
    let q = encode_refused c.args.c c.args.at c.args.buf.now (room_no_scalar c.args.c c.args.at (length c.args.buf.now) e) in record { value = q.0; buf_after = q.1 }

pub returns-then-size-n : goal.returns-then-size-n
returns-then-size-n c =
    let q = encode_refused c.args.c c.args.at c.args.buf.now (room_too_small c.args.c c.args.at (length c.args.buf.now) (omega arith)) in record { value = q.0; buf_after = q.1 }

pub returns-then-size-n-2 : goal.returns-then-size-n-2
returns-then-size-n-2 c =
    let q = encode_refused c.args.c c.args.at c.args.buf.now (room_too_small c.args.c c.args.at (length c.args.buf.now) (omega arith)) in record { value = q.0; buf_after = q.1 }

pub put_char-requires : goal.put_char-requires
put_char-requires c =
    let t = c.if-not-is_scalar.false in
    let e = sym c.is_scalar.ensures ∙ t in
    record { c_bound = (scalar_bounds c.args.c e).0; c_in_bounds = omega arith }

pub returns : goal.returns
returns c =
    let t = c.if-not-is_scalar.false in
    let e = sym c.is_scalar.ensures ∙ t in
    let r = room_yes c.args.c c.args.at (length c.args.buf.now) e (omega arith) in
    let q = encode_written c.args.c c.args.at c.args.buf.now _ _ r c.width_of-n.ensures c.put_char.ensures.1 in record { value = q.0; buf_after = q.1 }
