-- `put_refused` meets its contract. Assumes nothing.
use Rattle.output.proofs.Buffers.{put_then}
use Rattle.listing_lines.specs.Lines.{refused_line}
use Rattle.listing_fields.proofs.Rooms.{room_place, room_front, room_then}
use Rattle.listing_lines.proofs.Lengths.{refused_room}
use Rattle.listing_lines.proofs.put_refused.Goals as goal

pub put_field-q-requires : goal.put_field-q-requires
unfolding refused_line
put_field-q-requires c = room_then _ _ _ _ _ _ (room_front _ _ _ (room_front _ _ _ (refused_room c.args.number c.args.figure))) c.put_bytes-p.ensures

pub put_field-r-requires : goal.put_field-r-requires
unfolding refused_line
put_field-r-requires c = room_then _ _ _ _ _ _ (room_front _ _ _ (refused_room c.args.number c.args.figure)) (put_then _ _ _ _ _ _ _ _ c.put_bytes-p.ensures c.put_field-q.ensures)

pub put_byte-requires : goal.put_byte-requires
unfolding refused_line
put_byte-requires c = room_place _ _ (room_then _ _ _ _ _ _ (refused_room c.args.number c.args.figure) (put_then _ _ _ _ _ _ _ _ (put_then _ _ _ _ _ _ _ _ c.put_bytes-p.ensures c.put_field-q.ensures) c.put_field-r.ensures))

pub returns : goal.returns
unfolding refused_line
returns c = put_then _ _ _ _ _ _ _ _ (put_then _ _ _ _ _ _ _ _ (put_then _ _ _ _ _ _ _ _ c.put_bytes-p.ensures c.put_field-q.ensures) c.put_field-r.ensures) c.put_byte.ensures
