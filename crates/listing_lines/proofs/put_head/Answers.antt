-- `put_head` meets its contract. Assumes nothing.
use Rattle.output.proofs.Buffers.{put_then}
use Rattle.listing_lines.specs.Lines.{head_of}
use Rattle.listing_fields.proofs.Rooms.{room_front, room_then}
use Rattle.listing_lines.proofs.put_head.Goals as goal

pub put_field-q-requires : goal.put_field-q-requires
unfolding head_of
put_field-q-requires c = rw c.from.ensures (room_front _ _ _ (room_then _ _ _ _ _ _ c.requires c.put_byte-p.ensures))

pub put_span-requires : goal.put_span-requires
unfolding head_of
put_span-requires c = room_then _ _ _ _ _ _ c.requires (put_then _ _ _ _ _ _ _ _ c.put_byte-p.ensures (rw c.from.ensures at c.put_field-q.ensures))

pub returns : goal.returns
unfolding head_of
returns c = put_then _ _ _ _ _ _ _ _ (put_then _ _ _ _ _ _ _ _ c.put_byte-p.ensures (rw c.from.ensures at c.put_field-q.ensures)) c.put_span.ensures
