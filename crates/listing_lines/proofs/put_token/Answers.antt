-- `put_token` meets its contract. Assumes nothing.
use Rattle.output.proofs.Buffers.{put_then}
use Rattle.listing_lines.specs.Lines.{token_line}
use Rattle.listing_fields.proofs.Rooms.{room_place, room_front, room_then}
use Rattle.listing_lines.proofs.put_token.Goals as goal

pub put_head-p-requires : goal.put_head-p-requires
unfolding token_line
put_head-p-requires c = room_front _ _ _ (room_front _ _ _ c.requires)

pub put_text-q-requires : goal.put_text-q-requires
unfolding token_line
put_text-q-requires c = room_then _ _ _ _ _ _ (room_front _ _ _ c.requires) c.put_head-p.ensures

pub put_byte-requires : goal.put_byte-requires
unfolding token_line
put_byte-requires c = room_place _ _ (room_then _ _ _ _ _ _ c.requires (put_then _ _ _ _ _ _ _ _ c.put_head-p.ensures c.put_text-q.ensures))

pub returns : goal.returns
unfolding token_line
returns c = put_then _ _ _ _ _ _ _ _ (put_then _ _ _ _ _ _ _ _ c.put_head-p.ensures c.put_text-q.ensures) c.put_byte.ensures
