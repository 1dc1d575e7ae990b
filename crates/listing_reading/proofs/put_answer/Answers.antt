-- `put_answer` meets its contract. Assumes nothing.
use Rattle.output.proofs.Buffers.{put_then}
use Rattle.listing_reading.specs.Reading.{lines_read}
use Rattle.listing_fields.proofs.Rooms.{room_front, room_then}
use Rattle.listing_reading.proofs.put_answer.Goals as goal

pub put_tokens-p-requires : goal.put_tokens-p-requires
unfolding lines_read
put_tokens-p-requires c = room_front _ _ _ (room_front _ _ _ c.requires.room)

pub put_errors-q-requires : goal.put_errors-q-requires
unfolding lines_read
put_errors-q-requires c = room_then _ _ _ _ _ _ (room_front _ _ _ c.requires.room) c.put_tokens-p.ensures

pub put_closed-requires : goal.put_closed-requires
unfolding lines_read
put_closed-requires c = room_then _ _ _ _ _ _ c.requires.room (put_then _ _ _ _ _ _ _ _ c.put_tokens-p.ensures c.put_errors-q.ensures)

pub returns : goal.returns
unfolding lines_read
returns c = put_then _ _ _ _ _ _ _ _ (put_then _ _ _ _ _ _ _ _ c.put_tokens-p.ensures c.put_errors-q.ensures) c.put_closed.ensures
