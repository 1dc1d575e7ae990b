-- `put_span` meets its contract. Assumes nothing.
use Rattle.output.proofs.Buffers.{put_then}
use Rattle.listing_fields.specs.Fields.{span_fields}
use Rattle.listing_fields.proofs.Rooms.{room_front, room_then}
use Rattle.listing_fields.proofs.put_span.Goals as goal

pub put_field-a-requires : goal.put_field-a-requires
unfolding span_fields
put_field-a-requires c = room_front _ _ _ (room_front _ _ _ (room_front _ _ _ (room_front _ _ _ (room_front _ _ _ c.requires))))

pub put_field-b-requires : goal.put_field-b-requires
unfolding span_fields
put_field-b-requires c = room_then _ _ _ _ _ _ (room_front _ _ _ (room_front _ _ _ (room_front _ _ _ (room_front _ _ _ c.requires)))) c.put_field-a.ensures

pub put_field-c-requires : goal.put_field-c-requires
unfolding span_fields
put_field-c-requires c = room_then _ _ _ _ _ _ (room_front _ _ _ (room_front _ _ _ (room_front _ _ _ c.requires))) (put_then _ _ _ _ _ _ _ _ c.put_field-a.ensures c.put_field-b.ensures)

pub put_field-d-requires : goal.put_field-d-requires
unfolding span_fields
put_field-d-requires c = room_then _ _ _ _ _ _ (room_front _ _ _ (room_front _ _ _ c.requires)) (put_then _ _ _ _ _ _ _ _ (put_then _ _ _ _ _ _ _ _ c.put_field-a.ensures c.put_field-b.ensures) c.put_field-c.ensures)

pub put_field-e-requires : goal.put_field-e-requires
unfolding span_fields
put_field-e-requires c = room_then _ _ _ _ _ _ (room_front _ _ _ c.requires) (put_then _ _ _ _ _ _ _ _ (put_then _ _ _ _ _ _ _ _ (put_then _ _ _ _ _ _ _ _ c.put_field-a.ensures c.put_field-b.ensures) c.put_field-c.ensures) c.put_field-d.ensures)

pub put_field-requires : goal.put_field-requires
unfolding span_fields
put_field-requires c = room_then _ _ _ _ _ _ c.requires (put_then _ _ _ _ _ _ _ _ (put_then _ _ _ _ _ _ _ _ (put_then _ _ _ _ _ _ _ _ (put_then _ _ _ _ _ _ _ _ c.put_field-a.ensures c.put_field-b.ensures) c.put_field-c.ensures) c.put_field-d.ensures) c.put_field-e.ensures)

pub returns : goal.returns
unfolding span_fields
returns c = put_then _ _ _ _ _ _ _ _ (put_then _ _ _ _ _ _ _ _ (put_then _ _ _ _ _ _ _ _ (put_then _ _ _ _ _ _ _ _ (put_then _ _ _ _ _ _ _ _ c.put_field-a.ensures c.put_field-b.ensures) c.put_field-c.ensures) c.put_field-d.ensures) c.put_field-e.ensures) c.put_field.ensures
