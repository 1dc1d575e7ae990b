-- `put_error_number` meets its contract. Assumes nothing.
use mathlib.Core.Path.{sym, ◌∙◌}
use Rattle.output.proofs.Buffers.{put_then}
use Rattle.listing_lines.proofs.Words.{error_with, error_bare}
use Rattle.listing_fields.proofs.Rooms.{room_place, room_front, room_then}
use Rattle.listing_lines.specs.Lines.{error_line}
use Rattle.listing_lines.proofs.put_error_number.Goals as goal

pub put_head-p-requires : goal.put_head-p-requires
unfolding error_line
put_head-p-requires c = room_front _ _ _ (room_front _ _ _ c.requires)

pub put_field-q-requires : goal.put_field-q-requires
put_field-q-requires c = rw c.from.ensures (room_then _ _ _ _ _ _ (room_front _ _ _ (rw (← error_with c.args.kind c.args.code c.args.s (sym c.has_code.ensures ∙ c.if-has_code.true)) at c.requires)) c.put_head-p.ensures)

pub put_byte-requires : goal.put_byte-requires
put_byte-requires c = room_place _ _ (room_then _ _ _ _ _ _ (rw (← error_with c.args.kind c.args.code c.args.s (sym c.has_code.ensures ∙ c.if-has_code.true)) at c.requires) (put_then _ _ _ _ _ _ _ _ c.put_head-p.ensures (rw c.from.ensures at c.put_field-q.ensures)))

pub returns-then-has_code : goal.returns-then-has_code
returns-then-has_code c = rw (← error_with c.args.kind c.args.code c.args.s (sym c.has_code.ensures ∙ c.if-has_code.true)) (put_then _ _ _ _ _ _ _ _ (put_then _ _ _ _ _ _ _ _ c.put_head-p.ensures (rw c.from.ensures at c.put_field-q.ensures)) c.put_byte.ensures)

pub put_byte-requires-2 : goal.put_byte-requires-2
put_byte-requires-2 c = room_place _ _ (room_then _ _ _ _ _ _ (rw (← error_bare c.args.kind c.args.code c.args.s (sym c.has_code.ensures ∙ c.if-has_code.false)) at c.requires) c.put_head-p.ensures)

pub returns : goal.returns
returns c = rw (← error_bare c.args.kind c.args.code c.args.s (sym c.has_code.ensures ∙ c.if-has_code.false)) (put_then _ _ _ _ _ _ _ _ c.put_head-p.ensures c.put_byte-2.ensures)
