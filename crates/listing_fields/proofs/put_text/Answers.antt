-- `put_text` meets its contract. Assumes nothing.
use mathlib.Core.Path.{sym}
use borrow.Author.Tests.{eqb-true, eqb-false}
use Rattle.listing_fields.proofs.Hex.{text_room, text_none, text_some}
use Rattle.listing_fields.proofs.put_text.Goals as goal

pub returns-then-is_empty : goal.returns-then-is_empty
returns-then-is_empty c = text_none _ _ _ _ _ (eqb-true _ _ (sym c.if-is_empty.ensures)) c.put_bytes.ensures

pub put_hex-requires : goal.put_hex-requires
put_hex-requires c = text_room _ _ _ (eqb-false _ _ (sym c.if-is_empty.ensures)) c.put_byte-p.ensures.place c.requires

pub returns : goal.returns
returns c = text_some _ _ _ _ _ _ _ (eqb-false _ _ (sym c.if-is_empty.ensures)) c.put_byte-p.ensures c.put_hex.ensures
