-- `put_hex` meets its contract. The invariant: what is still to be written, written from here on, gives the whole. Assumes
use Rattle.listing_fields.proofs.Hex.{hex_place, hex_more, hex_end}
use Rattle.listing_fields.proofs.put_hex.Goals as goal

pub put_hex_byte-p-requires : goal.put_hex_byte-p-requires
put_hex_byte-p-requires c = hex_place _ _ _ _ _ _ c.loop-b.invariant c.loop-b-test.true

pub loop-b-preserved : goal.loop-b-preserved
loop-b-preserved c = hex_more _ _ _ _ _ _ c.loop-b.invariant c.loop-b-test.true _ _ c.put_hex_byte-p.ensures

pub returns : goal.returns
returns c = hex_end _ _ _ _ _ _ c.loop-b.invariant c.loop-b-test.false
