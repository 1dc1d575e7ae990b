-- `put_hex_byte` meets its contract. Assumes nothing.
use Rattle.listing_fields.proofs.Hex.{two_put}
use Rattle.listing_fields.proofs.put_hex_byte.Goals as goal

pub returns : goal.returns
returns c = two_put _ _ _ _ _ _ _ _ _ _ c.hex_digit.ensures c.hex_digit-2.ensures c.put_byte-p.ensures c.put_byte.ensures
