-- `put_field` meets its contract. Assumes nothing.
use Rattle.listing_fields.proofs.Decimals.{few_digits, field_put}
use Rattle.listing_fields.proofs.Lengths.{field_some}
use native.Mathlib.Omega.{arith}
use Rattle.listing_fields.proofs.put_field.Goals as goal

pub put_bytes-requires : goal.put_bytes-requires
put_bytes-requires c = record { part_bound = omega (arith, few_digits _ _ c.ranges.x.fits c.decimal-n.ensures.len, c.decimal-n.ensures.in_bounds, c.put_byte-p.ensures, field_some c.args.x); at_bound = omega (arith, few_digits _ _ c.ranges.x.fits c.decimal-n.ensures.len, c.decimal-n.ensures.in_bounds, c.put_byte-p.ensures, field_some c.args.x) }

pub returns : goal.returns
returns c = field_put _ _ _ _ _ _ _ _ _ c.ranges.x.fits c.decimal-n.ensures.len c.decimal-n.ensures.digits c.put_byte-p.ensures c.put_bytes.ensures
