-- `byte_of` meets its contract.
use mathlib.Core.Path.{refl}
use native.Mathlib.Omega.{arith}
use Rattle.host_matching.proofs.Unknown.{kind_high}
use Rattle.host_matching.proofs.byte_of.Goals as goal

pub returns-in_default : goal.returns-in_default
returns-in_default c = (refl, kind_high c.args.kind (omega (arith, c.in_default.ensures)))
