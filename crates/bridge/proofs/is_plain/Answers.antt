-- `is_plain` meets its contract. Assumes nothing.
use mathlib.Core.Path.{refl}
use Rattle.bridge.specs.Bridge.{is_plain}
use Rattle.bridge.proofs.is_plain.Goals as goal

pub returns : goal.returns
unfolding is_plain
returns c = refl
