-- `utf8_classes::has_own_range` meets its contract. Assumes nothing.
use mathlib.Core.Path.{refl}
use Rattle.characters.specs.Utf8.{has_own_range}
use Rattle.utf8_classes.proofs.has_own_range.Goals as goal

pub returns : goal.returns
unfolding has_own_range
returns c = refl
