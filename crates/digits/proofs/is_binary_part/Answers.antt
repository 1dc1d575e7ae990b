-- `is_binary_part` meets its contract. Assumes nothing.
use Rattle.rules.specs.Numbers.{binary_part}
use Rattle.bridge.proofs.Tests.{two_of_lem}
use Rattle.digits.proofs.is_binary_part.Goals as goal

pub returns : goal.returns
unfolding binary_part
returns c = two_of_lem 48 49 _
