-- `encoding::is_scalar` meets its contract. Assumes nothing.
use Rattle.std.proofs.Common.{rules}
use Rattle.characters.specs.Choice.{within}
use Rattle.characters.specs.Utf8.{is_scalar}
use Rattle.encoding.proofs.is_scalar.Goals as goal

pub returns : goal.returns
unfolding is_scalar within
returns c = search rules
