-- `utf8::within` meets its contract. Assumes nothing.
use Rattle.std.proofs.Common.{rules}
use Rattle.characters.specs.Choice.{within}
use Rattle.characters.proofs.utf8.within.Goals as goal

pub returns : goal.returns
unfolding within
returns c = search rules
