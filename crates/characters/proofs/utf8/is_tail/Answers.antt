-- `utf8::is_tail` meets its contract. Assumes nothing.
use Rattle.std.proofs.Common.{rules}
use Rattle.characters.specs.Choice.{within}
use Rattle.characters.specs.Utf8.{is_tail}
use Rattle.characters.proofs.utf8.is_tail.Goals as goal

pub returns : goal.returns
unfolding within is_tail
returns c = search rules
