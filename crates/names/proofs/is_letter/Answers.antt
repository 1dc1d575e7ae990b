-- `is_letter` meets its contract. Assumes nothing.
use Rattle.characters.specs.Choice.{within}
use Rattle.rules.specs.Text.{is_letter}
use Rattle.names.proofs.is_letter.Goals as goal

pub returns : goal.returns
unfolding is_letter within
returns c = c.is_ascii_alphabetic.ensures.value
