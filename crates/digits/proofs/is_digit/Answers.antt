-- `is_digit` meets its contract. Assumes nothing.
use Rattle.characters.specs.Choice.{within}
use Rattle.rules.specs.Text.{is_digit}
use Rattle.digits.proofs.is_digit.Goals as goal

pub returns : goal.returns
unfolding is_digit within
returns c = c.is_ascii_digit.ensures.value
