-- `is_grouped` meets its contract. Assumes nothing.
use Rattle.rules.specs.Numbers.{is_digit_or_underscore}
use Rattle.digits.proofs.is_grouped.Goals as goal

pub returns : goal.returns
unfolding is_digit_or_underscore
returns c = rw c.is_digit.ensures
