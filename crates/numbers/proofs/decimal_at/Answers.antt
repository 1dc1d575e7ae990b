-- `decimal_at` meets its contract. Assumes nothing.
use Rattle.numbers.proofs.Numbers.{decimal_word}
use Rattle.numbers.proofs.decimal_at.Goals as goal

pub returns : goal.returns
returns c =
    decimal_word _ _ _ _ _ _ c.requires.at_value c.past_grouped-whole.ensures c.past_fraction-point.ensures c.past_exponent-power.ensures c.past_suffix-end.ensures
