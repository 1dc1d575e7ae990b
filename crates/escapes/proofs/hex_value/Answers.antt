use Rattle.escapes.proofs.Digits.{digit_found}
use Rattle.escapes.proofs.hex_value.Goals as goal

pub returns : goal.returns
returns c = digit_found c.args.b c.to_digit.result (rw c.from.ensures at c.to_digit.ensures.value)
