-- `is_hex_part` meets its contract. Assumes nothing.
use Rattle.characters.specs.Choice.{within}
use Rattle.rules.specs.Text.{is_digit, is_hex_digit}
use Rattle.rules.specs.Numbers.{hex_part}
use Rattle.digits.proofs.is_hex_part.Goals as goal

pub returns : goal.returns
unfolding hex_part is_hex_digit is_digit within
returns c = c.is_ascii_hexdigit.ensures.value
