-- The tests of digits pass only characters of one byte. Assumes nothing.
use mathlib.Core.Path.{refl}
use mathlib.Core.Bool.{◌||◌}
use native.Mathlib.Omega.{arith}
use Rattle.characters.specs.Choice.{within}
use Rattle.rules.specs.Text.{text, is_digit, is_hex_digit}
use Rattle.rules.specs.Numbers.{hex_part, binary_part, is_digit_or_underscore}
use Rattle.bridge.specs.Bridge.{Low, exactly}
use Rattle.bridge.proofs.Tests.{low_or, low_within, low_is, low_one_of, all_low}
use Rattle.lexemes.proofs.Tests.{digit_low}

pub grouped_low : Low 11 is_digit_or_underscore
unfolding is_digit_or_underscore
grouped_low = low_or 11 is_digit (exactly 95) digit_low (low_is 11 95 (omega arith) (omega arith))

pub hex_low : Low 11 hex_part
unfolding hex_part is_hex_digit
hex_low =
    low_or 11 (λ c. is_digit c || within 65 70 c) (within 97 102)
    (low_or 11 is_digit (within 65 70) digit_low (low_within 11 65 70 (omega arith) (omega arith)))
    (low_within 11 97 102 (omega arith) (omega arith))

pub binary_low : Low 11 binary_part
unfolding binary_part all_low within
binary_low = low_one_of 11 (text "01") refl
