-- The tests of names pass only characters of one byte. Assumes nothing.
use mathlib.Core.Bool.{◌||◌}
use native.Mathlib.Omega.{arith}
use Rattle.characters.specs.Choice.{◌is◌, within}
use Rattle.rules.specs.Text.{ch, is_digit, is_letter, is_ident_part}
use Rattle.bridge.specs.Bridge.{Low, exactly}
use Rattle.bridge.proofs.Tests.{low_or, low_within, low_is}
use Rattle.lexemes.proofs.Tests.{digit_low}

letter_low : Low 11 is_letter
unfolding is_letter
letter_low =
    low_or 11 (within 65 90) (within 97 122)
    (low_within 11 65 90 (omega arith) (omega arith))
    (low_within 11 97 122 (omega arith) (omega arith))

pub part_low : Low 11 is_ident_part
unfolding is_ident_part
part_low =
    low_or 11 (λ c. is_letter c || is_digit c || c is ch "_") (exactly 36)
    (low_or 11 (λ c. is_letter c || is_digit c) (exactly 95)
    (low_or 11 is_letter is_digit letter_low digit_low)
    (low_is 11 95 (omega arith) (omega arith)))
    (low_is 11 36 (omega arith) (omega arith))
