-- Laws of the characters that open an interpolation behind a dollar sign. Assumes nothing.
use mathlib.Core.Bool.{◌||◌, ◌&&◌, not}
use native.Mathlib.Omega.{arith}
use Rattle.characters.specs.Choice.{◌is◌, within}
use Rattle.characters.proofs.Choice.{and_both}
use Rattle.rules.specs.Text.{is_letter, is_ident_start}
use Rattle.rules.specs.Strings.{is_interp_start}
use Rattle.bridge.specs.Bridge.{Low, exactly}
use Rattle.bridge.proofs.Tests.{low_or, low_within, low_is}

start_low : Low 11 is_ident_start
unfolding is_ident_start is_letter
start_low =
    low_or 11 (λ c. is_letter c || c is 95) (exactly 36)
    (low_or 11 is_letter (exactly 95)
    (low_or 11 (within 65 90) (within 97 122) (low_within 11 65 90 (omega arith) (omega arith)) (low_within 11 97 122 (omega arith) (omega arith)))
    (low_is 11 95 (omega arith) (omega arith)))
    (low_is 11 36 (omega arith) (omega arith))

pub interp_low : Low 11 is_interp_start
unfolding is_interp_start
interp_low =
    low_or 11 (exactly 123) (λ c. is_ident_start c && not (c is 36))
    (low_is 11 123 (omega arith) (omega arith))
    (λ c e. start_low c (and_both (is_ident_start c) (not (c is 36)) e).0)
