-- The tests of numbers pass only characters of one byte. Assumes nothing.
use mathlib.Core.Path.{refl}
use Rattle.characters.specs.Choice.{within}
use Rattle.rules.specs.Text.{text, one_of}
use Rattle.bridge.specs.Bridge.{Low}
use Rattle.bridge.proofs.Tests.{low_one_of, all_low}
use Rattle.numbers.specs.Numbers.{is_suffix, is_sign}

pub suffix_low : Low 11 is_suffix
unfolding all_low within
suffix_low = low_one_of 11 (text "LlfFdDuU") refl

pub sign_low : Low 11 is_sign
unfolding all_low within
sign_low = low_one_of 11 (text "+-") refl

pub power_low : Low 11 (one_of (text "eE"))
unfolding all_low within
power_low = low_one_of 11 (text "eE") refl

pub zero_low : Low 11 (one_of (text "0"))
unfolding all_low within
zero_low = low_one_of 11 (text "0") refl

pub radix_low : Low 11 (one_of (text "xXbB"))
unfolding all_low within
radix_low = low_one_of 11 (text "xXbB") refl
