-- `is_suffix` meets its contract. Assumes nothing.
use mathlib.Core.Path.{refl, sym}
use mathlib.Core.List.{[], ◌∷◌}
use Rattle.rules.specs.Text.{text, one_of}
use Rattle.bridge.proofs.Tests.{all_pass, keys_pass, keys_miss}
use Rattle.numbers.specs.Numbers.{is_suffix}
use Rattle.numbers.proofs.is_suffix.Goals as goal

pub returns-in-76 : goal.returns-in-76
unfolding all_pass one_of
returns-in-76 c = sym (keys_pass is_suffix (68 ∷ 70 ∷ 76 ∷ 85 ∷ 100 ∷ 102 ∷ 108 ∷ 117 ∷ []) _ refl c.in-76.is)

pub returns-in_default : goal.returns-in_default
unfolding all_pass
returns-in_default c = sym (keys_miss (68 ∷ 70 ∷ 76 ∷ 85 ∷ 100 ∷ 102 ∷ 108 ∷ 117 ∷ []) (text "LlfFdDuU") _ refl c.in_default.in_default-own.rest.1)
