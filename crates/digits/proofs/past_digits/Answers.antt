-- `past_digits` meets its contract. Assumes nothing.
use Rattle.std.proofs.Common.{rules}
use Rattle.rules.specs.Text.{is_digit}
use Rattle.bridge.proofs.Cuts.{cut_run}
use Rattle.lexemes.proofs.Tests.{digit_low}
use Rattle.digits.proofs.past_digits.Goals as goal

pub returns : goal.returns
returns c = cut_run is_digit digit_low _ (λ i b h. search rules) c.past.ensures
