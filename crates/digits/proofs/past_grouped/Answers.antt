-- `past_grouped` meets its contract. Assumes nothing.
use Rattle.std.proofs.Common.{rules}
use Rattle.rules.specs.Numbers.{is_digit_or_underscore}
use Rattle.bridge.proofs.Cuts.{cut_run}
use Rattle.digits.proofs.Tests.{grouped_low}
use Rattle.digits.proofs.past_grouped.Goals as goal

pub returns : goal.returns
returns c = cut_run is_digit_or_underscore grouped_low _ (λ i b h. search rules) c.past.ensures
