-- `past_binary` meets its contract. Assumes nothing.
use Rattle.std.proofs.Common.{rules}
use Rattle.rules.specs.Numbers.{binary_part}
use Rattle.bridge.proofs.Cuts.{cut_run}
use Rattle.digits.proofs.Tests.{binary_low}
use Rattle.digits.proofs.past_binary.Goals as goal

pub returns : goal.returns
returns c = cut_run binary_part binary_low _ (λ i b h. search rules) c.past.ensures
