-- `past_hex` meets its contract. Assumes nothing.
use Rattle.std.proofs.Common.{rules}
use Rattle.rules.specs.Numbers.{hex_part}
use Rattle.bridge.proofs.Cuts.{cut_run}
use Rattle.digits.proofs.Tests.{hex_low}
use Rattle.digits.proofs.past_hex.Goals as goal

pub returns : goal.returns
returns c = cut_run hex_part hex_low _ (λ i b h. search rules) c.past.ensures
