-- `past_blanks` meets its contract. Assumes nothing.
use Rattle.std.proofs.Common.{rules}
use Rattle.bridge.specs.Bridge.{exactly}
use Rattle.bridge.proofs.Cuts.{cut_run}
use Rattle.skipping.proofs.Skips.{blank_low}
use Rattle.skipping.proofs.past_blanks.Goals as goal

pub returns : goal.returns
returns c = cut_run (exactly 32) blank_low _ (λ i b h. search rules) c.past.ensures
