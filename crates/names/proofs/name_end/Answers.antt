-- `name_end` meets its contract. Assumes nothing.
use Rattle.std.proofs.Common.{rules}
use Rattle.rules.specs.Text.{is_ident_part}
use Rattle.bridge.proofs.Cuts.{cut_run}
use Rattle.names.proofs.Tests.{part_low}
use Rattle.names.proofs.name_end.Goals as goal

pub returns : goal.returns
returns c = cut_run is_ident_part part_low _ (λ i b h. search rules) c.past.ensures
