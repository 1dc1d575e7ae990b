use Rattle.std.proofs.Common.{rules}
use Rattle.characters.specs.Choice.{within}
use Rattle.records.specs.Kinds.{is_error_kind}
use Rattle.records.proofs.kinds.is_error_kind.Goals as goal

pub returns : goal.returns
unfolding is_error_kind within
returns c = search rules
