use mathlib.Core.Path.{refl}
use Rattle.records.specs.Kinds.{is_kind}
use Rattle.records.proofs.kinds.is_kind.Goals as goal

pub returns : goal.returns
unfolding is_kind
returns c = refl
