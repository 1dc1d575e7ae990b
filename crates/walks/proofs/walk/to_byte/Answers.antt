-- `walks::walk::to_byte` meets its contract. Assumes nothing.
use mathlib.Core.List.{[]}
use Rattle.std.proofs.Common.{rules}
use Rattle.bridge.proofs.Bytes.{starts_one}
use Rattle.walks.proofs.walk.to_byte.Goals as goal

pub returns : goal.returns
returns c = c.to_mark.ensures [] (λ at b h. search (rules, starts_one))
