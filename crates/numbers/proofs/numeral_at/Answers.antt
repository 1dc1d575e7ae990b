-- `numeral_at` meets its contract. Assumes nothing.
use mathlib.Core.Path.{ap}
use Rattle.lexemes.proofs.Words.{kind_told}
use Rattle.numbers.specs.Numbers.{number_kind}
use Rattle.numbers.proofs.numeral_at.Goals as goal

pub returns-then-x : goal.returns-then-x
returns-then-x c = kind_told _ _ _ 1 _ _ _ (ap number_kind c.if-x.true) c.number_at-x.ensures

pub returns : goal.returns
returns c = kind_told _ _ _ 0 _ _ _ (ap number_kind c.if-x.false) c.number_at-x.ensures
