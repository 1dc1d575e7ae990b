use mathlib.Core.Path.{refl}
use mathlib.Core.List.{[], ◌∷◌}
use Rattle.rules.specs.Text.{one_of}
use Rattle.rules.specs.Tables.{ESCAPES, lookup}
use Rattle.bridge.proofs.Tests.{all_pass}
use Rattle.escapes.proofs.Letters.{lookup_missed}
use Rattle.escapes.proofs.letter_byte.Goals as goal

pub returns-in-110 : goal.returns-in-110
unfolding lookup ESCAPES
returns-in-110 c = rw c.in-110.is

pub returns-in-116 : goal.returns-in-116
unfolding lookup ESCAPES
returns-in-116 c = rw c.in-116.is

pub returns-in-114 : goal.returns-in-114
unfolding lookup ESCAPES
returns-in-114 c = rw c.in-114.is

pub returns-in-92 : goal.returns-in-92
unfolding lookup ESCAPES
returns-in-92 c = rw c.in-92.is

pub returns-in-39 : goal.returns-in-39
unfolding lookup ESCAPES
returns-in-39 c = rw c.in-39.is

pub returns-in-34 : goal.returns-in-34
unfolding lookup ESCAPES
returns-in-34 c = rw c.in-34.is

pub returns-in-48 : goal.returns-in-48
unfolding lookup ESCAPES
returns-in-48 c = rw c.in-48.is

pub returns-in-98 : goal.returns-in-98
unfolding lookup ESCAPES
returns-in-98 c = rw c.in-98.is

pub returns-in-102 : goal.returns-in-102
unfolding lookup ESCAPES
returns-in-102 c = rw c.in-102.is

pub returns-in-118 : goal.returns-in-118
unfolding lookup ESCAPES
returns-in-118 c = rw c.in-118.is

pub returns-in-47 : goal.returns-in-47
unfolding lookup ESCAPES
returns-in-47 c = rw c.in-47.is

pub returns-in_default : goal.returns-in_default
unfolding one_of all_pass ESCAPES
returns-in_default c =
    let n = lookup_missed (47 ∷ 118 ∷ 102 ∷ 98 ∷ 48 ∷ 34 ∷ 39 ∷ 92 ∷ 114 ∷ 116 ∷ 110 ∷ []) ESCAPES c.args.e refl c.in_default.in_default-own.rest in
    rw n
