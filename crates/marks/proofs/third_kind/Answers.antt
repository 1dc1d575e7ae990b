-- `third_kind` meets its contract. Assumes nothing.
use mathlib.Core.Path.{refl}
use native.Mathlib.Omega.{arith}
use borrow.Author.Tests.{ne_eqb}
use Rattle.rules.specs.Tables.{THIRDS, lookup}
use Rattle.marks.specs.Marks.{third_kind}
use Rattle.marks.proofs.third_kind.Goals as goal

pub returns-in-94 : goal.returns-in-94
unfolding third_kind lookup THIRDS
returns-in-94 c = rw c.in-94.is refl

pub returns-in-95 : goal.returns-in-95
unfolding third_kind lookup THIRDS
returns-in-95 c = rw c.in-95.is refl

pub returns-in-116 : goal.returns-in-116
unfolding third_kind lookup THIRDS
returns-in-116 c = rw c.in-116.is refl

pub returns-in_default : goal.returns-in_default
unfolding third_kind lookup THIRDS
returns-in_default c = rw (ne_eqb c.args.kind 94 (λ e. omega arith), ne_eqb c.args.kind 95 (λ e. omega arith), ne_eqb c.args.kind 116 (λ e. omega arith)) refl
