use mathlib.Core.Path.{sym}
use Rattle.records.proofs.KindLaws.{made_range, made_key, made_low, made_none}
use Rattle.records.proofs.kinds.is_made.Goals as goal

pub returns-in-121 : goal.returns-in-121
returns-in-121 c = sym (made_key _ c.in-121.is)

pub returns-in-2-to-3 : goal.returns-in-2-to-3
returns-in-2-to-3 c = sym (made_range _ c.in-2-to-3.if-kind-lt2-own.false c.in-2-to-3.if-kind-lt4-own.true)

pub returns-in_default : goal.returns-in_default
returns-in_default c = sym (made_low _ c.in_default.if-kind-lt2-own.true)

pub returns-in_default-2 : goal.returns-in_default-2
returns-in_default-2 c = sym (made_none _ c.in_default.if-kind-lt4-own.false c.in_default.in_default-own.rest.1)
