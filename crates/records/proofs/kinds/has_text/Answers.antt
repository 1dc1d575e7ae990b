use mathlib.Core.Path.{sym}
use Rattle.records.proofs.KindLaws.{text_low, text_key, text_none}
use Rattle.records.proofs.kinds.has_text.Goals as goal

pub returns-in-39 : goal.returns-in-39
returns-in-39 c = sym (text_key _ c.in-39.is)

pub returns-in-0-to-5 : goal.returns-in-0-to-5
returns-in-0-to-5 c = sym (text_low _ c.in-0-to-5.if-kind-lt6-own.true)

pub returns-in_default : goal.returns-in_default
returns-in_default c = sym (text_none _ c.in_default.if-kind-lt6-own.false c.in_default.in_default-own.rest.1)
