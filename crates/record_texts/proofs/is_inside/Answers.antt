use mathlib.Core.Path.{sym}
use Rattle.record_texts.proofs.TextLaws.{inside_past, inside_same}
use Rattle.record_texts.proofs.is_inside.Goals as goal

pub returns-then-s-offset : goal.returns-then-s-offset
returns-then-s-offset c = sym (inside_past _ _ _ c.if-s-offset.true)

pub returns : goal.returns
returns c = inside_same _ _ _ c.if-s-offset.false
