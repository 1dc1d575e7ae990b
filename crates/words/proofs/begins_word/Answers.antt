-- `begins_word` meets its contract. Assumes nothing.
use Rattle.words.proofs.Begins.{begins_dollar, begins_slash, begins_other}
use Rattle.words.proofs.begins_word.Goals as goal

pub returns-then-class-eq-DOLLAR : goal.returns-then-class-eq-DOLLAR
returns-then-class-eq-DOLLAR c = begins_dollar _ _ _ c.if-class-eq-DOLLAR.true c.is_at.ensures

pub returns-then-class-eq-SLASH : goal.returns-then-class-eq-SLASH
returns-then-class-eq-SLASH c = begins_slash _ _ _ _ c.if-class-eq-SLASH.true c.is_at-then-class-eq-SLASH.ensures c.is_at-then-class-eq-SLASH-2.ensures

pub returns : goal.returns
returns c = begins_other _ _ c.if-class-eq-DOLLAR.false c.if-class-eq-SLASH.false c.requires.class_value
