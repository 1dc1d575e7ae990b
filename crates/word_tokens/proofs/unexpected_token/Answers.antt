-- `unexpected_token` meets its contract.
use Rattle.steps.proofs.Founds.{part_found}
use Rattle.word_tokens.proofs.unexpected_token.Goals as goal

pub returns : goal.returns
returns c = rw c.part_step.ensures (part_found _ _ _ _ _ _ _ _ _ _ c.unexpected-m.ensures.one c.unexpected-m.ensures.part c.unexpected-m.ensures.written c.unexpected-m.ensures.open_end)
