-- `word_token` meets its contract.
use Rattle.word_tokens.proofs.Words.{word_found}
use Rattle.word_tokens.proofs.Begun.{word_kind}
use Rattle.word_tokens.proofs.word_token.Goals as goal

pub returns : goal.returns
returns c = λ texts errors. rw c.word_step.ensures (word_found _ _ _ texts _ errors _ c.word_at-w.ensures c.requires.in_text (word_kind _ _ _ _ _ _ c.requires.begun c.word_at-w.ensures))
