-- `letter_token` meets its contract.
use Rattle.steps.proofs.Founds.{made_found}
use Rattle.records.proofs.KindLaws.{char_made}
use native.Mathlib.Omega.{arith}
use Rattle.string_tokens.proofs.letter_token.Goals as goal

pub character-m-requires : goal.character-m-requires
character-m-requires c = record { within = c.requires.in_text; offset_value = c.requires.offset_value; room = record { texts = omega arith; errors = omega arith } }

pub returns : goal.returns
returns c = rw c.written_token.ensures (made_found _ _ _ _ _ _ _ _ _ _ _ _ _ _ char_made c.character-m.ensures.one c.character-m.ensures.made c.character-m.ensures.written c.character-m.ensures.open_end)
