-- `raw_token` meets its contract.
use Rattle.steps.proofs.Founds.{made_found}
use Rattle.records.proofs.KindLaws.{string_made}
use native.Mathlib.Omega.{arith}
use Rattle.string_tokens.proofs.raw_token.Goals as goal

pub raw-m-requires : goal.raw-m-requires
raw-m-requires c = record { within = c.requires.in_text; offset_value = c.requires.offset_value; used_texts_bound = omega arith; used_errors_bound = omega arith }

pub returns : goal.returns
returns c = rw c.written_token.ensures (made_found _ _ _ _ _ _ _ _ _ _ _ _ _ _ string_made c.raw-m.ensures.one c.raw-m.ensures.made c.raw-m.ensures.written c.raw-m.ensures.open_end)
