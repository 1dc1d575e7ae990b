-- `encode_char` meets its contract.
use mathlib.Core.Path.{◌∙◌, sym}
use Rattle.host_characters.specs.Characters.{written}
use Rattle.host_characters.proofs.encode_char.Goals as goal

pub returns-in_default : goal.returns-in_default
unfolding written
returns-in_default c = record { value = rw (sym c.encode_char.ensures.value ∙ c.in_default.is); buffer_after = c.encode_char.ensures.buf_after }

pub returns : goal.returns
unfolding written
returns c = record { value = rw (sym c.encode_char.ensures.value ∙ c.in-Some.is); buffer_after = c.encode_char.ensures.buf_after }
