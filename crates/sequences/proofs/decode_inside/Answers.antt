-- `sequences::decode_inside` meets its contract. Assumes nothing.
use mathlib.Core.Path.{◌∙◌, sym}
use Rattle.characters.proofs.Sequences.{decode_seq}
use native.Mathlib.Omega.{arith}
use Rattle.sequences.proofs.decode_inside.Goals as goal

pub returns : goal.returns
returns c = c.sequence_of.ensures ∙ sym (decode_seq _ _ (omega arith))
