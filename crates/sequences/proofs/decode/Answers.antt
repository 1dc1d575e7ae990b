-- `sequences::decode` meets its contract. Assumes nothing.
use mathlib.Core.Path.{◌∙◌, sym}
use Rattle.characters.proofs.Sequences.{decode_end, decode_seq}
use Rattle.characters.proofs.Decoding.{decode_ascii}
use Rattle.sequences.proofs.decode.Goals as goal

pub returns-then-text-at : goal.returns-then-text-at
returns-then-text-at c = sym (decode_end _ _ c.if-text-at.true)

pub returns-then-a-le127 : goal.returns-then-a-le127
returns-then-a-le127 c = rw c.from.ensures (sym (decode_ascii _ _ c.if-text-at.false c.if-a-le127.true))

pub returns : goal.returns
returns c =
    c.sequence_of.ensures ∙ rw (c.byte_at-b.ensures, c.byte_at-c.ensures, c.byte_at-d.ensures) (sym (decode_seq _ _ c.if-text-at.false))
