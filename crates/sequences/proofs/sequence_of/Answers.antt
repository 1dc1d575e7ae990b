-- `sequences::sequence_of` meets its contract. Assumes nothing.
use mathlib.Core.Path.{◌∙◌, sym}
use Rattle.characters.proofs.Sequences.{seq_one, seq_low, seq_two, seq_three, seq_four, seq_high}
use Rattle.sequences.proofs.sequence_of.Goals as goal

pub returns-then-a-le127 : goal.returns-then-a-le127
returns-then-a-le127 c = rw c.from.ensures (sym (seq_one _ _ _ _ c.if-a-le127.true))

pub returns-then-a-lt194 : goal.returns-then-a-lt194
returns-then-a-lt194 c = sym (seq_low _ _ _ _ c.if-a-le127.false c.if-a-lt194.true)

pub returns-then-a-le223 : goal.returns-then-a-le223
returns-then-a-le223 c = c.two.ensures ∙ sym (seq_two _ _ _ _ c.if-a-lt194.false c.if-a-le223.true)

pub returns-then-a-le239 : goal.returns-then-a-le239
returns-then-a-le239 c = c.three.ensures ∙ sym (seq_three _ _ _ _ c.if-a-le223.false c.if-a-le239.true)

pub returns-then-a-le244 : goal.returns-then-a-le244
returns-then-a-le244 c = c.four.ensures ∙ sym (seq_four _ _ _ _ c.if-a-le239.false c.if-a-le244.true)

pub returns : goal.returns
returns c = sym (seq_high _ _ _ _ c.if-a-le244.false)
