-- `sequences::three` meets its contract. Assumes nothing.
use mathlib.Core.Path.{◌∙◌, sym}
use Rattle.characters.specs.Utf8.{three_of}
use Rattle.characters.proofs.Sequences.{tail_bounds, second_bounds}
use Rattle.sequences.proofs.three.Goals as goal

pub code_three-requires : goal.code_three-requires
code_three-requires c =
    let x = sym c.second_ok.ensures ∙ c.if-second_ok.true in
    let y = sym c.is_tail.ensures ∙ c.if-is_tail.true in
    record { le_a = c.requires.le_a; le_b = (second_bounds _ _ x).0; le_c = (tail_bounds _ y).0 }

pub returns-then-is_tail : goal.returns-then-is_tail
unfolding three_of
returns-then-is_tail c =
    let x = sym c.second_ok.ensures ∙ c.if-second_ok.true in
    let y = sym c.is_tail.ensures ∙ c.if-is_tail.true in
    c.code_three.ensures ∙ simp (x, y)

pub returns-else-is_tail : goal.returns-else-is_tail
unfolding three_of
returns-else-is_tail c =
    let x = sym c.second_ok.ensures ∙ c.if-second_ok.true in
    let y = sym c.is_tail.ensures ∙ c.if-is_tail.false in
    simp (x, y)

pub returns-else-second_ok : goal.returns-else-second_ok
unfolding three_of
returns-else-second_ok c = simp (sym c.second_ok.ensures ∙ c.if-second_ok.false)
