-- `sequences::four` meets its contract. Assumes nothing.
use mathlib.Core.Path.{◌∙◌, sym}
use Rattle.characters.specs.Utf8.{four_of}
use Rattle.characters.proofs.Sequences.{tail_bounds, second_bounds}
use Rattle.sequences.proofs.four.Goals as goal

pub code_four-requires : goal.code_four-requires
code_four-requires c =
    let x = sym c.second_ok.ensures ∙ c.if-second_ok.true in
    let y = sym c.is_tail.ensures ∙ c.if-is_tail.true in
    let z = sym c.is_tail-then-is_tail.ensures ∙ c.if-is_tail-2.true in
    record { le_a = c.requires.le_a; le_b = (second_bounds _ _ x).0; le_c = (tail_bounds _ y).0; le_d = (tail_bounds _ z).0 }

pub returns-then-is_tail-2 : goal.returns-then-is_tail-2
unfolding four_of
returns-then-is_tail-2 c =
    let x = sym c.second_ok.ensures ∙ c.if-second_ok.true in
    let y = sym c.is_tail.ensures ∙ c.if-is_tail.true in
    let z = sym c.is_tail-then-is_tail.ensures ∙ c.if-is_tail-2.true in
    c.code_four.ensures ∙ simp (x, y, z)

pub returns-else-is_tail-2 : goal.returns-else-is_tail-2
unfolding four_of
returns-else-is_tail-2 c =
    let x = sym c.second_ok.ensures ∙ c.if-second_ok.true in
    let y = sym c.is_tail.ensures ∙ c.if-is_tail.true in
    let z = sym c.is_tail-then-is_tail.ensures ∙ c.if-is_tail-2.false in
    simp (x, y, z)

pub returns-else-is_tail : goal.returns-else-is_tail
unfolding four_of
returns-else-is_tail c =
    let x = sym c.second_ok.ensures ∙ c.if-second_ok.true in
    let y = sym c.is_tail.ensures ∙ c.if-is_tail.false in
    simp (x, y)

pub returns-else-second_ok : goal.returns-else-second_ok
unfolding four_of
returns-else-second_ok c = simp (sym c.second_ok.ensures ∙ c.if-second_ok.false)
