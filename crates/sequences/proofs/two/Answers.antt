-- `sequences::two` meets its contract. Assumes nothing.
use mathlib.Core.Path.{◌∙◌, sym}
use Rattle.characters.specs.Utf8.{two_of}
use Rattle.characters.proofs.Sequences.{tail_bounds}
use native.Mathlib.Omega.{arith}
use Rattle.sequences.proofs.two.Goals as goal

pub code_two-requires : goal.code_two-requires
code_two-requires c =
    record { le_a = omega arith; le_b = (tail_bounds _ (sym c.is_tail.ensures ∙ c.if-is_tail.true)).0 }

pub returns-then-is_tail : goal.returns-then-is_tail
unfolding two_of
returns-then-is_tail c =
    let x = sym c.is_tail.ensures ∙ c.if-is_tail.true in
    c.code_two.ensures ∙ simp x

pub returns-else-is_tail : goal.returns-else-is_tail
unfolding two_of
returns-else-is_tail c = simp (sym c.is_tail.ensures ∙ c.if-is_tail.false)
