-- `utf8::decode_valid` meets its contract. Assumes nothing.
use mathlib.Core.Path.{◌∙◌, sym}
use Rattle.characters.proofs.Sequences.{decode_end}
use Rattle.characters.proofs.Decoding.{decode_ascii}
use Rattle.characters.proofs.Valids.{two_low, two_second, two_inside, two_is, three_second, three_third, three_inside, three_is, four_second, four_third, four_fourth, four_inside, four_is}
use native.Mathlib.Omega.{arith}
use Rattle.characters.proofs.utf8.decode_valid.Goals as goal

pub returns-then-text-at : goal.returns-then-text-at
returns-then-text-at c = sym (decode_end _ _ c.if-text-at.true)

pub returns-then-a-le127 : goal.returns-then-a-le127
returns-then-a-le127 c = rw c.from.ensures (sym (decode_ascii _ _ c.if-text-at.false c.if-a-le127.true))

pub bounds-text-at-then-a-le223 : goal.bounds-text-at-then-a-le223
bounds-text-at-then-a-le223 c =
    let h = two_inside _ _ c.if-text-at.false c.requires c.if-a-le127.false c.if-a-le223.true in
    omega arith

pub code_two-requires : goal.code_two-requires
code_two-requires c =
    let a = two_low _ _ c.if-text-at.false c.requires c.if-a-le127.false in
    record { le_a = omega arith; le_b = two_second _ _ c.if-text-at.false c.requires c.if-a-le127.false c.if-a-le223.true }

pub returns-then-a-le223 : goal.returns-then-a-le223
returns-then-a-le223 c =
    c.code_two.ensures ∙ sym (two_is _ _ c.if-text-at.false c.requires c.if-a-le127.false c.if-a-le223.true)

pub bounds-text-at-then-a-le239 : goal.bounds-text-at-then-a-le239
bounds-text-at-then-a-le239 c =
    let h = three_inside _ _ c.if-text-at.false c.requires c.if-a-le223.false c.if-a-le239.true in
    omega arith

pub bounds-text-at-then-a-le239-2 : goal.bounds-text-at-then-a-le239-2
bounds-text-at-then-a-le239-2 c =
    let h = three_inside _ _ c.if-text-at.false c.requires c.if-a-le223.false c.if-a-le239.true in
    omega arith

pub code_three-requires : goal.code_three-requires
code_three-requires c =
    record { le_a = omega arith; le_b = three_second _ _ c.if-text-at.false c.requires c.if-a-le223.false c.if-a-le239.true; le_c = three_third _ _ c.if-text-at.false c.requires c.if-a-le223.false c.if-a-le239.true }

pub returns-then-a-le239 : goal.returns-then-a-le239
returns-then-a-le239 c =
    c.code_three.ensures ∙ sym (three_is _ _ c.if-text-at.false c.requires c.if-a-le223.false c.if-a-le239.true)

pub bounds-text-at-2 : goal.bounds-text-at-2
bounds-text-at-2 c =
    let h = four_inside _ _ c.if-text-at.false c.requires c.if-a-le239.false in
    omega arith

pub bounds-text-at-3 : goal.bounds-text-at-3
bounds-text-at-3 c =
    let h = four_inside _ _ c.if-text-at.false c.requires c.if-a-le239.false in
    omega arith

pub bounds-text-at-4 : goal.bounds-text-at-4
bounds-text-at-4 c =
    let h = four_inside _ _ c.if-text-at.false c.requires c.if-a-le239.false in
    omega arith

pub code_four-requires : goal.code_four-requires
code_four-requires c =
    record { le_a = omega arith; le_b = four_second _ _ c.if-text-at.false c.requires c.if-a-le239.false; le_c = four_third _ _ c.if-text-at.false c.requires c.if-a-le239.false; le_d = four_fourth _ _ c.if-text-at.false c.requires c.if-a-le239.false }

pub returns : goal.returns
returns c =
    c.code_four.ensures ∙ sym (four_is _ _ c.if-text-at.false c.requires c.if-a-le239.false)
