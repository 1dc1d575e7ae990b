-- `print_escapes::put_literal` meets its contract. Assumes nothing.
use Prim.Native.Nat.{ℕ}
use native.Mathlib.Omega.{arith}
use lib.ListN.{length-take, length-drop}
use Rattle.print_escapes.proofs.Bare.{unicode_place}
use Rattle.print_escapes.proofs.Literals.{word_put, plain_put}
use Rattle.print_escapes.proofs.put_literal.Goals as goal

pub put_escapes-requires : goal.put_escapes-requires
put_escapes-requires c =
    let r = unicode_place _ _ _ _ _ c.put_unicode-place.ensures in
    record { text_bound = omega (arith, length-take {A = ℕ}, length-drop {A = ℕ}, c.requires.text_bound); at_bound = omega (arith, r, c.requires.at_bound) }

pub returns-then-named-is_word : goal.returns-then-named-is_word
returns-then-named-is_word c =
    word_put _ _ _ c.requires.text_some c.is_word.ensures _ _ _ _ _ _ c.if-named-is_word.true c.put_unicode-place.ensures c.put_escapes.ensures

pub returns : goal.returns
returns c =
    plain_put _ _ _ c.requires.text_some c.is_word.ensures _ _ _ _ c.if-named-is_word.false c.put_escapes-2.ensures
