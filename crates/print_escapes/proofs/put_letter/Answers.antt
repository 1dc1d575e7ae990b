-- `print_escapes::put_letter` meets its contract. Assumes nothing.
use Rattle.print_escapes.proofs.Literals.{high_put, letter_put, sign_put}
use Rattle.print_escapes.proofs.put_letter.Goals as goal

pub returns-then-c-ge-BEYOND_ASCII : goal.returns-then-c-ge-BEYOND_ASCII
returns-then-c-ge-BEYOND_ASCII c = high_put _ _ _ _ _ _ c.if-c-ge-BEYOND_ASCII.true c.put_char.ensures

pub returns-then-named-is_word : goal.returns-then-named-is_word
returns-then-named-is_word c =
    letter_put _ _ _ _ _ _ _ c.if-c-ge-BEYOND_ASCII.false c.is_word.ensures c.if-named-is_word.true c.put_unicode.ensures

pub returns : goal.returns
returns c =
    sign_put _ _ _ _ _ _ _ c.if-c-ge-BEYOND_ASCII.false c.is_word.ensures c.if-named-is_word.false c.put_escaped.ensures
