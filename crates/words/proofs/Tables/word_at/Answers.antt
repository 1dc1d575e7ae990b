-- `word_at` meets its contract. Assumes nothing.
use Rattle.words.proofs.Begins.{letter_there, letter_word, digit_there, digit_word, dollar_word, mark_bounds, mark_word}
use Rattle.words.proofs.Tables.word_at.Goals as goal

pub name_at-requires : goal.name_at-requires
name_at-requires c =
    let q = letter_there c.args.text.now c.args.at c.args.class c.requires c.if-class-eq-LETTER.true in record { at_in_bounds = q.0; at_value = q.1 }

pub returns-then-class-eq-LETTER : goal.returns-then-class-eq-LETTER
returns-then-class-eq-LETTER c =
    letter_word c.args.text.now c.args.at c.args.class c.requires c.if-class-eq-LETTER.true _ _ _ c.name_at.ensures

pub numeral_at-requires : goal.numeral_at-requires
numeral_at-requires c =
    let q = digit_there c.args.text.now c.args.at c.args.class c.requires c.if-class-eq-DIGIT.true in record { at_in_bounds = q.0; at_value = q.1 }

pub returns-then-class-eq-DIGIT : goal.returns-then-class-eq-DIGIT
returns-then-class-eq-DIGIT c =
    digit_word c.args.text.now c.args.at c.args.class c.requires c.if-class-eq-DIGIT.true _ _ _ c.numeral_at.ensures

pub returns-then-class-eq-DOLLAR : goal.returns-then-class-eq-DOLLAR
returns-then-class-eq-DOLLAR c =
    dollar_word c.args.text.now c.args.at c.args.class c.requires c.if-class-eq-DOLLAR.true

pub mark_at-requires : goal.mark_at-requires
mark_at-requires c =
    let bounds = mark_bounds c.args.text.now c.args.at c.args.class c.requires c.if-class-eq-LETTER.false c.if-class-eq-DIGIT.false c.if-class-eq-DOLLAR.false in
    record { first_value = c.requires.class_is; le_first = bounds.0; first_bound = bounds.1 }

pub returns : goal.returns
returns c =
    mark_word c.args.text.now c.args.at c.args.class c.requires c.if-class-eq-LETTER.false c.if-class-eq-DIGIT.false c.if-class-eq-DOLLAR.false _ _ _ c.mark_at.ensures
