-- `word_end` meets its contract. Assumes nothing.
use mathlib.Core.Path.{refl}
use native.Mathlib.Omega.{arith}
use Rattle.words.proofs.Begins.{letter_there, digit_there, mark_bounds, mark_word}
use Rattle.print_words.proofs.Ends.{begun_there, name_ends, number_ends, dollar_ends}
use Rattle.print_words.proofs.word_end.Goals as goal

pub name_end-requires : goal.name_end-requires
name_end-requires c =
    (letter_there c.args.text.now c.args.at c.args.class c.requires c.if-class-eq-LETTER.true).0

pub returns-then-class-eq-LETTER : goal.returns-then-class-eq-LETTER
returns-then-class-eq-LETTER c =
    name_ends c.args.text.now c.args.at c.args.class c.requires _ c.if-class-eq-LETTER.true c.name_end.ensures

pub number_at-n-requires : goal.number_at-n-requires
number_at-n-requires c =
    let q = digit_there c.args.text.now c.args.at c.args.class c.requires c.if-class-eq-DIGIT.true in record { at_in_bounds = q.0; at_value = q.1 }

pub returns-then-class-eq-DIGIT : goal.returns-then-class-eq-DIGIT
returns-then-class-eq-DIGIT c =
    number_ends c.args.text.now c.args.at c.args.class c.requires _ _ c.if-class-eq-DIGIT.true c.number_at-n.ensures

pub overflow_add-result : goal.overflow_add-result
overflow_add-result c =
    omega (arith, begun_there c.args.text.now c.args.at c.args.class c.requires)

pub returns-then-class-eq-DOLLAR : goal.returns-then-class-eq-DOLLAR
returns-then-class-eq-DOLLAR c =
    dollar_ends c.args.text.now c.args.at c.args.class c.requires c.if-class-eq-DOLLAR.true

pub mark_at-w-requires : goal.mark_at-w-requires
mark_at-w-requires c =
    let q = mark_bounds c.args.text.now c.args.at c.args.class c.requires c.if-class-eq-LETTER.false c.if-class-eq-DIGIT.false c.if-class-eq-DOLLAR.false in record { first_value = c.requires.class_is; le_first = q.0; first_bound = q.1 }

pub overflow_add-result-2 : goal.overflow_add-result-2
overflow_add-result-2 c = omega (arith, c.mark_at-w.ensures.inside)

pub returns : goal.returns
returns c =
    record {
      kind = _;
      size = _;
      extent = _;
      word = mark_word c.args.text.now c.args.at c.args.class c.requires c.if-class-eq-LETTER.false c.if-class-eq-DIGIT.false c.if-class-eq-DOLLAR.false _ _ _ c.mark_at-w.ensures;
      ends = refl;
    }
