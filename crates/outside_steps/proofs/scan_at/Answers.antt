-- `scan_at` meets its contract.
use mathlib.Core.Path.{sym, ◌∙◌}
use Rattle.steps.proofs.Giving.{found_given}
use Rattle.outside_steps.proofs.Choices.{class_in, word_class, quote_stands, apostrophe_stands, brace_stands, doc_stands}
use Rattle.outside_steps.proofs.scan_at.Goals as goal

pub other_step-requires : goal.other_step-requires
other_step-requires c = record { in_text = c.requires.in_text; other = record { kept = c.requires.kept; class_is = sym c.at-class.ensures ∙ c.if-class-eq-OTHER.true }; roomy = c.requires.roomy }

pub quote_token-requires : goal.quote_token-requires
quote_token-requires c = record { in_text = c.requires.in_text; offset_value = quote_stands _ _ _ c.at-class.ensures c.if-class-eq-QUOTE.true; roomy = c.requires.roomy }

pub returns-then-class-eq-QUOTE : goal.returns-then-class-eq-QUOTE
returns-then-class-eq-QUOTE c = found_given _ _ _ _ _ _ _ _ _ c.quote_token.result c.quote_token.ensures

pub letter_token-requires : goal.letter_token-requires
letter_token-requires c = record { in_text = c.requires.in_text; offset_value = apostrophe_stands _ _ _ c.at-class.ensures c.if-class-eq-APOSTROPHE.true; roomy = c.requires.roomy }

pub returns-then-class-eq-APOSTROPHE : goal.returns-then-class-eq-APOSTROPHE
returns-then-class-eq-APOSTROPHE c = found_given _ _ _ _ _ _ _ _ _ c.letter_token.result c.letter_token.ensures

pub begins_word-requires : goal.begins_word-requires
begins_word-requires c =
    record {
      at_in_bounds = class_in c.args.text.now c.args.p.offset _ c.at-class.ensures c.if-class-eq-OTHER.false;
      class_value = word_class c.args.text.now c.args.p.offset _ c.at-class.ensures c.requires.kept c.if-class-eq-OTHER.false c.if-class-eq-QUOTE.false c.if-class-eq-APOSTROPHE.false;
    }

pub word_token-requires : goal.word_token-requires
word_token-requires c = record { in_text = c.requires.in_text; begun = record { class_is = c.at-class.ensures; begins = sym c.begins_word.ensures ∙ c.if-begins_word.true } }

pub returns-then-begins_word : goal.returns-then-begins_word
returns-then-begins_word c = found_given _ _ _ _ _ _ _ _ _ c.word_token.result (c.word_token.ensures _ _)

pub braces_token-requires : goal.braces_token-requires
braces_token-requires c = record { in_text = c.requires.in_text; offset_value = brace_stands _ _ _ c.at-class.ensures c.if-class-eq-DOLLAR.true (sym c.begins_word.ensures ∙ c.if-begins_word.false); roomy = c.requires.roomy }

pub returns-then-class-eq-DOLLAR : goal.returns-then-class-eq-DOLLAR
returns-then-class-eq-DOLLAR c = found_given _ _ _ _ _ _ _ _ _ c.braces_token.result c.braces_token.ensures

pub doc_token-requires : goal.doc_token-requires
doc_token-requires c = record { in_text = c.requires.in_text; documented = doc_stands _ _ _ c.at-class.ensures c.requires.kept (sym c.begins_word.ensures ∙ c.if-begins_word.false) c.if-class-eq-OTHER.false c.if-class-eq-QUOTE.false c.if-class-eq-APOSTROPHE.false c.if-class-eq-DOLLAR.false; roomy = c.requires.roomy }

pub returns : goal.returns
returns c = found_given _ _ _ _ _ _ _ _ _ c.doc_token.result c.doc_token.ensures
