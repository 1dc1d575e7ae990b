-- `put_element` meets its contract. By the class of what stands there. Assumes nothing.
use mathlib.Core.Path.{sym, ◌∙◌}
use native.Mathlib.Omega.{arith}
use Rattle.outside_steps.proofs.Choices.{class_in, word_class, quote_stands, apostrophe_stands, brace_stands, doc_stands}
use Rattle.print_steps.proofs.put_element.Goals as goal

pub put_quoted-requires : goal.put_quoted-requires
put_quoted-requires c =
    record { within = c.requires.within; from_value = quote_stands _ _ _ c.requires.chosen.class_is c.if-class-eq-QUOTE.true; at_bound = c.requires.at_bound }

pub put_character-requires : goal.put_character-requires
put_character-requires c =
    record { within = c.requires.within; from_value = apostrophe_stands _ _ _ c.requires.chosen.class_is c.if-class-eq-APOSTROPHE.true; at_bound = c.requires.at_bound }

pub begins_word-requires : goal.begins_word-requires
begins_word-requires c =
    record {
      at_in_bounds = class_in c.args.text.now c.args.from _ c.requires.chosen.class_is c.requires.chosen.some;
      class_value = word_class c.args.text.now c.args.from _ c.requires.chosen.class_is c.requires.chosen.kept c.requires.chosen.some c.if-class-eq-QUOTE.false c.if-class-eq-APOSTROPHE.false;
    }

pub put_word-word-requires : goal.put_word-word-requires
put_word-word-requires c =
    let f = sym c.begins_word.ensures ∙ c.if-begins_word.true in
    record { within = c.requires.within; begun = record { class_is = c.requires.chosen.class_is; begins = f }; at_bound = omega (arith, c.requires.at_bound) }

pub put_braces-requires : goal.put_braces-requires
put_braces-requires c =
    let f = sym c.begins_word.ensures ∙ c.if-begins_word.false in
    record { within = c.requires.within; from_value = brace_stands _ _ _ c.requires.chosen.class_is c.if-class-eq-DOLLAR.true f; at_bound = c.requires.at_bound }

pub put_doc-requires : goal.put_doc-requires
put_doc-requires c =
    let f = sym c.begins_word.ensures ∙ c.if-begins_word.false in
    record { within = c.requires.within; from_value = doc_stands _ _ _ c.requires.chosen.class_is c.requires.chosen.kept f c.requires.chosen.some c.if-class-eq-QUOTE.false c.if-class-eq-APOSTROPHE.false c.if-class-eq-DOLLAR.false; at_bound = c.requires.at_bound }
