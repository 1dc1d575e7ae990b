-- `number_at` meets its contract. Assumes nothing.
use mathlib.Core.Path.{sym, ◌∙◌}
use Rattle.numbers.proofs.Numbers.{hex_there, binary_there, hex_word, binary_word, number_word}
use Rattle.numbers.proofs.number_at.Goals as goal

pub past_hex-digits-requires : goal.past_hex-digits-requires
past_hex-digits-requires c =
    hex_there c.args.text.now c.args.at (sym c.zero_then.ensures ∙ c.if-zero_then.true)

pub returns-then-zero_then : goal.returns-then-zero_then
returns-then-zero_then c =
    hex_word _ _ _ _ (sym c.zero_then.ensures ∙ c.if-zero_then.true) c.past_hex-digits.ensures c.past_suffix-end.ensures

pub past_binary-digits-requires : goal.past_binary-digits-requires
past_binary-digits-requires c =
    binary_there c.args.text.now c.args.at (sym c.zero_then-2.ensures ∙ c.if-zero_then-2.true)

pub returns-then-zero_then-2 : goal.returns-then-zero_then-2
returns-then-zero_then-2 c =
    binary_word _ _ _ _ (sym c.zero_then.ensures ∙ c.if-zero_then.false) (sym c.zero_then-2.ensures ∙ c.if-zero_then-2.true) c.past_binary-digits.ensures c.past_suffix-end-then-zero_then-2.ensures

pub returns : goal.returns
returns c =
    number_word _ _ _ _ _ (sym c.zero_then.ensures ∙ c.if-zero_then.false) (sym c.zero_then-2.ensures ∙ c.if-zero_then-2.false) c.decimal_at.ensures
