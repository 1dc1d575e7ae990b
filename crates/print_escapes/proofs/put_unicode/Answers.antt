-- `print_escapes::put_unicode` meets its contract. Assumes nothing.
use mathlib.Core.Path.{◌∙◌}
use Rattle.print_escapes.proofs.Bare.{unicode_put, digit_printed}
use Rattle.print_escapes.proofs.put_unicode.Goals as goal

pub returns : goal.returns
returns c =
    unicode_put _ _ _ _ _ _ _ _ _ _ _ (c.hex_digit.ensures ∙ digit_printed _) (c.hex_digit-2.ensures ∙ digit_printed _) c.put_bytes-front.ensures c.put_byte-high.ensures c.put_byte.ensures
