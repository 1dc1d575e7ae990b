-- `quote_token` meets its contract.
use mathlib.Core.Path.{sym, ◌∙◌}
use Rattle.string_tokens.proofs.quote_token.Goals as goal

pub raw_token-requires : goal.raw_token-requires
raw_token-requires c = record { in_text = c.requires.in_text; offset_value = sym c.stands_at.ensures ∙ c.if-stands_at.true; roomy = c.requires.roomy }

pub string_token-requires : goal.string_token-requires
string_token-requires c = record { in_text = c.requires.in_text; offset_value = c.requires.offset_value; offset_value_2 = sym c.stands_at.ensures ∙ c.if-stands_at.false; roomy = c.requires.roomy }
