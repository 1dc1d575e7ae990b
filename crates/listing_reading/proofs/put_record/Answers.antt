-- `put_record` meets its contract. Assumes nothing.
use mathlib.Core.Path.{sym, ◌∙◌}
use Rattle.listing_reading.proofs.Words.{text_room, text_put, fixed_room, fixed_put}
use Rattle.listing_reading.proofs.put_record.Goals as goal

pub put_token-requires : goal.put_token-requires
put_token-requires c = text_room _ _ _ _ c.args.r _ _ (sym c.has_text.ensures ∙ c.if-has_text.true) c.text.ensures.result_value c.requires

pub returns-then-has_text : goal.returns-then-has_text
returns-then-has_text c = text_put _ _ _ _ c.args.r _ _ _ _ _ (sym c.has_text.ensures ∙ c.if-has_text.true) c.text.ensures.result_value c.put_token.ensures

pub put_fixed-requires : goal.put_fixed-requires
put_fixed-requires c = fixed_room _ _ _ _ c.args.r _ (sym c.has_text.ensures ∙ c.if-has_text.false) c.requires

pub returns : goal.returns
returns c = fixed_put _ _ _ _ c.args.r _ _ _ _ (sym c.has_text.ensures ∙ c.if-has_text.false) c.put_fixed.ensures
