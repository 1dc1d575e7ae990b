-- What is handed out is `written` of the answer: nothing for a read that failed, and else the listing, which the buffer has room for.
use Rattle.std.proofs.Common.{sym, ◌∙◌}
use Rattle.listing.proofs.Whole.{front_is_listing}
use Rattle.tokens.proofs.Writing.{written_read, written_failed}
use Rattle.tokens.proofs.listed.Goals as goal

pub returns-in_default : goal.returns-in_default
returns-in_default c = sym (written_failed _ _ _ c.in_default.is)

pub returns : goal.returns
returns c =
    front_is_listing _ _ _ _ c.requires.in_bounds (c.list-k.ensures.put, c.list-k.ensures.upper_bound)
    ∙ sym (written_read _ _ _ c.in-Ok.is)
