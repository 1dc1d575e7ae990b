-- `docs::put_line` meets its contract. Assumes nothing.
use mathlib.Core.Path.{sym, ◌∙◌}
use borrow.Author.Tests.{eqb-true, eqb-false}
use Rattle.docs.proofs.Cleaning.{put_empty, put_full}
use Rattle.docs.proofs.put_line.Goals as goal

pub returns-then-is_empty : goal.returns-then-is_empty
returns-then-is_empty c =
    put_empty c.args.feeds c.args.line.now c.args.texts.now c.args.at (eqb-true _ 0 (sym c.is_empty.ensures ∙ c.if-is_empty.true))

pub returns : goal.returns
returns c =
    put_full c.args.feeds c.args.line.now _ _ _ _ _ _ (eqb-false _ 0 (sym c.is_empty.ensures ∙ c.if-is_empty.false))
    c.put_feeds-place.ensures c.put_bytes.ensures
