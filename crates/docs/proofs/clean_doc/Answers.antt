-- `docs::clean_doc` meets its contract. The invariant: the lines still to be written, written from here on, give the cleaned text
use Rattle.docs.proofs.Cleaning.{clean_start, line_slice, clean_last, clean_more}
use Rattle.docs.proofs.clean_doc.Goals as goal

pub loop-next-init : goal.loop-next-init
loop-next-init c = clean_start _ _ _

pub returns-in_default : goal.returns-in_default
returns-in_default c =
    clean_last _ _ _ _ _ _ _ c.loop-next.invariant c.line_at-l.result c.line_at-l.ensures _ _ (line_slice c.args.part.now c.line_at-l.result.from c.line_at-l.result.to c.loop-next.feeds c.put_line-end.ensures) c.in_default.is

pub loop-next-preserved : goal.loop-next-preserved
loop-next-preserved c =
    clean_more _ _ _ _ _ _ _ c.loop-next.invariant c.line_at-l.result c.line_at-l.ensures _ _ (line_slice c.args.part.now c.line_at-l.result.from c.line_at-l.result.to c.loop-next.feeds c.put_line-end.ensures) _ _ c.in-Some.is
    c.feeds_after-feeds.ensures
