-- `text_parts::lines::past_empty` meets its contract. The invariant: the same is left as at the beginning. The measure is what the part
use Rattle.std.specs.Prelude.{is_some}
use mathlib.Core.Path.{sym, ◌∙◌, ap}
use mathlib.Core.Bool.{false≢true}
use native.Mathlib.Omega.{arith}
use Rattle.text_parts.specs.declared.lines.Cursor.{Cursor}
use Rattle.text_parts.proofs.Walking.{pass_start, pass_more, pass_end}
use Rattle.text_parts.proofs.lines.past_empty.Goals as goal

pub loop-at-init : goal.loop-at-init
loop-at-init c = pass_start _ _ c.requires

pub returns-then-at : goal.returns-then-at
returns-then-at c = pass_end _ _ _ c.loop-at.invariant (λ _ _. c.if-at.true)

pub returns-in_default : goal.returns-in_default
returns-in_default c = pass_end _ _ _ c.loop-at.invariant (λ n f. absurd (false≢true (ap is_some (sym c.in_default.is ∙ f))))

pub feeds_after-feeds-requires : goal.feeds_after-feeds-requires
feeds_after-feeds-requires c =
    omega (arith, c.loop-at.invariant.good.few, c.loop-at.invariant.good.goes _ c.in-Some.is, c.loop-at.invariant.good.within _ c.in-Some.is)

pub line_at-l-requires : goal.line_at-l-requires
line_at-l-requires c = c.loop-at.invariant.good.within _ c.in-Some.is

pub loop-at-smaller : goal.loop-at-smaller
loop-at-smaller c =
    let t = ap (λ (d : Cursor). d.to) c.at_line-at.ensures in
    omega (arith, t, c.loop-at.invariant.good.goes _ c.in-Some.is, c.line_at-l.ensures.begins, c.line_at-l.ensures.forth, c.line_at-l.ensures.inside)

pub loop-at-preserved : goal.loop-at-preserved
loop-at-preserved c =
    pass_more _ _ _ c.loop-at.invariant c.if-at.false _ c.in-Some.is _ _ _ c.line_at-l.ensures
    c.feeds_after-feeds.ensures c.at_line-at.ensures
