-- `utf8_classes::is_barred` meets its contract. Assumes nothing.
use mathlib.Core.Path.{sym}
use Rattle.utf8_classes.proofs.Classes.{barred_short, barred_two}
use Rattle.utf8_classes.proofs.is_barred.Goals as goal

pub returns-then-text-lt2 : goal.returns-then-text-lt2
returns-then-text-lt2 c = sym (barred_short _ c.if-text-lt2.true)

pub returns : goal.returns
returns c =
    rw (c.has_own_range.ensures, c.is_tail.ensures, c.second_ok.ensures) (sym (barred_two _ c.if-text-lt2.false))
