-- `is_keyword` meets its contract. Assumes nothing.
use mathlib.Core.Path.{◌≡◌}
use Rattle.lexemes.proofs.Lists.{all_below}
use Rattle.keywords.proofs.Laws.{same_at}
use Rattle.keywords.proofs.Keywords.is_keyword.Given as goal

abbrev pub invariant-loop-i : goal.invariant-loop-i
invariant-loop-i l = l.same ≡ all_below (same_at l.name l.row) l.i
