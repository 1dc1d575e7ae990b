-- `slot_of` meets its contract. Assumes nothing.
use mathlib.Core.Path.{refl}
use Rattle.keyword_tables.specs.Keywords.{slot_of}
use Rattle.keywords.proofs.slot_of.Goals as goal

pub returns : goal.returns
unfolding slot_of
returns c = rw (c.from-first.ensures, c.from-middle.ensures, c.from-last.ensures) refl
