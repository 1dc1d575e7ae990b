-- `of` meets its contract. Assumes nothing.
use mathlib.Core.Path.{sym}
use Rattle.classes.proofs.Laws.{class_entry, class_high}
use Rattle.classes.proofs.Classes.of.Goals as goal

pub returns-then-b-lt-BEYOND_ASCII : goal.returns-then-b-lt-BEYOND_ASCII
returns-then-b-lt-BEYOND_ASCII c = rw (c.args.self.now.made, c.from.ensures) (class_entry _ c.if-b-lt-BEYOND_ASCII.true)

pub returns : goal.returns
returns c = sym (class_high _ c.if-b-lt-BEYOND_ASCII.false)
