-- `row_of` meets its contract. Assumes nothing.
use mathlib.Core.Path.{◌∙◌}
use Rattle.keywords.proofs.Laws.{slot_less, slot_entry, row_less}
use Rattle.keywords.proofs.Keywords.row_of.Goals as goal

pub bounds-self-slot : goal.bounds-self-slot
bounds-self-slot c = rw c.slot_of-slot.ensures (slot_less _)

pub returns : goal.returns
returns c =
    let value = c.from.ensures ∙ rw (c.args.self.now.slots_made, c.slot_of-slot.ensures) (slot_entry _ (slot_less _)) in
    record { value = value; upper_bound = row_less _ _ value }
