-- `text_parts::units::part_of` meets its contract. Assumes nothing.
use mathlib.Core.Path.{sym, ap}
use Rattle.text_parts.specs.Units.{part_of}
use Rattle.text_parts.proofs.units.part_of.Goals as goal

pub returns-in-Own : goal.returns-in-Own
returns-in-Own c =
    ap (part_of c.args.from c.args.to) (sym c.in-Own.is)

pub returns-in-Char : goal.returns-in-Char
returns-in-Char c =
    ap (part_of c.args.from c.args.to) (sym c.in-Char.is)
