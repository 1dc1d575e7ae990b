use mathlib.Core.Path.{sym}
use Rattle.spellings.proofs.Unnamed.{no_spelling}
use Rattle.spellings.proofs.spelling.Goals as goal

pub returns-in_default : goal.returns-in_default
returns-in_default c = sym (no_spelling c.args.kind c.in_default.in_default-own.rest)
