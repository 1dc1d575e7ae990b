-- `first_start` meets its contract.
use mathlib.Core.Path.{refl}
use borrow.Author.Rules.{rules}
use Rattle.record_reading.specs.Reading.{num32}
use Rattle.first_error.proofs.Starts.{first_read}
use Rattle.first_error.proofs.first_start.Goals as goal

pub returns : goal.returns
unfolding num32
returns c =
    first_read _ _ _ _ c.args.script.passed (search rules) refl
    c.run.ensures.errors_written c.get32.ensures.0
