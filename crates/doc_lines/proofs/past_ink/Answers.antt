-- `past_ink` meets its contract. Assumes nothing.
use Rattle.std.proofs.Common.{rules}
use Rattle.runs.proofs.Runs.{run_as}
use Rattle.doc_lines.proofs.past_ink.Goals as goal

pub returns : goal.returns
returns c = run_as (λ i b h. search rules) c.past.ensures
