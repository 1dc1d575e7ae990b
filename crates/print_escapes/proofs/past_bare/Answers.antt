-- `past_bare` meets its contract. Assumes nothing.
use Rattle.std.proofs.Common.{rules}
use Rattle.print_escapes.proofs.Walks.{run_bare}
use Rattle.print_escapes.proofs.past_bare.Goals as goal

pub returns : goal.returns
returns c = run_bare c.args.quote _ _ _ (λ i b h. search rules) c.past.ensures
