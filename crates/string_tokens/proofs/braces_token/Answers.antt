-- `braces_token` meets its contract.
use Rattle.steps.proofs.Founds.{clean_found}
use mathlib.Core.Path.{refl}
use Rattle.records.proofs.KindLaws.{interp_made}
use Rattle.string_tokens.proofs.braces_token.Goals as goal

pub returns : goal.returns
returns c = rw c.made_step.ensures (clean_found _ _ _ _ _ _ _ _ _ _ _ _ _ _ interp_made c.braces-m.ensures.one c.braces-m.ensures.made c.braces-m.ensures.errors refl refl c.braces-m.ensures.open_end)
