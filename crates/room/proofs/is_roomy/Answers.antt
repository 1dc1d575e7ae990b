-- `is_roomy` meets its contract. Assumes nothing.
use mathlib.Core.Path.{refl}
use Rattle.room.specs.Room.{most_tokens, most_texts, most_errors, roomy}
use Rattle.room.proofs.is_roomy.Goals as goal

pub returns : goal.returns
unfolding roomy most_tokens most_texts most_errors
returns c = refl
