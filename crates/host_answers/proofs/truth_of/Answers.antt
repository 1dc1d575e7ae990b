use Rattle.std.proofs.Common.{◌≡◌, refl, ◌∙◌, Bool, true, false}
use mir.Val.{bool_byte}
use Rattle.host_answers.specs.Answers.{truth}
use Rattle.host_answers.proofs.truth_of.Goals as goal

as_truth : (b : Bool) → bool_byte b ≡ truth b
unfolding truth
as_truth true = refl
as_truth false = refl

pub returns : goal.returns
returns c = c.from.ensures ∙ as_truth c.args.b
