-- `other_step` meets its contract.
use mathlib.Core.Path.{subst}
use Rattle.bridge.specs.Bridge.{NextAt}
use Rattle.skipping.proofs.Stops.{kept_white}
use Rattle.steps.proofs.Giving.{end_gives, found_given}
use Rattle.word_tokens.proofs.Others.{other_nothing}
use Rattle.word_tokens.proofs.other_step.Goals as goal

pub returns-in_default : goal.returns-in_default
returns-in_default c = let n = subst (NextAt c.args.text.now c.args.p) c.in_default.is c.look.ensures in rw c.end_step.ensures (end_gives _ _ _ _ _ _ c.requires.in_text n)

pub unexpected_token-requires : goal.unexpected_token-requires
unexpected_token-requires c = let n = subst (NextAt c.args.text.now c.args.p) c.in-Some.is c.look.ensures in record { in_text = c.requires.in_text; offset_value = other_nothing _ _ _ _ n.0.chars (kept_white _ c.requires.other.kept) c.requires.other.class_is; roomy = c.requires.roomy }

pub returns : goal.returns
returns c = found_given _ _ _ _ _ _ _ _ _ c.unexpected_token.result c.unexpected_token.ensures
