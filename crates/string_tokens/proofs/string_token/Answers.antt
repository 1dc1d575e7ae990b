-- `string_token` meets its contract.
use Rattle.string_tokens.proofs.Insides.{never_over, first_found}
use Rattle.bridge.proofs.Reaches.{one_on}
use native.Mathlib.Omega.{arith}
use Rattle.string_tokens.proofs.string_token.Goals as goal

pub piece-x-requires : goal.piece-x-requires
piece-x-requires c = record { within = rw c.along-inner.ensures (one_on _ _ 34 (omega arith) (omega arith) c.requires.in_text c.requires.offset_value).within; room = record { texts = omega arith; errors = omega arith } }

pub returns-in_default : goal.returns-in_default
returns-in_default c = never_over _ _ _ _ _ _ _ _ _ _ _ _ c.in_default.is c.piece-x.ensures

pub returns : goal.returns
returns c = rw c.given_step.ensures (first_found _ _ _ _ _ _ _ _ _ _ _ c.in-Token.is c.piece-x.ensures c.along-inner.ensures c.requires.in_text c.requires.offset_value c.requires.offset_value_2)
