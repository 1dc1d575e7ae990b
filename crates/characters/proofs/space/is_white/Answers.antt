-- `is_white` meets its contract. The front end makes the match's neighbours 2028 and 2029 one range.
use mathlib.Core.Path.{sym}
use mathlib.Core.Logic.{inl, inr}
use native.Mathlib.Omega.{arith}
use Rattle.characters.proofs.Spaces.{white_alone, white_controls, white_spaces, white_separators, white_none}
use Rattle.characters.proofs.space.is_white.Goals as goal

pub returns-in_default : goal.returns-in_default
returns-in_default c =
    sym (white_none _ c.in_default.in_default-own.rest.1 (inl (omega arith)) (inl (omega arith)) (inl (omega arith)))

pub returns-in_default-2 : goal.returns-in_default-2
returns-in_default-2 c =
    sym (white_none _ c.in_default.in_default-own.rest.1 (inr (omega arith)) (inl (omega arith)) (inl (omega arith)))

pub returns-in_default-3 : goal.returns-in_default-3
returns-in_default-3 c =
    sym (white_none _ c.in_default.in_default-own.rest.1 (inr (omega arith)) (inr (omega arith)) (inl (omega arith)))

pub returns-in_default-4 : goal.returns-in_default-4
returns-in_default-4 c =
    sym (white_none _ c.in_default.in_default-own.rest.1 (inr (omega arith)) (inr (omega arith)) (inr (omega arith)))

pub returns-in-9-to-13 : goal.returns-in-9-to-13
returns-in-9-to-13 c = sym (white_alone _ c.in-9-to-13.in-9-to-13-own.keys1)

pub returns-in-9-to-13-2 : goal.returns-in-9-to-13-2
returns-in-9-to-13-2 c = sym (white_controls _ (omega arith) (omega arith))

pub returns-in-9-to-13-3 : goal.returns-in-9-to-13-3
returns-in-9-to-13-3 c = sym (white_spaces _ (omega arith) (omega arith))

pub returns-in-9-to-13-4 : goal.returns-in-9-to-13-4
returns-in-9-to-13-4 c = sym (white_separators _ (omega arith) (omega arith))
