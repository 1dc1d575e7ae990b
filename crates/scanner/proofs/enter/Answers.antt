-- `enter` meets its contract.
use mathlib.Core.Path.{refl}
use native.Mathlib.Omega.{arith}
use Rattle.steps.proofs.Giving.{found_gives}
use Rattle.scanner.proofs.Stepping.{stepped_piece, stepped_end, begins_outside, begins_inside, entry_is}
use Rattle.string_tokens.proofs.Insides.{later_found, over_is, over_given}
use Rattle.scanner.proofs.enter.Goals as goal

-- Outside of strings.
pub returns-in-Outside : goal.returns-in-Outside
returns-in-Outside c =
    entry_is _ _ _ _ _ _ _ _ c.begun.result _ c.begun.ensures
    (begins_outside _ _ _ _ _ _ c.requires.good c.requires.used c.in-Outside.is)

-- A piece.
pub returns-in-Token : goal.returns-in-Token
returns-in-Token c =
    let f = later_found _ _ _ _ _ _ _ _ _ _ _ c.in-Token.is c.piece-x.ensures in
    entry_is _ _ _ _ _ _ _ _ c.known.result _ c.known.ensures
    (stepped_piece _ _ _ _ _ _ _ _ _ _ _ c.given_step.result c.given_step.ensures c.in-Inside.is (found_gives _ _ _ _ _ _ _ _ _ _ _ f))

-- The string is over.
pub returns-in-Over : goal.returns-in-Over
returns-in-Over c =
    let o = over_is _ _ _ _ _ _ _ _ _ _ _ _ c.in-Over.is c.piece-x.ensures in
    entry_is _ _ _ _ _ _ _ _ c.begun-in-Over.result _ c.begun-in-Over.ensures
    (begins_inside _ _ _ _ _ _ _ _ _ _ _ o.within
    (omega (arith, o.few, o.noted.place, o.within.inside, o.within.size, c.requires.used.errors))
    c.in-Inside.is
    (λ x t e g. over_given _ _ _ _ _ _ _ _ _ _ _ x t e o g))

-- Behind EOF.
pub returns-in-Ended : goal.returns-in-Ended
returns-in-Ended c =
    entry_is _ _ _ _ _ _ _ _ c.known-in-Ended.result _ c.known-in-Ended.ensures
    (record { same = stepped_end _ _ c.in-Ended.is; texts_kept = refl; errors_kept = refl })
