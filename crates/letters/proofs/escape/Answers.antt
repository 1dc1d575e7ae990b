-- `escape` meets its contract.
use mathlib.Core.Path.{sym, subst}
use Prim.Native.Nat.{ℕ}
use mathlib.Core.List.{[], ◌∷◌}
use Rattle.cursor.specs.Strings.{StringUnit}
use Rattle.characters.specs.Utf8.{chars_at}
use Rattle.bridge.specs.Bridge.{Reach}
use Rattle.string_units.specs.Units.{UnitAt}
use Rattle.letters.proofs.LetterLaws.{letter_unicode, letter_or}
use Rattle.letters.proofs.escape.Goals as goal

pub unicode-requires : goal.unicode-requires
unicode-requires c =
    record { within = c.requires.within; reach = subst (λ (d : ℕ). Reach c.args.text.now c.args.p (92 ∷ d ∷ []) c.args.r) c.if-e-eq-LETTER_U.true c.requires.reach }

pub returns-then-e-eq-LETTER_U : goal.returns-then-e-eq-LETTER_U
returns-then-e-eq-LETTER_U c =
    subst (λ (x : StringUnit). UnitAt c.args.text.now c.args.p x c.unicode.result) (sym (letter_unicode c.args.e (chars_at c.args.text.now c.args.r.offset) c.if-e-eq-LETTER_U.true)) c.unicode.ensures

pub returns : goal.returns
returns c =
    letter_or c.args.text.now c.args.p c.args.r c.args.e c.requires.reach (chars_at c.args.text.now c.args.r.offset) c.if-e-eq-LETTER_U.false _ _ c.requires.e_bound c.escaped.ensures c.unwrap_or-v.ensures
