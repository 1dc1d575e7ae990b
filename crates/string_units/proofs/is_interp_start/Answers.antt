use mathlib.Core.Path.{◌≡◌, refl, ap, ◌∙◌}
use mathlib.Core.Bool.{Bool, true, false, ◌||◌, ◌&&◌, not}
use Prim.Native.Nat.{ℕ}
use borrow.Author.Tests.{eqb-true}
use Rattle.characters.specs.Choice.{◌is◌, within}
use Rattle.rules.specs.Text.{ch, is_ident_start, is_letter}
use Rattle.rules.specs.Strings.{is_interp_start}
use Rattle.string_units.proofs.is_interp_start.Goals as goal

-- What begins a name but a dollar sign is a letter or an underscore.
turned : (l u b d : Bool) → (d ≡ true → (l ≡ false) × (u ≡ false)) → ((l || u) || b) ≡ (b || (((l || u) || d) && not d))
turned l u true true f = let p = f refl in rw (p.0, p.1)
turned l u false true f = let p = f refl in rw (p.0, p.1)
turned true true true false f = refl
turned true true false false f = refl
turned true false true false f = refl
turned true false false false f = refl
turned false true true false f = refl
turned false true false false f = refl
turned false false true false f = refl
turned false false false false f = refl

dollar_alone : (b : ℕ) → (b is ch "$") ≡ true → (is_letter b ≡ false) × ((b is ch "_") ≡ false)
unfolding is_letter within
dollar_alone b e = rw (eqb-true b 36 e) (refl, refl)

pub returns : goal.returns
unfolding is_interp_start is_ident_start is_letter within
returns c =
    let b = c.args.b in
    ap (λ (x : Bool). (x || (b is ch "_")) || (b is ch "{")) c.is_ascii_alphabetic.ensures.value
    ∙ turned (is_letter b) (b is ch "_") (b is ch "{") (b is ch "$") (dollar_alone b)
