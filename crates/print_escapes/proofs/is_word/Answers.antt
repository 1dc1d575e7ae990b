-- `print_escapes::is_word` meets its contract. Assumes nothing.
use mathlib.Core.Path.{◌≡◌, refl, ap, ◌∙◌}
use mathlib.Core.Bool.{Bool, true, false, ◌||◌}
use Rattle.characters.specs.Choice.{◌is◌, within}
use Rattle.rules.specs.Text.{ch, is_letter, is_digit}
use Rattle.prints.specs.Print.{is_word}
use Rattle.print_escapes.proofs.is_word.Goals as goal

-- The library asks for digits first.
turned : (d u l e : Bool) → (((d || u) || l) || e) ≡ (((u || l) || d) || e)
turned true true l e = refl
turned true false true e = refl
turned true false false e = refl
turned false true true e = refl
turned false true false e = refl
turned false false true e = refl
turned false false false e = refl

pub returns : goal.returns
unfolding is_word is_letter is_digit within
returns c =
    let b = c.args.b in
    ap (λ (x : Bool). x || (b is ch "_")) c.is_ascii_alphanumeric.ensures.value
    ∙ turned (is_digit b) (within (ch "A") (ch "Z") b) (within (ch "a") (ch "z") b) (b is ch "_")
