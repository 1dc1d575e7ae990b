-- What the loop of a print leaves. Assumes nothing.
use Rattle.std.specs.Prelude.{Result, Ok, Err}
use mathlib.Core.Path.{◌≡◌, refl, sym, ◌∙◌, ap}
use mathlib.Core.Bool.{true≢false}
use mathlib.Core.List.{List, []}
use Prim.Native.Nat.{ℕ}
use Rattle.rules.specs.Script.{script_errors}
use Rattle.output.specs.Writing.{Put}
use Rattle.prints.specs.Print.{print_bytes}
use Rattle.print_places.specs.declared.Flawed.{Flawed}
use Rattle.print_places.specs.Places.{no_errors}
use Rattle.print_loop.specs.Loops.{WalkedAt}

module _ (s out out' : List ℕ) where
  -- A script on which it stopped has an error.
  pub walked_bad : (e : Flawed) → WalkedAt s out out' (Err e) → script_errors s ≡ [] → ⊥
  unfolding no_errors
  walked_bad e w right = true≢false (sym (ap no_errors right) ∙ w)

  -- So it writes the print of each script without errors.
  pub walked_print : (r : Result ℕ Flawed) → WalkedAt s out out' r → script_errors s ≡ [] → (n : ℕ) × (r ≡ Ok n) × Put out out' 0 (print_bytes s) n
  walked_print (Ok n) w right = (n, refl, w.1)
  walked_print (Err e) w right = absurd (walked_bad e w right)
