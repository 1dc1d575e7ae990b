-- What names and numbers share: digits are characters of one byte, and a run takes the character that passes. Assumes nothing.
use mathlib.Core.Path.{◌≡◌}
use mathlib.Core.Bool.{Bool, true, false≢true}
use mathlib.Core.List.{[], ◌∷◌}
use Prim.Native.Nat.{◌≤◌}
use lib.ListN.{length}
use native.Mathlib.Omega.{arith}
use Rattle.rules.specs.Text.{Char, Text, is_digit}
use Rattle.rules.specs.Scan.{next, run}
use Rattle.bridge.specs.Bridge.{Low}
use Rattle.bridge.proofs.Tests.{low_within}

pub digit_low : Low 11 is_digit
unfolding is_digit
digit_low = low_within 11 48 57 (omega arith) (omega arith)

-- A run takes the character that passes.
pub run_some : (f : Char → Bool) (cs : Text) → next f cs ≡ true → 1 ≤ length (run f cs).taken
unfolding run next
run_some f [] e = absurd (false≢true e)
run_some f (c ∷ cs) e = rw e (omega arith)
