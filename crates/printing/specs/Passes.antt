-- What one pass of a print promises.
use Rattle.std.specs.Prelude.{◌≡◌, List, ◌++◌, ℕ, length, take, drop, Result}
use Rattle.print_loop.specs.Loops.{WalkedAt}
use Rattle.print_places.specs.declared.Flawed.{Flawed}

-- A pass over the first `n` bytes of a buffer, as over a buffer of its own; the other bytes keep.
pub record WalkedFront (s : List ℕ) (n : ℕ) (out out' : List ℕ) (r : Result ℕ Flawed) : Type 0 where
  pub front : List ℕ
  pub size : length front ≡ n
  pub walked : WalkedAt s (take n out) front r
  pub after : out' ≡ front ++ drop n out
