-- Two tests on a number, that the definitions are written in.
use Rattle.std.specs.Prelude.{Bool, ◌&&◌, ℕ, eqb, leb}

-- The two numbers are the same.
infix 50 ◌is◌
abbrev pub ◌is◌ : ℕ → ℕ → Bool
c is d = eqb c d

-- The number `c` is one from `lo` to `hi`, both included.
unfoldable pub within : ℕ → ℕ → ℕ → Bool
within lo hi c = leb lo c && leb c hi
