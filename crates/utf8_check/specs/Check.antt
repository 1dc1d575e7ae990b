-- What the parts of the check of a text answer.
use Rattle.std.specs.Prelude.{◌≡◌, Bool, ◌&&◌, List, ℕ, zero, suc, ◌+◌, ◌≤◌, ltb, length, get_or, Option}
use Rattle.characters.specs.Valid.{bad_from}
use Rattle.std.specs.declared.ops.ControlFlow.{ControlFlow}
use Rattle.std.specs.declared.ops.ControlFlow.TheVariants.{Continue, Break}

-- How many octets the check looks at together.
abbrev pub BLOCK : ℕ
BLOCK = 16

-- The octet at a place and the `n` that follow it are below 80.
abbrev pub ascii : List ℕ → ℕ → ℕ → Bool
ascii s at zero = ltb (get_or s at 0) 0x80
ascii s at (suc n) = ascii s at n && ltb (get_or s (at + suc n) 0) 0x80

-- The check from the place `from` on answers what it answers from the place `to` on: no bad sequence begins between them.
pub record Clean (s : List ℕ) (from to : ℕ) : Type 0 where
  pub onward : from ≤ to
  pub inside : to ≤ length s
  pub same : bad_from s from ≡ bad_from s to

-- What the check from `from` on comes to: it reached `stop` or a place behind it, or it ended with its answer.
abbrev pub Progressed : List ℕ → ℕ → ℕ → ControlFlow (Option ℕ) ℕ → Type 0
Progressed s from stop (Continue to) = Clean s from to × (stop ≤ to)
Progressed s from stop (Break r) = bad_from s from ≡ r
