-- `put_text` meets its contract. Assumes nothing.
use mathlib.Core.Path.{◌≡◌}
use mathlib.Core.List.{List, [], ◌∷◌}
use Prim.Native.Nat.{ℕ}
use native.Mathlib.Omega.{arith}
use lib.ListN.{length, get_or}
use Rattle.output.specs.Writing.{Put}
use Rattle.print_words.proofs.put_text.Goals as goal

-- A word of one byte.
one_byte : (old new s : List ℕ) (at r : ℕ) → length s ≡ 1 → Put old new at (get_or s 0 0 ∷ []) r → Put old new at s r
one_byte old new (c ∷ []) at r e p = p
one_byte old new [] at r e p = absurd (omega arith)
one_byte old new (c ∷ d ∷ s) at r e p = absurd (omega arith)

pub returns-then-word-eq1 : goal.returns-then-word-eq1
returns-then-word-eq1 c = one_byte _ _ c.args.word.now _ _ c.if-word-eq1.true c.put_byte.ensures
