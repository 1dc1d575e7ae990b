-- The tests for comments, at byte places. Assumes nothing.
use mathlib.Core.Path.{◌≡◌, refl, ◌∙◌, ap}
use mathlib.Core.Bool.{Bool, true, false, not}
use mathlib.Core.List.{List, [], ◌∷◌}
use Prim.Native.Nat.{ℕ, ◌+◌, ◌<◌}
use lib.ListN.{length}
use native.Mathlib.Omega.{arith}
use Rattle.characters.specs.Utf8.{chars_at}
use Rattle.rules.specs.Text.{text}
use Rattle.rules.specs.Scan.{next, starts_with}
use Rattle.bridge.specs.Bridge.{Letter, exactly}
use Rattle.bridge.proofs.Bytes.{starts_one}
use Rattle.walks.specs.Openings.{opens_line, opens_doc, opens_block}
use Rattle.walks.proofs.Starts.{stands_there, starts_two, starts_behind}

pub slash : Letter 47
slash = (omega arith, omega arith)

pub star : Letter 42
star = (omega arith, omega arith)

module _ (s : List ℕ) (at : ℕ) where
  pub line_yes : (b : Bool) → starts_with (text "//") (chars_at s at) ≡ true → b ≡ next (exactly 47) (chars_at s (at + 2))
      → not b ≡ opens_line (chars_at s at)
  unfolding opens_line
  line_yes b e f =
      rw (e, starts_behind s at 47 47 slash slash e (47 ∷ []), starts_one 47 (chars_at s (at + 2)), ← f)

  pub line_no : starts_with (text "//") (chars_at s at) ≡ false → false ≡ opens_line (chars_at s at)
  unfolding opens_line
  line_no e = rw e

  module _ (e : starts_with (text "/*") (chars_at s at) ≡ true) where
    three_is : starts_with (text "/**") (chars_at s at) ≡ next (exactly 42) (chars_at s (at + 2))
    three_is = starts_behind s at 47 42 slash star e (42 ∷ []) ∙ starts_one 42 (chars_at s (at + 2))

    four_is : next (exactly 42) (chars_at s (at + 2)) ≡ true
        → starts_with (text "/**/") (chars_at s at) ≡ next (exactly 47) (chars_at s (at + 3))
    four_is f =
        let n : at + 2 + 1 ≡ at + 3 = omega arith in
        starts_behind s at 47 42 slash star e (42 ∷ 47 ∷ [])
        ∙ (starts_two s (at + 2) 42 star 47 f ∙ ap (λ (i : ℕ). next (exactly 47) (chars_at s i)) n)

    pub block_closed : (b : Bool) → next (exactly 42) (chars_at s (at + 2)) ≡ true → b ≡ next (exactly 47) (chars_at s (at + 3))
        → b ≡ opens_block (chars_at s at)
    unfolding opens_block opens_doc
    block_closed b f g = rw (e, three_is, f, four_is f, ← g) (go b)
      where
        go : (b : Bool) → b ≡ not (not b)
        go true = refl
        go false = refl

    pub block_yes : next (exactly 42) (chars_at s (at + 2)) ≡ false → true ≡ opens_block (chars_at s at)
    unfolding opens_block opens_doc
    block_yes f = rw (e, three_is, f)

    pub third_there : next (exactly 42) (chars_at s (at + 2)) ≡ true → at + 2 < length s
    third_there f = stands_there s (at + 2) 42 star f

  pub block_no : starts_with (text "/*") (chars_at s at) ≡ false → false ≡ opens_block (chars_at s at)
  unfolding opens_block
  block_no e = rw e
