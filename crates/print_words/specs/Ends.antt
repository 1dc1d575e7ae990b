-- Where a word ends.
use Rattle.std.specs.Prelude.{◌≡◌, List, ℕ, ◌+◌}
use Rattle.characters.specs.Utf8.{chars_at}
use Rattle.rules.specs.Lexer.{segment}
use Rattle.lexemes.specs.Words.{WordAt}

-- At the place `at` stands a word, which ends at `to`.
pub record EndsAt (s : List ℕ) (at to : ℕ) : Type 0 where
  pub kind : ℕ
  pub size : ℕ
  pub extent : ℕ
  pub word : WordAt s at (segment (chars_at s at)) kind size extent
  pub ends : to ≡ at + size
