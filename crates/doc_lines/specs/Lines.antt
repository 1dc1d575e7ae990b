-- What the functions of the doc comments' cleaner answer. `s` is the part of a script between a comment's marks; places are bytes
-- of it.
use Rattle.std.specs.Prelude.{◌≡◌, Bool, ◌&&◌, not, List, [], ◌∷◌, ℕ, ◌+◌, ◌≤◌, ◌<◌, length, Option, Some, None}
use Rattle.std.proofs.Math.Seq.{slice}
use Rattle.characters.specs.Choice.{◌is◌, within}
use Rattle.characters.specs.Space.{is_white}
use Rattle.characters.specs.Utf8.{width, chars_at, encode}
use Rattle.rules.specs.Text.{Char, Text, ch, LF}
use Rattle.rules.specs.Scan.{run}
use Rattle.runs.specs.Runs.{RunTo}
use Rattle.doc_lines.specs.declared.Line.{Line}

-- The character `c` stands at a place, and `n` is the place after it.
pub record CharAt (s : List ℕ) (at c n : ℕ) : Type 0 where
  pub chars : chars_at s at ≡ c ∷ chars_at s n
  pub place : n ≡ at + width c
  pub inside : n ≤ length s

-- What stands at a place: a character; or no character is left.
abbrev pub NextAt : List ℕ → ℕ → Option (ℕ × ℕ) → Type 0
NextAt s at (Some (c, n)) = CharAt s at c n
NextAt s at None = chars_at s at ≡ []

-- From one place to another, past the characters that pass the test.
pub record Skipped (test : Char → Bool) (s : List ℕ) (from to : ℕ) : Type 0 where
  pub rest : chars_at s to ≡ (run test (chars_at s from)).left
  pub forth : from ≤ to
  pub inside : to ≤ length s

-- `Answers` tells which characters pass the test.
abbrev pub Tells : (ℕ → Bool → Type 0) → (Char → Bool) → Type 0
Tells Answers test = (c : Char) (b : Bool) → Answers c b → b ≡ test c

-- The same, of any test that `Answers` tells.
abbrev pub SkippedTold : (ℕ → Bool → Type 0) → List ℕ → ℕ → ℕ → Type 0
SkippedTold Answers s from to = (test : Char → Bool) → Tells Answers test → Skipped test s from to

unfoldable pub is_star : Char → Bool
is_star c = c is ch "*"

-- A character of a line. Where the part is split, a line feed ends the line; else the whole part is one line.
unfoldable pub in_line : Bool → Char → Bool
in_line split c = not (split && c is LF)

-- White space of a line.
unfoldable pub is_blank : Bool → Char → Bool
is_blank split c = is_white c && in_line split c

-- An ASCII character that is no white space.
unfoldable pub is_ink : Char → Bool
is_ink c = within 0x21 0x7F c

-- From one place to another, past such characters, up to the first other one.
abbrev pub Inked : List ℕ → ℕ → ℕ → Type 0
Inked = RunTo (λ b r. r ≡ is_ink b)

-- What stands behind a line: nothing; or the line feed that ended it, and the characters from the next line on.
abbrev pub behind_line : List ℕ → Option ℕ → Text
behind_line s None = []
behind_line s (Some n) = LF ∷ chars_at s n

-- The line from a place on, made clean: the bytes that make it up, and where the next line begins, if there is one.
pub record LineAt (clean : Text → Text) (split : Bool) (s : List ℕ) (at : ℕ) (l : Line) : Type 0 where
  pub text : slice l.from l.to s ≡ encode (clean (run (in_line split) (chars_at s at)).taken)
  pub left : (run (in_line split) (chars_at s at)).left ≡ behind_line s l.next
  pub begins : at ≤ l.from
  pub forth : l.from ≤ l.to
  pub inside : l.to ≤ length s
  pub goes : (n : ℕ) → l.next ≡ Some n → l.to < n
  pub within : (n : ℕ) → l.next ≡ Some n → n ≤ length s

-- The same, where `Answers` tells which characters end a line: line feeds, or none.
abbrev pub LineTold : (ℕ → Bool → Type 0) → (Text → Text) → List ℕ → ℕ → Line → Type 0
LineTold Answers clean s at l = (split : Bool) → Tells Answers (λ c. not (in_line split c)) → LineAt clean split s at l
