-- What the bounds on tokens, errors and texts are about: the theorems stand in proofs/Bounds.antt, Sizes.antt, Fits.antt and
-- Starts.antt.
use Rattle.std.specs.Prelude.{List, [], ◌∷◌, ◌++◌, ℕ, ◌+◌, ◌≤◌, ◌<◌, length}
use Rattle.characters.specs.Utf8.{bytes}
use Rattle.spans.specs.declared.Span.{Span}
use Rattle.rules.specs.Text.{Text}
use Rattle.rules.specs.Tokens.{Token}
use Rattle.rules.specs.Segment.{Segment}

-- Each element of a list passes.
abbrev pub Every : {A : Type 0} → (A → Type 0) → List A → Type 0
Every P [] = Unit {0}
Every P (x ∷ xs) = P x × Every P xs

-- The characters of segments, one behind another.
unfoldable pub chars_of_all : List Segment → Text
chars_of_all [] = []
chars_of_all (s ∷ ss) = s.chars ++ chars_of_all ss

-- How many bytes the texts of all tokens have.
unfoldable pub texts_size : List Token → ℕ
texts_size [] = 0
texts_size (t ∷ ts) = bytes t.text + texts_size ts

-- ── Fields of 32 bits ──

-- 32 bits hold the numbers below this one.
abbrev pub WORD : ℕ
WORD = 4294967296

-- The numbers that a field of a record holds.
abbrev pub Small : ℕ → Type 0
Small n = n < WORD

pub record SpanFits (s : Span) : Type 0 where
  pub start : Small s.start
  pub end : Small s.end
  pub start_line : Small s.start_line
  pub start_col : Small s.start_col
  pub end_line : Small s.end_line
  pub end_col : Small s.end_col

-- A token's span and the length of its text fit.
pub record TokenSmall (t : Token) : Type 0 where
  pub span : SpanFits t.span
  pub size : Small (length t.text)

-- ── Starts ──

-- No token starts before `n`, and none before the one in front of it.
abbrev pub StartsNeverFall : ℕ → List Token → Type 0
StartsNeverFall n [] = Unit {0}
StartsNeverFall n (t ∷ ts) = (n ≤ t.span.start) × StartsNeverFall t.span.start ts
