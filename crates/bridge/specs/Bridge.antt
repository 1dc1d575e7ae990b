-- The bridge between the code and the rules. Places of the code are bytes of a text `s`; `chars_at s at` is what the rules see from
-- a place on.
use Rattle.std.specs.Prelude.{◌≡◌, Bool, true, ◌&&◌, not, List, [], ◌∷◌, ◌++◌, ℕ, ◌+◌, ◌*◌, ◌≤◌, ◌<◌, leb, length, Option as Answer, Some, None}
use Rattle.std.proofs.Math.Option.{Option, none, some}
use Rattle.std.proofs.Math.Seq.{slice}
use Rattle.characters.specs.Choice.{◌is◌}
use Rattle.characters.specs.Utf8.{chars_at, is_valid}
use Rattle.characters.specs.Valid.{bad_from}
use Rattle.spans.specs.declared.Position.{Position}
use Rattle.rules.specs.Script.{LIMIT}
use Rattle.rules.specs.Text.{Char, Text}
use Rattle.rules.specs.Scan.{Part, run}
use Rattle.rules.specs.Lexer.{advances}

-- ── What was found ──

-- What the rules find or do not find, as the code answers it.
abbrev pub value_of : Option ℕ → Answer ℕ
value_of none = None
value_of (some v) = Some v

-- ── Positions ──

-- Where a function asks `Within s p`, its text and its position are two parameters: it speaks of several positions in one text, and a
-- struct of both would carry the text in each.

-- The position at a place, where lines and columns play no part.
abbrev pub placed : ℕ → Position
placed n = record { offset = n; line = 1; col = 1 }

-- A position in a text of at most LIMIT bytes, which makes every sum fit, and which is UTF-8 from the position on.
pub record Within (s : List ℕ) (p : Position) : Type 0 where
  pub size : length s ≤ LIMIT
  pub inside : p.offset ≤ length s
  pub valid : is_valid (bad_from s p.offset) ≡ true
  pub lines : p.line ≤ p.offset + 1
  pub columns : p.col ≤ p.offset + 2

-- There is room for `n` bytes more. It is asked and is no type: it bounds one sum.
pub record Fits (p : Position) (n : ℕ) : Type 0 where
  pub places : p.offset + n ≤ 2 * LIMIT
  pub lines : p.line ≤ p.offset + 1
  pub columns : p.col ≤ p.offset + 2

-- From the position `p`, past the characters `t`, to the position `q`.
pub record Reach (s : List ℕ) (p : Position) (t : Text) (q : Position) : Type 0 where
  pub chars : chars_at s p.offset ≡ t ++ chars_at s q.offset
  pub moved : q ≡ advances p t
  pub within : Within s q

-- What stands at a position: a character that leads on; or no character is left.
abbrev pub NextAt : List ℕ → Position → Answer (ℕ × Position) → Type 0
NextAt s p (Some (c, q)) = Reach s p (c ∷ []) q × (p.offset < q.offset)
NextAt s p None = chars_at s p.offset ≡ []

-- The first character behind the line feed: from it on each moves along its line.
abbrev pub BEHIND_LF : Char
BEHIND_LF = 11

-- A character that moves along its line and is none of three. (The control characters before the line feed are looked at one by one.)
unfoldable pub is_plain : Char → Char → Char → Char → Bool
is_plain x y z c = leb BEHIND_LF c && not (c is x) && not (c is y) && not (c is z)

-- Three characters of one byte.
pub record Stops (x y z : Char) : Type 0 where
  pub first : x ≤ 0x7F
  pub second : y ≤ 0x7F
  pub third : z ≤ 0x7F

-- From the position `p` past all characters that pass a test, to the position `q`.
pub record PastRun (f : Char → Bool) (s : List ℕ) (p q : Position) : Type 0 where
  pub reach : Reach s p (run f (chars_at s p.offset)).taken q
  pub left : chars_at s q.offset ≡ (run f (chars_at s p.offset)).left
  pub forth : p.offset ≤ q.offset

-- From the place `from` past all characters that pass a test, to the place `to`, whatever lines and columns they have.
abbrev pub RunEnd : (Char → Bool) → List ℕ → ℕ → ℕ → Type 0
RunEnd f s from to = (p : Position) → p.offset ≡ from → Within s p → (q : Position) × (q.offset ≡ to) × PastRun f s p q

-- ── Words: parts of one line, of one-byte characters ──

-- The position `n` such characters on.
abbrev pub onward : Position → ℕ → Position
onward p n = record { offset = p.offset + n; line = p.line; col = p.col + n }

-- A test that only characters from `lo` to 7F pass.
abbrev pub Low : ℕ → (Char → Bool) → Type 0
Low lo f = (c : ℕ) → f c ≡ true → (lo ≤ c) × (c ≤ 0x7F)

-- The test for one character.
abbrev pub exactly : ℕ → Char → Bool
exactly b c = c is b

-- A byte that is a character, and is not what stands past the end (0). Callers write the byte out, so that the check sees it: a type would
-- wrap each.
abbrev pub Letter : ℕ → Type 0
Letter b = (1 ≤ b) × (b ≤ 0x7F)

-- Bytes that are such.
abbrev pub Letters : List ℕ → Type 0
Letters [] = Unit
Letters (b ∷ bs) = Letter b × Letters bs

-- A text that is as many bytes as characters, and moves along its line.
abbrev pub Flat : Text → Type 0
Flat [] = Unit
Flat (c ∷ cs) = (BEHIND_LF ≤ c) × (c ≤ 0x7F) × Flat cs

-- The part `a` of the rules, as the bytes from `at` to `to`: these are what it takes, and what it leaves begins at `to`.
pub record Cut (s : List ℕ) (at : ℕ) (a : Part) (to : ℕ) : Type 0 where
  pub left : chars_at s to ≡ a.left
  pub whole : chars_at s at ≡ a.taken ++ chars_at s to
  pub bytes : slice at to s ≡ a.taken
  pub forth : at ≤ to
  pub inside : to ≤ length s
  pub flat : Flat a.taken
