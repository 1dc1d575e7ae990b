-- Segments: what the rules find at the front of a text, without positions.
use Rattle.std.specs.Prelude.{Bool, false, List, [], ◌∷◌, ℕ, ◌-◌, length}
use Rattle.std.proofs.Math.Option.{Option, none, some}
use Rattle.rules.specs.Text.{Char, Text}

-- A token of a segment. `end` counts characters from the segment's start to where the token's span ends.
pub record Piece : Type 0 where
  pub kind : ℕ
  pub text : Text
  pub end : ℕ

-- An error of a segment: from and to count characters as `end` does; the character for kinds 1 and 7.
pub record Fault : Type 0 where
  pub kind : ℕ
  pub from : ℕ
  pub to : ℕ
  pub char : Option Char

-- What a segment is: one character of white space, a comment that is skipped, one token, or an ordinary string with all its pieces.
pub data Sort : Type 0 where
  space : Sort
  comment : Sort
  one_token : Sort
  string : Sort

pub record Segment : Type 0 where
  pub sort : Sort
  pub chars : Text  -- the characters that it takes
  pub pieces : List Piece  -- its tokens
  pub faults : List Fault  -- its errors
  pub open_end : Bool  -- the text ran out inside it

abbrev pub piece : ℕ → Text → ℕ → Piece
piece k t e = record { kind = k; text = t; end = e }

abbrev pub fault : ℕ → ℕ → ℕ → Fault
fault k i j = record { kind = k; from = i; to = j; char = none }

abbrev pub fault_of : ℕ → ℕ → ℕ → Char → Fault
fault_of k i j c = record { kind = k; from = i; to = j; char = some c }

-- A segment without tokens.
abbrev pub skipped : Sort → Text → List Fault → Bool → Segment
skipped s cs fs o = record { sort = s; chars = cs; pieces = []; faults = fs; open_end = o }

-- A segment of one token.
abbrev pub with_token : Text → Piece → List Fault → Bool → Segment
with_token cs x fs o = record { sort = one_token; chars = cs; pieces = x ∷ []; faults = fs; open_end = o }

-- A closed segment of one token, which has no error.
abbrev pub token : Text → Piece → Segment
token cs x = with_token cs x [] false

-- A token whose text is all its characters, and which ends one past the last.
abbrev pub whole_token : ℕ → Text → Segment
whole_token k cs = token cs (piece k cs (length cs))

-- Where the span of a name or a lone mark ends: at its last character (document 01, module 5).
unfoldable pub word_end : Text → ℕ
word_end cs = length cs - 1

-- A name or a lone mark.
abbrev pub word_token : ℕ → Text → Segment
word_token k cs = token cs (piece k cs (word_end cs))
