-- What a scanning step promises. A cursor is a position and, inside a string, where that string began. `left` is all that the
-- rules still give from a cursor on; a step takes what it yields off the front of it.
use Rattle.std.specs.Prelude.{◌≡◌, Bool, true, ◌||◌, List, [], ◌∷◌, ◌++◌, ℕ, zero, suc, length, take, drop, if◌then◌else◌}
use Rattle.std.proofs.Math.Option.{none}
use Rattle.spans.specs.declared.Position.{Position}
use Rattle.rules.specs.Text.{Text}
use Rattle.rules.specs.Tokens.{Token, TokenizeError}
use Rattle.rules.specs.Tables.{StringLiteral, StringInterpStart, UnterminatedInterpolation}
use Rattle.rules.specs.Segment.{Piece, Fault}
use Rattle.rules.specs.Strings.{string_from}
use Rattle.rules.specs.Lexer.{advances, span, Lexed, lex, origin}
use Rattle.cursor.specs.declared.Cursor.{Cursor}
use Rattle.cursor.specs.declared.Cursor.TheVariants.{Outside, InString}
use Rattle.cursor.specs.Strings.{Interpolation}

-- ── What is left inside a string ──

-- The place `k` of the rest of a string that began at `start`, where the cursor stands at `p` before `t`: 0 is the string's start,
-- 1 is `p`, and so on along `t`.
unfoldable pub place_from : Position → Position → Text → ℕ → Position
place_from start p t zero = start
place_from start p t (suc k) = advances p (take k t)

unfoldable pub tokens_from : Position → Position → Text → List Piece → List Token
tokens_from start p t [] = []
tokens_from start p t (x ∷ xs) =
    record { kind = x.kind; text = x.text; span = span start (place_from start p t x.end) } ∷ tokens_from start p t xs

unfoldable pub faults_from : Position → Position → Text → List Fault → List TokenizeError
faults_from start p t [] = []
faults_from start p t (x ∷ xs) =
    record { kind = x.kind; span = span (place_from start p t x.from) (place_from start p t x.to); char = x.char }
    ∷ faults_from start p t xs

-- The tokens `ts` and errors `es`, whether the text ran out in them, and then `r`.
abbrev pub and_then : List Token → List TokenizeError → Bool → Lexed → Lexed
and_then ts es o r =
    record { body = ts ++ r.body; errors = es ++ r.errors; open_end = o || r.open_end; stop = r.stop }

-- All that the rules give of the text `cs` from the position `p` on, inside a string that began at `start`: `buf` is the text held
-- back for its next piece, and `interp` says whether there was an interpolation (the Rust's `buf` and `has_interpolation`).
unfoldable pub held : Bool → Position → Position → Text → Text → Lexed
held interp start p buf cs =
    let s = string_from 0 1 buf interp cs in
    and_then (tokens_from start p s.chars s.pieces) (faults_from start p s.chars s.faults) s.open_end
    (lex 0 (advances p s.chars) (drop (length s.chars) cs))

-- ── What is left for a cursor ──

-- A cursor stands inside a string only at or behind an interpolation, and nothing is held back there.
unfoldable pub left : Cursor → Text → Lexed
left (Outside p) cs = lex 0 p cs
left (InString start p) cs = held true start p [] cs

-- The cursor at the beginning of a text, and where a cursor stands.
abbrev pub begin : Cursor
begin = Outside origin

abbrev pub position : Cursor → Position
position (Outside p) = p
position (InString start p) = p

-- ── What a step gives ──

-- A piece of a string: a literal with its text, and an interpolation; each starts where the string began.
abbrev pub literal : Position → Position → Text → Token
literal start q t = record { kind = StringLiteral; text = t; span = span start q }

abbrev pub interpolation : Position → Position → Interpolation → Token
interpolation start q i = record { kind = StringInterpStart; text = i.text; span = span start q }

-- An error without a code point.
abbrev pub error_at : ℕ → Position → Position → TokenizeError
error_at k p q = record { kind = k; span = span p q; char = none }

-- The error of an interpolation that ends at `q`: the text ran out in it.
unfoldable pub interpolation_errors : Position → Interpolation → List TokenizeError
interpolation_errors q i = if i.open_end then error_at UnterminatedInterpolation q q ∷ [] else []

-- A step from the cursor `c` before `cs` yields the tokens `ts` (one, or none) and the errors `es`, with `o` for whether the text ran
-- out in it, and goes on from `c'` before `cs'`.
abbrev pub Yields : Cursor → Text → List Token → List TokenizeError → Bool → Cursor → Text → Type 0
Yields c cs ts es o c' cs' = left c cs ≡ and_then ts es o (left c' cs')
