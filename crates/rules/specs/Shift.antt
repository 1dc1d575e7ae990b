-- The shift of a script that stands behind another one and a line feed (document 01, "The shift"), and what it is to join two
-- scripts and to be closed exactly (demand 3).
use Rattle.std.specs.Prelude.{◌≡◌, ◌↔◌, Bool, true, false, ℕ, suc, ◌+◌, ◌≤◌, length, if◌then◌else◌}
use mathlib.Core.List.{List, ◌∷◌, ◌++◌, map, drop_last}
use Rattle.characters.specs.Choice.{◌is◌}
use Rattle.byte_order_mark.specs.Mark.{has_mark, after_mark}
use Rattle.spans.specs.declared.Span.{Span}
use Rattle.rules.specs.Text.{LF}
use Rattle.rules.specs.Tokens.{Token, TokenizeError}
use Rattle.rules.specs.Lexer.{lexed}
use Rattle.rules.specs.Script.{LIMIT, accepted, script_text, script_tokens, script_errors}

-- Columns on the second script's line 1 grow by 1. Other columns keep.
unfoldable pub shift_column : ℕ → ℕ → ℕ
shift_column line col = if line is 1 then suc col else col

-- For a first text of `n` bytes after its mark whose EOF is on line `l`: offsets grow by n + 1, lines by l.
abbrev pub shift_span : ℕ → ℕ → Span → Span
shift_span n l s =
    record {
      start = s.start + (n + 1);
      end = s.end + (n + 1);
      start_line = s.start_line + l;
      start_col = shift_column s.start_line s.start_col;
      end_line = s.end_line + l;
      end_col = shift_column s.end_line s.end_col;
    }

abbrev pub shift_token : ℕ → ℕ → Token → Token
shift_token n l t = record { kind = t.kind; text = t.text; span = shift_span n l t.span }

abbrev pub shift_error : ℕ → ℕ → TokenizeError → TokenizeError
shift_error n l e = record { kind = e.kind; span = shift_span n l e.span; char = e.char }

-- The line of EOF.
abbrev pub last_line : List ℕ → ℕ
last_line a = (lexed (script_text a)).stop.line

-- The script `a`, a line feed, and the script `b`.
abbrev pub joined : List ℕ → List ℕ → List ℕ
joined a b = a ++ (LF ∷ b)

-- The tokens and the errors of `a`, a line feed and `b` are those of `a`, its EOF apart, and then those of `b`, shifted.
pub record Joins (a b : List ℕ) : Type 0 where
  pub tokens_join :
      script_tokens (joined a b) ≡ drop_last (script_tokens a) ++ map (shift_token (length (after_mark a)) (last_line a)) (script_tokens b)
  pub errors_join :
      script_errors (joined a b) ≡ script_errors a ++ map (shift_error (length (after_mark a)) (last_line a)) (script_errors b)

-- ── Demand 3 ──

-- A second script that may follow `a` and a line feed: accepted, without a mark in front, all within the limit.
pub record SecondFits (a b : List ℕ) : Type 0 where
  pub second_accepted : accepted b ≡ true
  pub second_unmarked : has_mark b ≡ false
  pub within_limit : length a + 1 + length b ≤ LIMIT

-- "The lexer calls the first closed exactly when, whatever such second script follows, two things hold": `c` is what is said of
-- the script `a`.
abbrev pub ClosedExactly : List ℕ → Bool → Type 0
ClosedExactly a c = (c ≡ true) ↔ ((b : List ℕ) → SecondFits a b → Joins a b)
