-- Demand 3 over three calls of tokenising: of a first script, of a second one, and of both with a line feed between them. Nothing is
-- named here but what the calls were given and what they gave.
use Rattle.std.specs.Prelude.{◌≡◌, ◌↔◌, Ok, true, false, ℕ, ◌+◌, length, take}
use mathlib.Core.List.{List, [], ◌∷◌, ◌++◌, map, drop_last}
use Rattle.byte_order_mark.specs.Mark.{has_mark, after_mark}
use Rattle.rules.specs.Tokens.{Token, TokenizeError}
use Rattle.rules.specs.Shift.{shift_token, shift_error, joined}
use Rattle.records.specs.Fields.{HEAD}
use Rattle.record_lists.specs.Lists.{tokens_from, errors_from}
use Rattle.room.specs.declared.Used.{Used}
use Rattle.lexer.specs.Tokenize.{Tokenized}

-- ── One call ──

-- A call of tokenising that was answered with yes: its script, what it used, and its buffers before and after it.
pub record Call : Type 0 where
  pub script : List ℕ
  pub used : Used
  pub tokens_before : List ℕ
  pub texts_before : List ℕ
  pub errors_before : List ℕ
  pub tokens_after : List ℕ
  pub texts_after : List ℕ
  pub errors_after : List ℕ

-- The contract of tokenising holds of it.
abbrev pub Answered : Call → Type 0
Answered k =
    Tokenized k.script k.tokens_before k.texts_before k.errors_before (Ok k.used) k.tokens_after k.texts_after
    k.errors_after

-- The tokens that a reader meets in its buffers.
abbrev pub tokens_met : Call → List Token
tokens_met k = tokens_from k.used.count k.script k.texts_after k.tokens_after 0

-- The errors that a reader meets in the part used of its error buffer. An error has bytes, so there are no more errors than bytes.
abbrev pub errors_met : Call → List TokenizeError
errors_met k = errors_from k.used.errors (take k.used.errors k.errors_after) 0

-- The line on which the last of these tokens starts.
unfoldable pub last_start_line : List Token → ℕ
last_start_line [] = 0
last_start_line (t ∷ []) = t.span.start_line
last_start_line (t ∷ u ∷ ts) = last_start_line (u ∷ ts)

-- ── Three calls ──

-- The third call is of the first's script, a line feed, and the second's, which has no mark.
pub record Following (first second whole : Call) : Type 0 where
  pub first_answered : Answered first
  pub second_answered : Answered second
  pub whole_answered : Answered whole
  pub second_unmarked : has_mark second.script ≡ false
  pub script_joined : whole.script ≡ joined first.script second.script

-- The bytes of the first script after its mark, and the line of EOF as a reader meets it.
abbrev pub first_size : Call → ℕ
first_size first = length (after_mark first.script)

abbrev pub first_line : Call → ℕ
first_line first = last_start_line (tokens_met first)

-- What readers meet in the whole's buffers is what they meet in the first's, its EOF apart, and then what they meet in the second's,
-- shifted; the whole is closed as the second is; and what the calls used adds up, but for the first's EOF, whose record is a head.
pub record CallsJoin (first second whole : Call) : Type 0 where
  pub tokens_join :
      tokens_met whole ≡ drop_last (tokens_met first) ++ map (shift_token (first_size first) (first_line first)) (tokens_met second)
  pub errors_join : errors_met whole ≡ errors_met first ++ map (shift_error (first_size first) (first_line first)) (errors_met second)
  pub closed_join : whole.used.closed ≡ second.used.closed
  pub count_join : whole.used.count + 1 ≡ first.used.count + second.used.count
  pub tokens_size_lem : whole.used.tokens + HEAD ≡ first.used.tokens + second.used.tokens
  pub texts_size_lem : whole.used.texts ≡ first.used.texts + second.used.texts
  pub errors_size_lem : whole.used.errors ≡ first.used.errors + second.used.errors

-- Demand 3, whole: the first call answers closed exactly when, whatever second script follows, the calls join.
abbrev pub CallsExactly : Call → Type 0
CallsExactly first =
    (first.used.closed ≡ true) ↔ ((second whole : Call) → Following first second whole → CallsJoin first second whole)
