-- How long lines are at most. Assumes nothing.
use mathlib.Core.Bool.{Bool, true, false}
use Prim.Native.Nat.{ℕ, ◌+◌, ◌*◌, ◌≤◌}
use native.Mathlib.Omega.{arith}
use lib.ListN.{length, length-append}
use Rattle.spans.specs.declared.Span.{Span}
use Rattle.rules.specs.Tokens.{Token, TokenizeError}
use Rattle.listing_fields.specs.Fields.{field, span_fields}
use Rattle.listing_fields.specs.Room.{Room}
use Rattle.listing_fields.proofs.Lengths.{field_short, fields_short, text_short, code_short}
use Rattle.listing_lines.specs.Lines.{head_of, token_line, error_line, closed_line, refused_line}

head_short : (letter kind : ℕ) (s : Span) → length (head_of letter kind s) ≤ 148
unfolding head_of
head_short letter kind s = omega (arith, length-append (field kind) (span_fields s), field_short kind, fields_short s)

pub token_short : (t : Token) → length (token_line t) ≤ 151 + 2 * length t.text
unfolding token_line
token_short t = simp length-append (omega (arith, head_short 84 t.kind t.span, text_short t.text))

pub error_short : (e : TokenizeError) → length (error_line e) ≤ 170
unfolding error_line
error_short e = simp length-append (omega (arith, head_short 69 e.kind e.span, code_short e.char))

pub closed_short : (b : Bool) → length (closed_line b) ≤ 7
unfolding closed_line
closed_short true = omega arith
closed_short false = omega arith

pub refused_short : (n f : ℕ) → length (refused_line n f) ≤ 50
unfolding refused_line
refused_short n f = simp length-append (omega (arith, field_short n, field_short f))

pub refused_room : (n f : ℕ) → Room 0 (refused_line n f)
refused_room n f = record { fits = omega (arith, refused_short n f) }
