-- How long fields are at most. Assumes nothing.
use Rattle.std.specs.Prelude.{if◌then◌else◌}
use mathlib.Core.Path.{◌≡◌, refl}
use mathlib.Core.List.{List, [], ◌∷◌}
use mathlib.Core.Option.{Option, none, some}
use Prim.Native.Nat.{ℕ, zero, suc, ◌+◌, ◌*◌, ◌/◌, ◌%◌, ◌≤◌, zero-le}
use native.Mathlib.Omega.{arith}
use lib.Dec.{ltb}
use lib.ListN.{length, length-append}
use Rattle.characters.proofs.Choice.{if_all}
use Rattle.spans.specs.declared.Span.{Span}
use Rattle.listing_fields.specs.Numbers.{decimal_in, decimal, hex_of}
use Rattle.listing_fields.specs.Fields.{field, span_fields, text_field, code_field}

decimal_short : (k n : ℕ) → length (decimal_in k n) ≤ k
unfolding decimal_in
decimal_short zero n = zero-le
decimal_short (suc k) n =
    let front : List ℕ = if ltb n 10 then [] else decimal_in k (n / 10) in
    let h : length front ≤ k = if_all (λ (l : List ℕ). length l ≤ k) (ltb n 10) (λ _. zero-le) (λ _. decimal_short k (n / 10)) in
    omega (arith, length-append front ((48 + n % 10) ∷ []))

pub field_short : (n : ℕ) → length (field n) ≤ 21
unfolding field decimal
field_short n = omega (arith, decimal_short 20 n)

-- The space.
pub field_some : (n : ℕ) → 1 ≤ length (field n)
unfolding field
field_some n = omega arith

pub fields_short : (s : Span) → length (span_fields s) ≤ 126
unfolding span_fields
fields_short s =
    simp length-append
    (omega (arith, field_short s.start, field_short s.end, field_short s.start_line, field_short s.start_col, field_short s.end_line, field_short s.end_col))

pub hex_length : (bs : List ℕ) → length (hex_of bs) ≡ 2 * length bs
unfolding hex_of
hex_length [] = refl
hex_length (b ∷ bs) = omega (arith, hex_length bs)

pub text_short : (bs : List ℕ) → length (text_field bs) ≤ 2 + 2 * length bs
unfolding text_field
text_short [] = omega arith
text_short (b ∷ bs) = omega (arith, hex_length (b ∷ bs))

pub code_short : (o : Option ℕ) → length (code_field o) ≤ 21
unfolding code_field
code_short none = zero-le
code_short (some c) = field_short c
