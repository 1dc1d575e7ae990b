-- Laws of what stands at a place. Assumes nothing.
use mathlib.Core.Path.{◌≡◌, refl}
use mathlib.Core.Bool.{Bool, true, false, ◌&&◌, false≢true}
use mathlib.Core.List.{List}
use Prim.Native.Nat.{ℕ, ◌+◌, ◌-◌, ◌≤◌, ◌<◌}
use lib.Dec.{leb}
use lib.ListN.{length}
use borrow.Author.Tests.{lt-leb, leb-true, leb-false, eq-eqb, ne_eqb}
use native.Mathlib.Omega.{arith}
use Rattle.spans.specs.declared.Span.{Span}
use Rattle.records.specs.Kinds.{is_kind, has_text, record_length, is_error_kind, has_code, error_length}
use Rattle.records.specs.declared.errors.ErrorKind.{ErrorKind}
use Rattle.records.specs.Errors.{kind_of}
use Rattle.records.proofs.ErrorLaws.{of_bare}
use Rattle.record_reading.specs.Reading.{num32, span_at, kind_at, is_whole, record_at, is_whole_error, error_at, after_at}
use Rattle.records.proofs.KindLaws.{length_text, length_code, record_least, error_least}

-- ── Tests ──

pub and_split : (a b : Bool) → (a && b) ≡ true → (a ≡ true) × (b ≡ true)
and_split true b e = (refl, e)
and_split false b e = absurd (false≢true e)

leb_by : (a b c d : ℕ) (x y : Bool) → leb a b ≡ x → leb c d ≡ y → (a ≤ b → c ≤ d) → (c ≤ d → a ≤ b) → x ≡ y
leb_by a b c d true true p q f g = refl
leb_by a b c d false false p q f g = refl
leb_by a b c d true false p q f g = let h = f (leb-true a b p) in let n = leb-false c d q in absurd (omega arith)
leb_by a b c d false true p q f g = let h = g (leb-true c d q) in let n = leb-false a b p in absurd (omega arith)

-- Two tests that say the same.
pub leb_same : (a b c d : ℕ) → (a ≤ b → c ≤ d) → (c ≤ d → a ≤ b) → leb a b ≡ leb c d
leb_same a b c d f g = leb_by a b c d (leb a b) (leb c d) refl refl f g

and_none : (b : Bool) → (b && false) ≡ false
and_none true = refl
and_none false = refl

-- A record that begins past the end of the slice is not there.
past : (n at l : ℕ) → 25 ≤ n → l ≤ at → leb (at + n) l ≡ false
past n at l h p = let t : l < at + n = omega arith in lt-leb (at + n) l t

-- ── A whole record of a token ──

module _ (s : List ℕ) (at : ℕ) where
  pub whole_past : length s ≤ at → is_whole s at ≡ false
  unfolding is_whole
  whole_past h = rw (past (record_length (kind_at s at)) at (length s) (record_least (kind_at s at)) h) (and_none (is_kind (kind_at s at)))

  pub whole_unknown : is_kind (kind_at s at) ≡ false → is_whole s at ≡ false
  unfolding is_whole
  whole_unknown h = rw h

  pub whole_known : (n : ℕ) → at < length s → is_kind (kind_at s at) ≡ true → n ≡ record_length (kind_at s at) → leb n (length s - at) ≡ is_whole s at
  unfolding is_whole
  whole_known n h k e =
      let m : ℕ = record_length (kind_at s at) in
      rw (k, e) (leb_same m (length s - at) (at + m) (length s) (λ a. omega arith) (λ a. omega arith))

  pub whole_kind : is_whole s at ≡ true → kind_at s at ≤ 125
  unfolding is_whole is_kind
  whole_kind e = leb-true _ 125 (and_split (is_kind (kind_at s at)) _ e).0

  pub whole_room : is_whole s at ≡ true → at + record_length (kind_at s at) ≤ length s
  unfolding is_whole
  whole_room e = leb-true _ (length s) (and_split (is_kind (kind_at s at)) _ e).1

  pub whole_head : is_whole s at ≡ true → at + 25 ≤ length s
  whole_head e = omega (arith, whole_room e, record_least (kind_at s at))

  pub whole_text : is_whole s at ≡ true → has_text (kind_at s at) ≡ true → at + 33 ≤ length s
  whole_text e t = omega (arith, whole_room e, length_text (kind_at s at) t)

  pub record_text : (sp : Span) (o n : ℕ) → has_text (kind_at s at) ≡ true → sp ≡ span_at s (at + 1) → o ≡ num32 s (at + 25) → n ≡ num32 s (at + 29)
      → record { kind = kind_at s at; span = sp; offset = o; length = n } ≡ record_at s at
  unfolding record_at
  record_text sp o n t p q r = rw (t, p, q, r)

  pub record_plain : (sp : Span) → has_text (kind_at s at) ≡ false → sp ≡ span_at s (at + 1)
      → record { kind = kind_at s at; span = sp; offset = 0; length = 0 } ≡ record_at s at
  unfolding record_at
  record_plain sp t p = rw (t, p)

  pub after_eof : kind_at s at ≡ 124 → at ≡ after_at s at
  unfolding after_at
  after_eof e = simp (eq-eqb (kind_at s at) 124 e)

  pub after_other : (n : ℕ) → (kind_at s at ≡ 124 → ⊥) → n ≡ record_length (kind_at s at) → at + n ≡ after_at s at
  unfolding after_at
  after_other n d e = simp (ne_eqb (kind_at s at) 124 d, e)

-- ── A whole record of an error ──

module _ (s : List ℕ) (at : ℕ) where
  pub error_past : length s ≤ at → is_whole_error s at ≡ false
  unfolding is_whole_error
  error_past h = rw (past (error_length (kind_at s at)) at (length s) (error_least (kind_at s at)) h) (and_none (is_error_kind (kind_at s at)))

  pub error_unknown : is_error_kind (kind_at s at) ≡ false → is_whole_error s at ≡ false
  unfolding is_whole_error
  error_unknown h = rw h

  pub error_known : (n : ℕ) → at < length s → is_error_kind (kind_at s at) ≡ true → n ≡ error_length (kind_at s at)
      → leb n (length s - at) ≡ is_whole_error s at
  unfolding is_whole_error
  error_known n h k e =
      let m : ℕ = error_length (kind_at s at) in
      rw (k, e) (leb_same m (length s - at) (at + m) (length s) (λ a. omega arith) (λ a. omega arith))

  pub error_kind_is : is_whole_error s at ≡ true → is_error_kind (kind_at s at) ≡ true
  unfolding is_whole_error
  error_kind_is e = (and_split (is_error_kind (kind_at s at)) _ e).0

  pub error_room : is_whole_error s at ≡ true → at + error_length (kind_at s at) ≤ length s
  unfolding is_whole_error
  error_room e = leb-true _ (length s) (and_split (is_error_kind (kind_at s at)) _ e).1

  pub error_head : is_whole_error s at ≡ true → at + 25 ≤ length s
  error_head e = omega (arith, error_room e, error_least (kind_at s at))

  pub error_tail : is_whole_error s at ≡ true → has_code (kind_at s at) ≡ true → at + 29 ≤ length s
  error_tail e t = omega (arith, error_room e, length_code (kind_at s at) t)

  pub error_code_at : (sp : Span) (v : ℕ) (k : ErrorKind) → sp ≡ span_at s (at + 1) → v ≡ num32 s (at + 25) → k ≡ kind_of (kind_at s at) v
      → record { kind = k; span = sp } ≡ error_at s at
  unfolding error_at
  error_code_at sp v k p q r = rw (r, p, q)

  pub error_bare_at : (sp : Span) (k : ErrorKind) → has_code (kind_at s at) ≡ false → sp ≡ span_at s (at + 1) → k ≡ kind_of (kind_at s at) 0
      → record { kind = k; span = sp } ≡ error_at s at
  unfolding error_at
  error_bare_at sp k t p r = rw (r, p, of_bare (kind_at s at) 0 (num32 s (at + 25)) t)
