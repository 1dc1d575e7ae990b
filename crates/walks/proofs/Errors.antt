-- Errors of what is not closed, written. Assumes nothing.
use mathlib.Core.Path.{◌≡◌, refl, sym, subst}
use mathlib.Core.Bool.{Bool, true, false}
use mathlib.Core.List.{List, [], ◌∷◌, append-nil}
use mathlib.Core.Option.{none}
use Prim.Native.Nat.{ℕ, ◌+◌, ◌*◌, ◌-◌, ◌≤◌, ◌<◌}
use lib.ListN.{length, length-append}
use native.Mathlib.Omega.{arith}
use Rattle.spans.specs.declared.Position.{Position}
use Rattle.spans.specs.declared.Span.{Span}
use Rattle.rules.specs.Tokens.{TokenizeError}
use Rattle.rules.specs.Lexer.{span}
use Rattle.records.specs.Records.{error_record}
use Rattle.output.specs.Writing.{Put}
use Rattle.records.proofs.Bytes.{length_error}
use Rattle.output.proofs.Buffers.{put_none}
use Rattle.output.proofs.Lengths.{error_bounds}
use Rattle.records.specs.Layout.{code_of, error_record_of, error_bytes}
use Rattle.walks.specs.Errors.{unclosed}

none_bytes : error_bytes [] ≡ []
unfolding error_bytes
none_bytes = refl

pub one_bytes : (e : TokenizeError) → error_bytes (e ∷ []) ≡ error_record_of e
unfolding error_bytes
one_bytes e = append-nil (error_record_of e)

-- One error written.
pub put_one : (old new : List ℕ) (at r : ℕ) (e : TokenizeError)
    → Put old new at (error_record_of e) r → Put old new at (error_bytes (e ∷ [])) r
put_one old new at r e x = subst (λ (bs : List ℕ). Put old new at bs r) (sym (one_bytes e)) x

-- No error written.
pub put_no : (b : List ℕ) (at : ℕ) → Put b b at (error_bytes []) at
put_no b at = subst (λ (bs : List ℕ). Put b b at bs at) (sym none_bytes) (put_none b at)

module _ (closed : Bool) (kind : ℕ) (p q : Position) where
  pub closed_none : closed ≡ true → unclosed closed kind p q ≡ []
  unfolding unclosed
  closed_none e = rw e

  pub unclosed_one : closed ≡ false → unclosed closed kind p q ≡ record { kind = kind; span = span p q; char = none } ∷ []
  unfolding unclosed
  unclosed_one e = rw e

  pub put_closed : (b : List ℕ) (at : ℕ) → closed ≡ true → Put b b at (error_bytes (unclosed closed kind p q)) at
  put_closed b at e = subst (λ (es : List TokenizeError). Put b b at (error_bytes es) at) (sym (closed_none e)) (put_no b at)

  pub put_unclosed : (old new : List ℕ) (at r : ℕ) (s : Span) → closed ≡ false → s ≡ span p q → Put old new at (error_record kind s 0) r
      → Put old new at (error_bytes (unclosed closed kind p q)) r
  unfolding error_record_of code_of
  put_unclosed old new at r s e f x =
      subst (λ (es : List TokenizeError). Put old new at (error_bytes es) r) (sym (unclosed_one e))
      (put_one old new at r (record { kind = kind; span = span p q; char = none })
      (subst (λ (t : Span). Put old new at (error_record kind t 0) r) f x))

-- ── How many bytes ──

pub error_size : (e : TokenizeError) → length (error_record_of e) ≤ 29
unfolding error_record_of
error_size e = omega (arith, length_error e.kind e.span (code_of e.char), error_bounds e.kind)

pub errors_size_lem : (es : List TokenizeError) → length (error_bytes es) ≤ 29 * length es
unfolding error_bytes
errors_size_lem [] = omega arith
errors_size_lem (e ∷ es) = omega (arith, error_size e, errors_size_lem es, length-append (error_record_of e) (error_bytes es))

pub unclosed_size : (closed : Bool) (kind : ℕ) (p q : Position) → length (error_bytes (unclosed closed kind p q)) ≤ 29
unfolding unclosed
unclosed_size true kind p q = omega (arith, errors_size_lem [])
unclosed_size false kind p q = omega (arith, errors_size_lem (record { kind = kind; span = span p q; char = none } ∷ []))

-- One error at most, of what is not empty.
pub put_few : (old new : List ℕ) (at r : ℕ) (bytes : List ℕ) (m n : ℕ) → Put old new at bytes r → length bytes ≤ 29 → m < n
    → r ≤ at + 29 * (n - m)
put_few old new at r bytes m n x h l = omega (arith, x.place)
