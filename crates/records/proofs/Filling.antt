-- Laws of the bytes of lists of tokens and errors, and of a loop that fills a buffer with them. Assumes nothing.
use mathlib.Core.Path.{◌≡◌, refl, ◌∙◌, ap}
use mathlib.Core.List.{List, [], ◌∷◌, ◌++◌, append_assoc}
use Prim.Native.Nat.{ℕ, ◌+◌, ◌≤◌}
use lib.ListN.{length, length-append}
use lib.Seq.{sets, length-sets}
use native.Mathlib.Nat.{zero-add, add-zero, add_assoc}
use native.Mathlib.Omega.{arith}
use Rattle.characters.proofs.Buffers.{sets_append}
use Rattle.rules.specs.Tokens.{Token, TokenizeError}
use Rattle.records.specs.Kinds.{record_length, error_length}
use Rattle.records.specs.Layout.{made_text, text_bytes, text_offset, record_of, token_bytes_from, code_of, error_record_of, error_bytes}
use Rattle.records.proofs.Bytes.{length_token, length_error}

-- ── One element more, at the front ──

pub texts_cons : (t : Token) (ts : List Token) → text_bytes (t ∷ ts) ≡ made_text t ++ text_bytes ts
unfolding text_bytes
texts_cons t ts = refl

pub tokens_cons : (used : ℕ) (t : Token) (ts : List Token) → token_bytes_from used (t ∷ ts) ≡ record_of used t ++ token_bytes_from (used + length (made_text t)) ts
unfolding token_bytes_from
tokens_cons used t ts = refl

pub errors_cons : (e : TokenizeError) (es : List TokenizeError) → error_bytes (e ∷ es) ≡ error_record_of e ++ error_bytes es
unfolding error_bytes
errors_cons e es = refl

-- ── Lists one after the other ──

pub texts_append : (xs ys : List Token) → text_bytes (xs ++ ys) ≡ text_bytes xs ++ text_bytes ys
unfolding text_bytes
texts_append [] ys = refl
texts_append (x ∷ xs) ys = rw (texts_append xs ys, append_assoc (made_text x) (text_bytes xs) (text_bytes ys))

pub tokens_append : (used : ℕ) (xs ys : List Token) → token_bytes_from used (xs ++ ys) ≡ token_bytes_from used xs ++ token_bytes_from (used + length (text_bytes xs)) ys
unfolding token_bytes_from text_bytes
tokens_append used [] ys = rw (add-zero used)
tokens_append used (x ∷ xs) ys =
    rw (
      tokens_append (used + length (made_text x)) xs ys,
      append_assoc (record_of used x) (token_bytes_from (used + length (made_text x)) xs) _,
      length-append (made_text x) (text_bytes xs),
      add_assoc used (length (made_text x)) (length (text_bytes xs)),
    )

pub errors_append : (xs ys : List TokenizeError) → error_bytes (xs ++ ys) ≡ error_bytes xs ++ error_bytes ys
unfolding error_bytes
errors_append [] ys = refl
errors_append (x ∷ xs) ys = rw (errors_append xs ys, append_assoc (error_record_of x) (error_bytes xs) (error_bytes ys))

-- ── Lengths ──

pub length_record : (used : ℕ) (t : Token) → length (record_of used t) ≡ record_length t.kind
unfolding record_of
length_record used t = length_token t.kind t.span (text_offset used t) (length t.text)

pub length_error_record : (e : TokenizeError) → length (error_record_of e) ≡ error_length e.kind
unfolding error_record_of
length_error_record e = length_error e.kind e.span (code_of e.char)

-- The bytes of the records, counted by kinds. They do not depend on where the texts lie.
unfoldable pub tokens_size : List Token → ℕ
tokens_size [] = 0
tokens_size (t ∷ ts) = record_length t.kind + tokens_size ts

unfoldable pub errors_size : List TokenizeError → ℕ
errors_size [] = 0
errors_size (e ∷ es) = error_length e.kind + errors_size es

pub length_tokens : (used : ℕ) (ts : List Token) → length (token_bytes_from used ts) ≡ tokens_size ts
unfolding token_bytes_from tokens_size
length_tokens used [] = refl
length_tokens used (t ∷ ts) =
    length-append (record_of used t) (token_bytes_from (used + length (made_text t)) ts) ∙ rw (length_record used t, length_tokens (used + length (made_text t)) ts)

pub length_errors : (es : List TokenizeError) → length (error_bytes es) ≡ errors_size es
unfolding error_bytes errors_size
length_errors [] = refl
length_errors (e ∷ es) = length-append (error_record_of e) (error_bytes es) ∙ rw (length_error_record e, length_errors es)

-- ── A buffer that is being filled ──

-- The buffer `b`, filled up to `used`, with the bytes `rest` still to be written: in the end it is `b₀` with `all` at the front.
pub record Ahead (b₀ b : List ℕ) (used : ℕ) (rest all : List ℕ) : Type 0 where
  pub same : sets b used rest ≡ sets b₀ 0 all
  pub count : used + length rest ≡ length all
  pub size : length b ≡ length b₀

pub ahead_start : (b all : List ℕ) → Ahead b b 0 all all
ahead_start b all = record { same = refl; count = zero-add (length all); size = refl }

module _ (b₀ b : List ℕ) (used : ℕ) (rest all x later : List ℕ) (r : rest ≡ x ++ later) (a : Ahead b₀ b used rest all) where
  -- There is room for what comes next.
  pub ahead_room : length all ≤ length b₀ → used + length x ≤ length b
  ahead_room h = omega (arith, a.count, a.size, ap length r ∙ length-append x later)

  -- It is written.
  pub ahead_step : (b' : List ℕ) (used' : ℕ) → b' ≡ sets b used x → used' ≡ used + length x → Ahead b₀ b' used' later all
  ahead_step b' used' p q =
      record {
        same = rw (p, q, sets_append b used x later, ← r) a.same;
        count = omega (arith, a.count, ap length r ∙ length-append x later);
        size = ap length p ∙ (length-sets b used x ∙ a.size);
      }

-- Nothing is left to be written.
pub ahead_end : (b₀ b : List ℕ) (used : ℕ) (rest all : List ℕ) → rest ≡ [] → Ahead b₀ b used rest all → (b ≡ sets b₀ 0 all) × (used ≡ length all)
ahead_end b₀ b used rest all e a = (rw e at a.same, omega (arith, a.count, ap length e))
