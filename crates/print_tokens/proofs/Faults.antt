-- Errors of a token, told by how many bytes were recorded for them; and the first byte of a token. Assumes nothing.
use mathlib.Core.Path.{◌≡◌, refl, ap}
use mathlib.Core.Bool.{true, false}
use mathlib.Core.List.{List, [], ◌∷◌}
use Prim.Native.Nat.{ℕ, ◌≤◌, ◌<◌}
use native.Mathlib.Omega.{arith}
use lib.ListN.{length, get_or, length-append}
use Rattle.characters.specs.Choice.{◌is◌}
use Rattle.characters.specs.Utf8.{chars_at}
use Rattle.spans.specs.declared.Position.{Position}
use Rattle.rules.specs.Text.{Text, ch}
use Rattle.rules.specs.Tokens.{TokenizeError}
use Rattle.rules.specs.Scan.{next}
use Rattle.rules.specs.Lexer.{span}
use Rattle.rules.proofs.Ahead.{is_eq}
use Rattle.cursor.specs.Cursor.{left}
use Rattle.cursor.specs.declared.Cursor.TheVariants.{Outside}
use Rattle.bridge.specs.Bridge.{placed, exactly}
use Rattle.bridge.proofs.Bytes.{next_test}
use Rattle.bridge.proofs.Tests.{low_is}
use Rattle.output.specs.Writing.{Put}
use Rattle.records.specs.Records.{head_bytes, error_record}
use Rattle.records.specs.Layout.{error_record_of, error_bytes}
use Rattle.walks.specs.Segments.{segment_at, errors_at, OneToken}
use Rattle.walks.proofs.Segments.{one_token_yields}
use Rattle.prints.specs.Records.{quote_at}
use Rattle.print_places.specs.Places.{lexed_from, no_errors, right_from}
use Rattle.print_places.proofs.Tokens.{wrong_some}

-- ── Errors ──

record_some : (e : TokenizeError) → 1 ≤ length (error_record_of e)
unfolding error_record_of error_record head_bytes
record_some e = omega arith

errors_none : (es : List TokenizeError) → length (error_bytes es) ≤ 0 → es ≡ []
unfolding error_bytes
errors_none [] h = refl
errors_none (e ∷ es) h = absurd (omega (arith, length-append (error_record_of e) (error_bytes es), record_some e))

errors_some : (es : List TokenizeError) → 0 < length (error_bytes es) → no_errors es ≡ false
unfolding error_bytes no_errors
errors_some [] h = absurd (omega arith)
errors_some (e ∷ es) h = refl

module _ (s : List ℕ) (from kind : ℕ) (t : Text) (q : Position) (one : OneToken s (placed from) kind t q q) (errors errors' : List ℕ) (n : ℕ)
    (p : Put errors errors' 0 (error_bytes (errors_at s (placed from))) n) where
  -- No bytes: no error.
  pub token_right : n ≤ 0 → errors_at s (placed from) ≡ []
  token_right h = errors_none (errors_at s (placed from)) (omega (arith, p.place))

  pub token_wrong : 0 < n → right_from s from ≡ false
  token_wrong h =
      wrong_some (record { kind = kind; text = t; span = span (placed from) q } ∷ []) (errors_at s (placed from)) (segment_at s (placed from)).open_end (lexed_from s from) (left (Outside q) (chars_at s q.offset))
      (one_token_yields s (placed from) q kind t q one) (errors_some (errors_at s (placed from)) (omega (arith, p.place)))

-- ── The first byte ──

module _ (s : List ℕ) (from x : ℕ) (h : 1 ≤ x) (k : x ≤ 0x7F) (e : next (exactly x) (chars_at s from) ≡ true) where
  pub quote_is : quote_at s from ≡ (x is ch "\"")
  unfolding quote_at
  quote_is = ap (λ (b : ℕ). b is ch "\"") (is_eq (get_or s from 0) x (next_test (exactly x) (low_is 1 x h k) s from true e))
