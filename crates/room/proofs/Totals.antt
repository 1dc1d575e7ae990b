-- How much the tokens, texts and errors of an accepted script take at most. Assumes nothing.
use mathlib.Core.Path.{◌≡◌}
use mathlib.Core.Bool.{true}
use mathlib.Core.List.{List, [], ◌∷◌}
use Prim.Native.Nat.{ℕ, ◌+◌, ◌*◌, ◌≤◌, zero-le}
use native.Mathlib.Omega.{arith}
use borrow.Author.Tests.{leb-true}
use lib.Dec.{leb}
use lib.ListN.{length, length-append}
use Rattle.byte_order_mark.specs.Mark.{after_mark}
use Rattle.characters.specs.Utf8.{is_utf8}
use Rattle.characters.proofs.Choice.{if_all, and_both}
use Rattle.byte_order_mark.proofs.Marks.{mark_length_after}
use Rattle.rules.specs.Tokens.{Token, TokenizeError}
use Rattle.rules.specs.Script.{LIMIT, accepted, script_tokens, script_errors}
use Rattle.rules.proofs.Fits.{text_lengths, token_count, error_count, text_count}
use Rattle.records.specs.Kinds.{is_made}
use Rattle.records.specs.Layout.{made_text, text_bytes, token_bytes}
use Rattle.records.proofs.Filling.{tokens_size, errors_size, length_tokens, length_errors}
use Rattle.output.proofs.Lengths.{record_bounds, error_bounds}
use Rattle.room.specs.Needed.{needed}
use Rattle.room.specs.Room.{most_tokens, most_texts, most_errors}

-- ── Lists ──

tokens_most : (ts : List Token) → tokens_size ts ≤ 33 * length ts
unfolding tokens_size
tokens_most [] = zero-le
tokens_most (t ∷ ts) = omega (arith, tokens_most ts, record_bounds t.kind)

errors_most : (es : List TokenizeError) → errors_size es ≤ 29 * length es
unfolding errors_size
errors_most [] = zero-le
errors_most (e ∷ es) = omega (arith, errors_most es, error_bounds e.kind)

made_most : (t : Token) → length (made_text t) ≤ length t.text
unfolding made_text
made_most t = if_all (λ (l : List ℕ). length l ≤ length t.text) (is_made t.kind) (λ _. omega arith) (λ _. zero-le)

texts_most : (ts : List Token) → length (text_bytes ts) ≤ text_lengths ts
unfolding text_bytes text_lengths
texts_most [] = zero-le
texts_most (t ∷ ts) = omega (arith, texts_most ts, made_most t, length-append (made_text t) (text_bytes ts))

-- ── A script ──

module _ (s : List ℕ) (ok : accepted s ≡ true) where
  pub text_low : length (after_mark s) ≤ LIMIT
  unfolding accepted
  text_low =
      let h : length s ≤ LIMIT = leb-true (length s) LIMIT (and_both (leb (length s) LIMIT) (is_utf8 s) ok).0 in
      omega (arith, mark_length_after s)

  pub few_tokens : (needed s).tokens ≤ most_tokens (length (after_mark s))
  unfolding most_tokens needed token_bytes
  few_tokens = omega (arith, length_tokens 0 (script_tokens s), tokens_most (script_tokens s), token_count s ok)

  pub few_texts : (needed s).texts ≤ most_texts (length (after_mark s))
  unfolding most_texts needed
  few_texts = omega (arith, texts_most (script_tokens s), text_count s ok)

  pub few_errors : (needed s).errors ≤ most_errors (length (after_mark s))
  unfolding most_errors needed
  few_errors = omega (arith, length_errors (script_errors s), errors_most (script_errors s), error_count s ok)

  pub few_counted : (needed s).count ≤ length (after_mark s) + 1
  unfolding needed
  few_counted = token_count s ok
