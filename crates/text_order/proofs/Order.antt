-- Order 3 of a call of tokenising, from its contract alone. Assumes nothing.
use Rattle.std.specs.Prelude.{if◌then◌else◌}
use mathlib.Core.Path.{◌≡◌, refl, ap}
use mathlib.Core.Bool.{Bool, true, false}
use mathlib.Core.List.{List, [], ◌∷◌, ◌++◌, flatten, append_assoc}
use Prim.Native.Nat.{ℕ, ◌+◌, ◌≤◌}
use native.Mathlib.Omega.{arith}
use lib.ListN.{length, drop}
use lib.Seq.{take-append_seam, drop-append_seam}
use Rattle.rules.specs.Tokens.{Token}
use Rattle.rules.specs.Script.{accepted, script_tokens}
use Rattle.records.specs.Kinds.{is_made}
use Rattle.records.specs.Layout.{made_text, text_bytes}
use Rattle.room.specs.declared.Used.{Used}
use Rattle.room.specs.Needed.{needed}
use Rattle.lexer.specs.Tokenize.{buffer_after}
use Rattle.lexer.specs.Joining.{Call, Answered}
use Rattle.lexer.proofs.Fits.{tokens_fit, tokens_ended}
use Rattle.lexer.proofs.Back.{tokenize_says, texts_small}
use Rattle.lexer.proofs.Outcome.{used_is, texts_used}
use Rattle.text_order.specs.Order.{made_texts, places_after, places_met, read_through, texts_of, TextsInOrder}
use Rattle.text_order.proofs.Places.{places_told}

-- ── Texts one behind another ──

-- They are what tokenising writes.
flatten_made : (ts : List Token) → flatten (made_texts ts) ≡ text_bytes ts
unfolding flatten made_texts text_bytes made_text
flatten_made [] = refl
flatten_made (t ∷ ts) = go (is_made t.kind) (flatten_made ts)
  where
    go : (m : Bool) → flatten (made_texts ts) ≡ text_bytes ts
        → flatten (if m then t.text ∷ made_texts ts else made_texts ts) ≡ (if m then t.text else []) ++ text_bytes ts
    go true e = ap (λ (l : List ℕ). t.text ++ l) e
    go false e = e

-- Read straight through they come out, whatever stands behind them.
through : (before : ℕ) (xs : List (List ℕ)) (after : List ℕ) → read_through (places_after before xs) (flatten xs ++ after) ≡ xs
unfolding read_through places_after flatten
through before [] after = refl
through before (x ∷ xs) after =
    rw (
      append_assoc x (flatten xs) after,
      take-append_seam x (flatten xs ++ after),
      drop-append_seam x (flatten xs ++ after),
      through (before + length x) xs after,
    )

-- ── A call ──

module _ (k : Call) (w : Answered k) where
  ok : accepted k.script ≡ true
  ok = (tokenize_says k.script k.used (length k.tokens_before) (length k.texts_before) (length k.errors_before) w.answer).0

  texts_flat : flatten (texts_of k) ≡ text_bytes (script_tokens k.script)
  texts_flat = flatten_made (script_tokens k.script)

  -- The text buffer: the texts, one behind another, and then what it held.
  texts_are : k.texts_after ≡ flatten (texts_of k) ++ drop (length (flatten (texts_of k))) k.texts_before
  unfolding buffer_after
  texts_are = rw texts_flat w.texts_after

  count_is : length (script_tokens k.script) ≤ k.used.count
  unfolding needed
  count_is = omega (arith, ap (λ (u : Used). u.count) (used_is k w))

  places_are : places_met k ≡ places_after 0 (texts_of k)
  unfolding buffer_after
  places_are =
      rw w.tokens_after
      (places_told k.script (script_tokens k.script) _ k.used.count (tokens_fit k.script ok) (tokens_ended k.script ok) (texts_small k.script ok) count_is)

  -- Tokenising leaves the texts in the order of their tokens.
  pub texts_in_order : TextsInOrder k
  unfolding needed
  texts_in_order =
      record {
        used = rw texts_flat (ap (λ (u : Used). u.texts) (used_is k w));
        bytes = rw texts_flat (texts_used k w);
        places = places_are;
        straight = rw (places_are, texts_are) (through 0 (texts_of k) _);
      }
