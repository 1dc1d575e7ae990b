-- Tokenising has a single outcome, from its contract alone. Assumes nothing.
use mathlib.Core.Path.{◌≡◌, sym, ◌∙◌, ap}
use mathlib.Core.List.{List, ◌++◌}
use Prim.Native.Nat.{ℕ}
use lib.ListN.{length, take, drop}
use lib.Seq.{take-append_seam}
use Rattle.std.specs.Prelude.{Result}
use Rattle.refusals.specs.declared.Refusal.{Refusal}
use Rattle.refusals.proofs.Answers.{same_answer}
use Rattle.rules.specs.Script.{script_tokens, script_errors}
use Rattle.records.specs.Layout.{token_bytes, text_bytes, error_bytes}
use Rattle.room.specs.declared.Used.{Used}
use Rattle.room.specs.Needed.{needed}
use Rattle.lexer.specs.Tokenize.{buffer_after, Tokenized}
use Rattle.lexer.specs.Joining.{Call, Answered}
use Rattle.lexer.proofs.Back.{tokenize_says}

-- The same script and the same buffers lent again: the same answer, and the same bytes in all three buffers.
pub single_outcome : (s tokens texts errors : List ℕ) (r q : Result Used Refusal) (tokens' texts' errors' tokens'' texts'' errors'' : List ℕ)
    → Tokenized s tokens texts errors r tokens' texts' errors' → Tokenized s tokens texts errors q tokens'' texts'' errors''
    → (r ≡ q) × (tokens' ≡ tokens'') × (texts' ≡ texts'') × (errors' ≡ errors'')
single_outcome s tokens texts errors r q tokens' texts' errors' tokens'' texts'' errors'' w v =
    let e = same_answer r q (w.answer ∙ sym v.answer) in (
      e,
      rw (w.tokens_after, v.tokens_after, e),
      rw (w.texts_after, v.texts_after, e),
      rw (w.errors_after, v.errors_after, e),
    )

-- ── Other buffers ──

-- The part used of a buffer, which holds what is defined at its front.
front : (used : ℕ) (after bytes old : List ℕ) → used ≡ length bytes → after ≡ bytes ++ drop (length bytes) old → take used after ≡ bytes
front used after bytes old e h = rw (e, h) (take-append_seam bytes (drop (length bytes) old))

module _ (k : Call) (w : Answered k) where
  pub used_is : k.used ≡ needed k.script
  used_is =
      (tokenize_says k.script k.used (length k.tokens_before) (length k.texts_before) (length k.errors_before) w.answer).1

  tokens_used : take k.used.tokens k.tokens_after ≡ token_bytes (script_tokens k.script)
  unfolding needed buffer_after
  tokens_used = front _ _ _ k.tokens_before (ap (λ (u : Used). u.tokens) used_is) w.tokens_after

  pub texts_used : take k.used.texts k.texts_after ≡ text_bytes (script_tokens k.script)
  unfolding needed buffer_after
  texts_used = front _ _ _ k.texts_before (ap (λ (u : Used). u.texts) used_is) w.texts_after

  errors_used : take k.used.errors k.errors_after ≡ error_bytes (script_errors k.script)
  unfolding needed buffer_after
  errors_used = front _ _ _ k.errors_before (ap (λ (u : Used). u.errors) used_is) w.errors_after

-- The same script and any buffers, where both calls were answered with yes: the same values, and the same bytes in the parts used.
pub same_bytes_used : (k l : Call) → Answered k → Answered l → k.script ≡ l.script
    → (k.used ≡ l.used)
    × (take k.used.tokens k.tokens_after ≡ take l.used.tokens l.tokens_after)
    × (take k.used.texts k.texts_after ≡ take l.used.texts l.texts_after)
    × (take k.used.errors k.errors_after ≡ take l.used.errors l.errors_after)
same_bytes_used k l w v e = (
  used_is k w ∙ (ap needed e ∙ sym (used_is l v)),
  tokens_used k w ∙ (ap (λ (s : List ℕ). token_bytes (script_tokens s)) e ∙ sym (tokens_used l v)),
  texts_used k w ∙ (ap (λ (s : List ℕ). text_bytes (script_tokens s)) e ∙ sym (texts_used l v)),
  errors_used k w ∙ (ap (λ (s : List ℕ). error_bytes (script_errors s)) e ∙ sym (errors_used l v)),
)
