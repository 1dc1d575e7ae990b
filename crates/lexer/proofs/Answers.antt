-- Laws of the answers: by the questions one after another. Assumes nothing.
use mathlib.Core.Path.{◌≡◌, refl, sym, ◌∙◌, ap}
use mathlib.Core.Bool.{true, ◌&&◌}
use mathlib.Core.List.{List, ◌++◌}
use Prim.Native.Nat.{ℕ, ◌+◌, ◌-◌, ◌≤◌}
use native.Mathlib.Nat.{zero-add}
use native.Mathlib.Omega.{arith}
use borrow.Author.Tests.{leb-true}
use lib.Dec.{leb}
use lib.ListN.{length, drop}
use lib.Seq.{sets, sets-eq}
use Rattle.byte_order_mark.specs.Mark.{mark_length, after_mark}
use Rattle.characters.proofs.Choice.{and_both}
use Rattle.byte_order_mark.proofs.Marks.{mark_length_after}
use Rattle.rules.specs.Script.{LIMIT, accepted, script_tokens, script_errors}
use Rattle.std.specs.Prelude.{Ok, Err}
use Rattle.refusals.specs.declared.Refusal.{Refusal}
use Rattle.refusals.specs.Refusals.{refusal_number, refusal_figure}
use Rattle.refusals.specs.Answers.{got, refused, ◌then◌}
use Rattle.records.specs.Layout.{token_bytes, text_bytes, error_bytes}
use Rattle.room.specs.declared.Used.{Used}
use Rattle.room.specs.Needed.{needed}
use Rattle.room.specs.Room.{most_tokens, most_texts, most_errors, roomy}
use Rattle.room.proofs.Totals.{text_low, few_tokens, few_texts, few_errors}
use Rattle.list_loop.specs.Run.{Ran}
use Rattle.questions.specs.Questions.{ask_text, ask_room}
use Rattle.questions.proofs.Questions.{room_yes, yes_room}
use Rattle.lexer.specs.Tokenize.{measure_answer, tokenize_answer, buffer_after, Tokenized}

-- ── Measuring ──

module _ (s : List ℕ) where
  pub measure_no : (n f : ℕ) → ask_text s ≡ refused n f → refused n f ≡ measure_answer s
  unfolding measure_answer ◌then◌
  measure_no n f e = rw e

  pub measure_yes : (u : Used) → ask_text s ≡ got tt → u ≡ needed s → got u ≡ measure_answer s
  unfolding measure_answer ◌then◌
  measure_yes u e k = rw (e, k)

-- ── Tokenising ──

-- Bytes written at the front of a buffer that holds them.
pub front : (old bytes : List ℕ) → length bytes ≤ length old → sets old 0 bytes ≡ bytes ++ drop (length bytes) old
front old bytes h =
    let g : 0 + length bytes ≤ length old = omega arith in
    sets-eq bytes old 0 g ∙ ap (λ (n : ℕ). bytes ++ drop n old) (zero-add (length bytes))

module _ (s tokens texts errors : List ℕ) where
  pub tokenize_no : (x : Refusal) → ask_text s ≡ refused (refusal_number x) (refusal_figure x) → Tokenized s tokens texts errors (Err x) tokens texts errors
  unfolding tokenize_answer ◌then◌ buffer_after
  tokenize_no x e = record { answer = rw e; tokens_after = refl; texts_after = refl; errors_after = refl }

  pub tokenize_full : (u : Used) (x : Refusal) → ask_text s ≡ got tt → u ≡ needed s
      → ask_room u (length tokens) (length texts) (length errors) ≡ refused (refusal_number x) (refusal_figure x)
      → Tokenized s tokens texts errors (Err x) tokens texts errors
  unfolding tokenize_answer ◌then◌ buffer_after
  tokenize_full u x e k m =
      record { answer = rw (e, ← k, m); tokens_after = refl; texts_after = refl; errors_after = refl }

  done_answer : (r : Used) → ask_text s ≡ got tt → ask_room (needed s) (length tokens) (length texts) (length errors) ≡ got tt → r ≡ needed s
      → got r ≡ tokenize_answer s (length tokens) (length texts) (length errors)
  unfolding tokenize_answer ◌then◌
  done_answer r e x k = rw (e, x, k)

  pub tokenize_yes : (r : Used) (tokens' texts' errors' : List ℕ) → ask_text s ≡ got tt
      → ask_room (needed s) (length tokens) (length texts) (length errors) ≡ got tt
      → Ran s tokens texts errors r tokens' texts' errors' → Tokenized s tokens texts errors (Ok r) tokens' texts' errors'
  unfolding buffer_after needed
  tokenize_yes r tokens' texts' errors' e x w =
      let m = yes_room (needed s) (length tokens) (length texts) (length errors) x in
      record {
        answer = done_answer r e x w.used;
        tokens_after = w.tokens_written ∙ front tokens (token_bytes (script_tokens s)) m.0;
        texts_after = w.texts_written ∙ front texts (text_bytes (script_tokens s)) m.1;
        errors_after = w.errors_written ∙ front errors (error_bytes (script_errors s)) m.2;
      }

  -- The same where what the script takes was counted before.
  pub tokenize_counted : (u r : Used) (tokens' texts' errors' : List ℕ) → ask_text s ≡ got tt → u ≡ needed s
      → ask_room u (length tokens) (length texts) (length errors) ≡ got tt
      → Ran s tokens texts errors r tokens' texts' errors' → Tokenized s tokens texts errors (Ok r) tokens' texts' errors'
  tokenize_counted u r tokens' texts' errors' e k x w = tokenize_yes r tokens' texts' errors' e (rw (← k) x) w

-- Buffers that hold what any text takes hold what this script takes.
pub roomy_yes : (s : List ℕ) (n tokens texts errors : ℕ) → accepted s ≡ true → n ≡ length (after_mark s) → roomy n tokens texts errors ≡ true
    → ask_room (needed s) tokens texts errors ≡ got tt
unfolding roomy
roomy_yes s n tokens texts errors ok k h =
    let p = and_both (leb (most_tokens n) tokens && leb (most_texts n) texts) (leb (most_errors n) errors) h in
    let q = and_both (leb (most_tokens n) tokens) (leb (most_texts n) texts) p.0 in
    let a = rw k at (leb-true (most_tokens n) tokens q.0) in
    let b = rw k at (leb-true (most_texts n) texts q.1) in
    let d = rw k at (leb-true (most_errors n) errors p.1) in
    sym (
    room_yes (needed s) tokens texts errors (omega (arith, few_tokens s ok)) (omega (arith, few_texts s ok))
    (omega (arith, few_errors s ok))
    )

-- The bytes after the mark.
module _ (s : List ℕ) (m : ℕ) (e : m ≡ mark_length s) where
  pub mark_fits : m ≤ length s
  mark_fits = omega (arith, mark_length_after s)

  pub after_size : length s - m ≡ length (after_mark s)
  after_size = omega (arith, mark_length_after s)

  pub after_low : accepted s ≡ true → length s - m ≤ LIMIT
  after_low ok = omega (arith, after_size, text_low s ok)
