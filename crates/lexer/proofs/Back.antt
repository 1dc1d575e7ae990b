-- From the contract of tokenising alone: what its answer says, and what readers of its buffers meet. Assumes nothing.
use mathlib.Core.Path.{◌≡◌, sym, ◌∙◌, ap}
use mathlib.Core.Bool.{true}
use mathlib.Core.List.{List, [], ◌∷◌}
use Prim.Native.Nat.{ℕ, ◌≤◌, ◌<◌, zero-le}
use native.Mathlib.Omega.{arith}
use lib.ListN.{length, take, drop}
use lib.Seq.{take-append_seam}
use Rattle.rules.specs.Tokens.{TokenizeError}
use Rattle.rules.specs.Script.{LIMIT, accepted, script_tokens, script_errors}
use Rattle.rules.specs.Bounds.{Small}
use Rattle.rules.specs.Shift.{ClosedExactly}
use Rattle.rules.proofs.Demand as demand
use Rattle.std.specs.Prelude.{Result, Ok}
use Rattle.refusals.specs.declared.Refusal.{Refusal}
use Rattle.refusals.proofs.Answers.{same_got, same_answer, yes_then}
use Rattle.refusals.specs.Answers.{Answer, got, of_answer, ◌then◌}
use Rattle.records.specs.Layout.{text_bytes, error_bytes}
use Rattle.record_lists.specs.Lists.{tokens_from, errors_from}
use Rattle.records.proofs.Filling.{errors_size, length_errors}
use Rattle.record_lists.proofs.Back.{tokens_back, errors_back}
use Rattle.output.proofs.Lengths.{error_bounds}
use Rattle.room.specs.declared.Used.{Used}
use Rattle.room.specs.Needed.{needed}
use Rattle.room.specs.Room.{most_texts}
use Rattle.room.proofs.Totals.{text_low, few_texts}
use Rattle.questions.specs.Questions.{ask_text, ask_room}
use Rattle.questions.proofs.Questions.{yes_accepted}
use Rattle.lexer.specs.Tokenize.{measure_answer, tokenize_answer, buffer_after, Tokenized}
use Rattle.lexer.specs.Places.{places_from, Fills}
use Rattle.lexer.proofs.Fits.{tokens_fit, tokens_ended, errors_fit}
use Rattle.lexer.proofs.Places.{places_filled}

-- ── What a yes says ──

yes_measured : (a : Answer (Unit {0})) (u v : Used) → got u ≡ (a then got v) → (a ≡ got tt) × (u ≡ v)
yes_measured a u v e = let q = yes_then a (got v) u e in (q.0, same_got u v q.1)

yes_tokenized : (a b : Answer (Unit {0})) (u v : Used) → got u ≡ (a then b then got v) → (a ≡ got tt) × (b ≡ got tt) × (u ≡ v)
yes_tokenized a b u v e = let p = yes_then a (b then got v) u e in let q = yes_measured b u v p.1 in (p.0, q.0, q.1)

module _ (s : List ℕ) (u : Used) where
  -- Measuring: the script is accepted, and `u` is what it takes.
  pub measure_says : got u ≡ measure_answer s → (accepted s ≡ true) × (u ≡ needed s)
  unfolding measure_answer
  measure_says e = let q = yes_measured (ask_text s) u (needed s) e in (yes_accepted s q.0, q.1)

  -- Tokenising: the same.
  pub tokenize_says : (tokens texts errors : ℕ) → got u ≡ tokenize_answer s tokens texts errors → (accepted s ≡ true) × (u ≡ needed s)
  unfolding tokenize_answer
  tokenize_says tokens texts errors e =
      let q = yes_tokenized (ask_text s) (ask_room (needed s) tokens texts errors) u (needed s) e in
      (yes_accepted s q.0, q.2)

  -- Wherever tokenising accepts, measuring gives the same answer.
  pub measure_same : (tokens texts errors : ℕ) → got u ≡ tokenize_answer s tokens texts errors → got u ≡ measure_answer s
  unfolding tokenize_answer measure_answer ◌then◌
  measure_same tokens texts errors e =
      let q = yes_tokenized (ask_text s) (ask_room (needed s) tokens texts errors) u (needed s) e in
      rw (q.0, q.2)

  -- Demand 3 of what is answered: a script is called closed exactly when it joins with every second script that fits.
  needed_closed : accepted s ≡ true → u ≡ needed s → length s < LIMIT → ClosedExactly s u.closed
  unfolding needed
  needed_closed ok e room = rw (ap (λ (v : Used). v.closed) e) (demand.closed_exactly s ok room)

  -- Measuring calls it so.
  pub measure_closed_exactly : got u ≡ measure_answer s → length s < LIMIT → ClosedExactly s u.closed
  measure_closed_exactly e room = needed_closed (measure_says e).0 (measure_says e).1 room

-- ── Sizes of what is written ──

-- A place in the text buffer fits the fields of a record.
pub texts_small : (s : List ℕ) → accepted s ≡ true → Small (length (text_bytes (script_tokens s)))
unfolding needed most_texts
texts_small s ok = omega (arith, text_low s ok, few_texts s ok)

-- Errors have bytes.
errors_few : (es : List TokenizeError) → length es ≤ errors_size es
unfolding errors_size
errors_few [] = zero-le
errors_few (e ∷ es) = omega (arith, errors_few es, error_bounds e.kind)

-- ── Tokenising that was answered with yes ──

module _ (s tokens texts errors : List ℕ) (u : Used) (tokens' texts' errors' : List ℕ)
    (w : Tokenized s tokens texts errors (Ok u) tokens' texts' errors') where
  says : (accepted s ≡ true) × (u ≡ needed s)
  says = tokenize_says s u (length tokens) (length texts) (length errors) w.answer

  -- Its answer: the bytes used in each buffer, the number of tokens, and whether the script is closed.
  pub answers : u ≡ needed s
  answers = says.1

  count_said : (n : ℕ) → u.count ≤ n → length (script_tokens s) ≤ n
  unfolding needed
  count_said n h = rw (ap (λ (v : Used). v.count) answers) at h

  -- A reader of the buffers meets the tokens of the rules: kind, text and span of each, in order, ended by EOF.
  pub tokens_read_lem : (n : ℕ) → u.count ≤ n → tokens_from n s texts' tokens' 0 ≡ script_tokens s
  unfolding buffer_after
  tokens_read_lem n h =
      rw (w.tokens_after, w.texts_after)
      (tokens_back s (script_tokens s) _ _ n (tokens_fit s says.0) (tokens_ended s says.0) (texts_small s says.0) (count_said n h))

  -- A reader of the part used of the error buffer meets the errors of the rules: kind, span and code point of each, in order.
  pub errors_read_lem : (n : ℕ) → u.errors ≤ n → errors_from n (take u.errors errors') 0 ≡ script_errors s
  unfolding buffer_after needed
  errors_read_lem n h =
      let bytes = error_bytes (script_errors s) in
      let e : u.errors ≡ length bytes = ap (λ (v : Used). v.errors) answers in
      rw (w.errors_after, e, take-append_seam bytes (drop (length bytes) errors))
      (errors_back (script_errors s) n (errors_fit s says.0) (omega (arith, errors_few (script_errors s), length_errors (script_errors s))))

  -- The texts that the records tell fill the part used of the text buffer without gap or overlap.
  pub texts_fill : (n : ℕ) → u.count ≤ n → Fills 0 (places_from n tokens' 0) u.texts
  unfolding buffer_after needed
  texts_fill n h =
      let e : u.texts ≡ length (text_bytes (script_tokens s)) = ap (λ (v : Used). v.texts) answers in
      rw (w.tokens_after, e)
      (places_filled s (script_tokens s) _ n (tokens_fit s says.0) (tokens_ended s says.0) (texts_small s says.0) (count_said n h))

  -- Measuring the same script answers the same.
  pub measured : (r : Result Used Refusal) → of_answer r ≡ measure_answer s → r ≡ Ok u
  measured r e = same_answer r (Ok u) (e ∙ sym (measure_same s u (length tokens) (length texts) (length errors) w.answer))

  -- Demand 3: tokenising calls a script closed exactly when it joins with every second script that fits.
  pub closed_exactly : length s < LIMIT → ClosedExactly s u.closed
  closed_exactly room = needed_closed s u says.0 says.1 room
