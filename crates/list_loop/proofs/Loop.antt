-- Laws of the list loop: what is still to be written, one turn, and the end. Assumes nothing.
use mathlib.Core.Path.{◌≡◌, refl, sym, ◌∙◌, ap, subst}
use mathlib.Core.Bool.{Bool, true, false, ◌&&◌, ◌||◌, not}
use mathlib.Core.List.{List, ◌∷◌, ◌++◌, map}
use Prim.Native.Nat.{ℕ, ◌+◌, ◌≤◌, ◌<◌, zero-le}
use native.Mathlib.Nat.{zero-add}
use native.Mathlib.Omega.{arith}
use lib.Dec.{leb}
use lib.ListN.{length, length-map}
use lib.Seq.{sets}
use Rattle.characters.specs.Utf8.{chars_at, chars_of, is_valid, is_utf8}
use Rattle.characters.specs.Valid.{bad_from}
use Rattle.byte_order_mark.specs.Mark.{after_mark}
use Rattle.characters.proofs.Choice.{and_both}
use Rattle.characters.proofs.Characters.{bad_start}
use Rattle.byte_order_mark.proofs.Marks.{utf8_after_mark}
use Rattle.rules.specs.Lexer.{tokens, errors, closed}
use Rattle.rules.specs.Script.{LIMIT, accepted, script_text, as_bytes, script_tokens, script_errors, script_closed}
use Rattle.cursor.specs.Cursor.{left}
use Rattle.records.specs.Records.{token_record}
use Rattle.records.specs.Layout.{made_text, record_of, token_bytes_from, token_bytes, text_bytes, error_bytes}
use Rattle.records.proofs.Filling.{texts_cons, tokens_cons, errors_append, Ahead, ahead_start, ahead_step, ahead_end}
use Rattle.output.specs.Writing.{Put}
use Rattle.steps.specs.declared.Cursor.{Cursor}
use Rattle.steps.specs.declared.Token.{Token}
use Rattle.steps.specs.Step.{Rest, rest_of, rest_within, rest, begin, Good, Gives, Ends, Stepped}
use Rattle.steps.specs.Step as contract
use Rattle.steps.specs.declared.Step.{Step}
use Rattle.steps.specs.declared.Step.TheVariants as step
use Rattle.room.specs.declared.Used.{Used}
use Rattle.room.specs.Needed.{needed}
use Rattle.room.specs.Room.{most_tokens, most_texts, most_errors}
use Rattle.room.proofs.Totals.{text_low, few_tokens, few_texts, few_errors, few_counted}
use Rattle.list_loop.specs.Run.{Ran, nothing_used}

-- ── The loop between two turns ──

-- The cursor stands at `c` in the text `s` of the script, `u` is used so far, and the buffers were `tokens₀`, `texts₀` and
-- `errors₀`. What is still to be written completes what the script takes.
pub record Going (script s tokens₀ texts₀ errors₀ tokens texts errors : List ℕ) (c : Cursor) (u : Used) : Type 0 where
  pub ok : accepted script ≡ true
  pub good : Good s c
  pub tokens_ahead :
      Ahead tokens₀ tokens u.tokens (token_bytes_from u.texts (map as_bytes (rest s c).tokens)) (token_bytes (script_tokens script))
  pub texts_ahead : Ahead texts₀ texts u.texts (text_bytes (map as_bytes (rest s c).tokens)) (text_bytes (script_tokens script))
  pub errors_ahead : Ahead errors₀ errors u.errors (error_bytes (rest s c).errors) (error_bytes (script_errors script))
  pub counted : u.count + length (rest s c).tokens ≡ length (script_tokens script)
  pub closed_ahead : (u.closed && not (rest s c).ran_out) ≡ script_closed script

-- ── The beginning ──

module _ (script : List ℕ) where
  begin_tokens : map as_bytes (rest (after_mark script) begin).tokens ≡ script_tokens script
  unfolding rest rest_within rest_of left chars_at chars_of script_text script_tokens tokens
  begin_tokens = refl

  begin_errors : (rest (after_mark script) begin).errors ≡ script_errors script
  unfolding rest rest_within rest_of left chars_at chars_of script_text script_errors errors
  begin_errors = refl

  begin_closed : not (rest (after_mark script) begin).ran_out ≡ script_closed script
  unfolding rest rest_within rest_of left chars_at chars_of script_text script_closed closed
  begin_closed = refl

  begin_valid : accepted script ≡ true → is_valid (bad_from (after_mark script) 0) ≡ true
  unfolding accepted is_utf8
  begin_valid ok = ap is_valid (sym (bad_start (after_mark script))) ∙ (utf8_after_mark script ∙ (and_both (leb (length script) LIMIT) (is_utf8 script) ok).1)

  pub begin_good : accepted script ≡ true → Good (after_mark script) begin
  begin_good ok =
      let h = text_low script ok in
      record { at = record { size = h; inside = zero-le; valid = begin_valid ok; lines = omega arith; columns = omega arith } }

pub going_start : (script s tokens texts errors : List ℕ) → s ≡ after_mark script → accepted script ≡ true
    → Going script s tokens texts errors tokens texts errors begin nothing_used
unfolding token_bytes
going_start script s tokens texts errors e ok =
    subst (λ (t : List ℕ). Going script t tokens texts errors tokens texts errors begin nothing_used) (sym e)
    (record {
      ok = ok;
      good = begin_good script ok;
      tokens_ahead = rw (begin_tokens script) (ahead_start tokens (token_bytes (script_tokens script)));
      texts_ahead = rw (begin_tokens script) (ahead_start texts (text_bytes (script_tokens script)));
      errors_ahead = rw (begin_errors script) (ahead_start errors (error_bytes (script_errors script)));
      counted = zero-add _ ∙ (sym (length-map (rest (after_mark script) begin).tokens as_bytes) ∙ ap length (begin_tokens script));
      closed_ahead = begin_closed script;
    })

-- ── A turn, and the end ──

-- What a step says, where it is known which one it was.
module _ (s : List ℕ) (c : Cursor) (texts : List ℕ) (a : ℕ) (errors : List ℕ) (b : ℕ) (r : Step) (texts' errors' : List ℕ)
    (y : Stepped s c texts a errors b r texts' errors') where
  pub gave : (t : Token) (c' : Cursor) → r ≡ step.Token t c' → Gives s c texts a errors b t c' texts' errors'
  gave t c' e = subst (λ (x : Step). Stepped s c texts a errors b x texts' errors') e y

  pub ended : r ≡ step.End → Ends s c texts errors texts' errors'
  ended e = subst (λ (x : Step). Stepped s c texts a errors b x texts' errors') e y

and_true : (b : Bool) → (b && true) ≡ b
and_true true = refl
and_true false = refl

fields : (a b c d a' b' c' d' : ℕ) (o o' : Bool) → a ≡ a' → b ≡ b' → c ≡ c' → d ≡ d' → o ≡ o'
    → ◌≡◌ {A = Used} (record { tokens = a; texts = b; errors = c; count = d; closed = o })
    (record { tokens = a'; texts = b'; errors = c'; count = d'; closed = o' })
fields a b c d a' b' c' d' o o' p q r x y = rw (p, q, r, x, y)

both : (a o r : Bool) → ((a && not o) && not r) ≡ (a && not (o || r))
both true true r = refl
both true false r = refl
both false o r = refl

module _ (script s tokens₀ texts₀ errors₀ tokens texts errors : List ℕ) (c : Cursor) (u : Used)
    (g : Going script s tokens₀ texts₀ errors₀ tokens texts errors c u) where
  -- The sums fit.
  pub going_used : contract.Used u.texts u.errors
  unfolding needed most_texts most_errors
  going_used =
      let h = text_low script g.ok in
      record {
        texts = omega (arith, g.texts_ahead.count, few_texts script g.ok);
        errors = omega (arith, g.errors_ahead.count, few_errors script g.ok);
      }

  pub going_tokens : u.tokens ≤ 1152921504606846976
  unfolding needed most_tokens
  going_tokens = omega (arith, text_low script g.ok, g.tokens_ahead.count, few_tokens script g.ok)

  pub going_count : u.count ≤ 1048577
  unfolding needed
  going_count = omega (arith, text_low script g.ok, g.counted, few_counted script g.ok)

  module _ (t : Token) (c' : Cursor) (tokens' texts' errors' : List ℕ) (used : ℕ)
      (y : Gives s c texts u.texts errors u.errors t c' texts' errors')
      (p : Put tokens tokens' u.tokens (token_record t.fields.kind t.fields.span t.fields.offset t.fields.length) used) where
    next_tokens : (rest s c).tokens ≡ y.token ∷ (rest s c').tokens
    next_tokens = ap (λ (r : Rest). r.tokens) y.same

    next_bytes : token_bytes_from u.texts (map as_bytes (rest s c).tokens)
        ≡ record_of u.texts (as_bytes y.token) ++ token_bytes_from t.fill.texts (map as_bytes (rest s c').tokens)
    next_bytes =
        rw (next_tokens, y.text_used) (tokens_cons u.texts (as_bytes y.token) (map as_bytes (rest s c').tokens))

    next_texts : text_bytes (map as_bytes (rest s c).tokens)
        ≡ made_text (as_bytes y.token) ++ text_bytes (map as_bytes (rest s c').tokens)
    next_texts = rw next_tokens (texts_cons (as_bytes y.token) (map as_bytes (rest s c').tokens))

    next_errors : error_bytes (rest s c).errors ≡ error_bytes y.errors ++ error_bytes (rest s c').errors
    next_errors = ap (λ (r : Rest). error_bytes r.errors) y.same ∙ errors_append y.errors (rest s c').errors

    pub going_less : length (rest s c').tokens < length (rest s c).tokens
    going_less = omega (arith, ap length next_tokens)

    pub going_turn : Going script s tokens₀ texts₀ errors₀ tokens' texts' errors' c'
        (record { tokens = used; texts = t.fill.texts; errors = t.fill.errors; count = u.count + 1; closed = u.closed && not t.ran_out })
    going_turn =
        record {
          ok = g.ok;
          good = y.good;
          tokens_ahead =
              ahead_step tokens₀ tokens u.tokens _ _ (record_of u.texts (as_bytes y.token)) (token_bytes_from t.fill.texts (map as_bytes (rest s c').tokens)) next_bytes g.tokens_ahead tokens'
              used
              (p.written ∙ ap (sets tokens u.tokens) y.entry)
              (p.place ∙ ap (λ (l : List ℕ). u.tokens + length l) y.entry);
          texts_ahead =
              ahead_step texts₀ texts u.texts _ _ (made_text (as_bytes y.token)) (text_bytes (map as_bytes (rest s c').tokens)) next_texts g.texts_ahead texts'
              t.fill.texts
              y.text_written
              y.text_used;
          errors_ahead =
              ahead_step errors₀ errors u.errors _ _ (error_bytes y.errors) (error_bytes (rest s c').errors) next_errors g.errors_ahead errors'
              t.fill.errors
              y.errors_written
              y.errors_used;
          counted = omega (arith, g.counted, ap length next_tokens);
          closed_ahead =
              both u.closed t.ran_out (rest s c').ran_out
              ∙ (ap (λ (r : Rest). u.closed && not r.ran_out) (sym y.same) ∙ g.closed_ahead);
        }

  -- Nothing is left.
  pub going_end : (texts' errors' : List ℕ) → Ends s c texts errors texts' errors' → Ran script tokens₀ texts₀ errors₀ u tokens texts' errors'
  unfolding needed token_bytes_from text_bytes error_bytes
  going_end texts' errors' y =
      let e = y.same in
      let a = ahead_end _ _ _ _ _ (ap (λ (r : Rest). token_bytes_from u.texts (map as_bytes r.tokens)) e) g.tokens_ahead in
      let b = ahead_end _ _ _ _ _ (ap (λ (r : Rest). text_bytes (map as_bytes r.tokens)) e) g.texts_ahead in
      let d = ahead_end _ _ _ _ _ (ap (λ (r : Rest). error_bytes r.errors) e) g.errors_ahead in
      let n : u.count ≡ length (script_tokens script) = omega (arith, g.counted, ap (λ (r : Rest). length r.tokens) e) in
      record {
        used =
            fields _ _ _ _ _ _ _ _ _ _ a.1 b.1 d.1 n
            (sym (and_true u.closed) ∙ (ap (λ (r : Rest). u.closed && not r.ran_out) (sym e) ∙ g.closed_ahead));
        tokens_written = a.0;
        texts_written = y.texts_kept ∙ b.0;
        errors_written = y.errors_kept ∙ d.0;
      }
