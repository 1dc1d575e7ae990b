-- Demand 3 over three calls of tokenising, from their contracts alone. Assumes nothing.
use mathlib.Core.Path.{◌≡◌, refl, sym, ◌∙◌, ap}
use mathlib.Core.Bool.{true, false≢true}
use mathlib.Core.List.{List, [], ◌∷◌, ◌++◌, map, drop_last, append-nil}
use Prim.Native.Nat.{ℕ, ◌+◌, ◌≤◌, ◌<◌}
use native.Mathlib.Omega.{arith}
use borrow.Author.Tests.{leb-true}
use lib.Dec.{leb}
use lib.ListN.{length, length-append, length-map}
use Rattle.std.specs.Prelude.{Option, Some, None}
use Rattle.characters.specs.Choice.{within}
use Rattle.characters.specs.Utf8.{first_bad, is_valid, is_utf8}
use Rattle.characters.proofs.Choice.{and_both}
use Rattle.byte_order_mark.specs.Mark.{after_mark}
use Rattle.spans.specs.Span.{single}
use Rattle.rules.specs.Text.{LF}
use Rattle.rules.specs.Tokens.{Token, TokenizeError}
use Rattle.rules.specs.Lexer.{lexed, eof}
use Rattle.rules.specs.Script.{LIMIT, accepted, script_text, as_bytes, script_tokens, script_errors, script_closed}
use Rattle.rules.specs.Shift.{shift_token, shift_error, last_line, joined, Joins, SecondFits}
use Rattle.rules.proofs.Join.{drop_eof}
use Rattle.rules.proofs.Fits.{script_body, body_and_eof}
use Rattle.rules.proofs.Demand as demand
use Rattle.records.specs.Fields.{HEAD}
use Rattle.refusals.specs.Answers.{got, ◌then◌}
use Rattle.records.specs.Kinds.{has_text, is_made, record_length}
use Rattle.records.specs.Layout.{made_text, text_bytes, token_bytes, error_bytes}
use Rattle.records.proofs.Filling.{texts_append, tokens_size, errors_size, length_tokens, length_errors}
use Rattle.room.specs.declared.Used.{Used}
use Rattle.room.specs.Needed.{needed}
use Rattle.questions.specs.Questions.{ask_text, ask_room}
use Rattle.questions.proofs.Questions.{text_valid, room_yes}
use Rattle.lexer.specs.Tokenize.{tokenize_answer, buffer_after}
use Rattle.lexer.specs.Joining.{Call, Answered, tokens_met, errors_met, last_start_line, Following, CallsJoin, CallsExactly}
use Rattle.lexer.proofs.Back as back

-- ── Lists ──

-- The last token of a list.
last_line_lem : (ts : List Token) (t : Token) → last_start_line (ts ++ (t ∷ [])) ≡ t.span.start_line
unfolding last_start_line
last_line_lem [] t = refl
last_line_lem (x ∷ []) t = refl
last_line_lem (x ∷ y ∷ ts) t = last_line_lem (y ∷ ts) t

tokens_size_append : (xs ys : List Token) → tokens_size (xs ++ ys) ≡ tokens_size xs + tokens_size ys
unfolding tokens_size
tokens_size_append [] ys = omega arith
tokens_size_append (x ∷ xs) ys = omega (arith, tokens_size_append xs ys)

errors_size_append : (xs ys : List TokenizeError) → errors_size (xs ++ ys) ≡ errors_size xs + errors_size ys
unfolding errors_size
errors_size_append [] ys = omega arith
errors_size_append (x ∷ xs) ys = omega (arith, errors_size_append xs ys)

-- A shift changes no record's size and no text.
module _ (n l : ℕ) where
  tokens_size_shift : (ts : List Token) → tokens_size (map (shift_token n l) ts) ≡ tokens_size ts
  unfolding tokens_size
  tokens_size_shift [] = refl
  tokens_size_shift (t ∷ ts) = omega (arith, tokens_size_shift ts)

  errors_size_shift : (es : List TokenizeError) → errors_size (map (shift_error n l) es) ≡ errors_size es
  unfolding errors_size
  errors_size_shift [] = refl
  errors_size_shift (e ∷ es) = omega (arith, errors_size_shift es)

  texts_shift : (ts : List Token) → text_bytes (map (shift_token n l) ts) ≡ text_bytes ts
  unfolding text_bytes made_text
  texts_shift [] = refl
  texts_shift (t ∷ ts) = rw (texts_shift ts)

-- ── The tokens of a script but EOF ──

module _ (s : List ℕ) where
  abbrev last : Token
  last = as_bytes (eof (lexed (script_text s)).stop)

  body_is : drop_last (script_tokens s) ≡ script_body s
  body_is = rw (body_and_eof s) (drop_eof (script_body s) last)

  eof_line : last_start_line (script_tokens s) ≡ last_line s
  unfolding single
  eof_line = rw (body_and_eof s) (last_line_lem (script_body s) last)

  body_count : length (drop_last (script_tokens s)) + 1 ≡ length (script_tokens s)
  body_count = omega (arith, ap length body_is, ap length (body_and_eof s), length-append (script_body s) (last ∷ []))

  body_size : tokens_size (drop_last (script_tokens s)) + HEAD ≡ tokens_size (script_tokens s)
  unfolding tokens_size record_length has_text
  body_size = omega (arith, ap tokens_size body_is, ap tokens_size (body_and_eof s), tokens_size_append (script_body s) (last ∷ []))

  body_texts : text_bytes (drop_last (script_tokens s)) ≡ text_bytes (script_tokens s)
  unfolding text_bytes made_text is_made within
  body_texts =
      ap text_bytes body_is
      ∙ sym (ap text_bytes (body_and_eof s) ∙ (texts_append (script_body s) (last ∷ []) ∙ append-nil (text_bytes (script_body s))))

-- ── What a call gave ──

-- What it used, by the rules' lists.
record Takes (k : Call) : Type 0 where
  count : k.used.count ≡ length (script_tokens k.script)
  tokens : k.used.tokens ≡ tokens_size (script_tokens k.script)
  texts : k.used.texts ≡ length (text_bytes (script_tokens k.script))
  errors : k.used.errors ≡ errors_size (script_errors k.script)
  closed : k.used.closed ≡ script_closed k.script

module _ (k : Call) (h : Answered k) where
  took : k.used ≡ needed k.script
  took =
      back.answers k.script k.tokens_before k.texts_before k.errors_before k.used k.tokens_after
      k.texts_after
      k.errors_after
      h

  takes : Takes k
  unfolding needed token_bytes
  takes =
      record {
        count = ap (λ (u : Used). u.count) took;
        tokens = ap (λ (u : Used). u.tokens) took ∙ length_tokens 0 (script_tokens k.script);
        texts = ap (λ (u : Used). u.texts) took;
        errors = ap (λ (u : Used). u.errors) took ∙ length_errors (script_errors k.script);
        closed = ap (λ (u : Used). u.closed) took;
      }

  says : accepted k.script ≡ true
  says =
      (back.tokenize_says k.script k.used (length k.tokens_before) (length k.texts_before) (length k.errors_before)
      h.answer).0

  tokens_met_lem : tokens_met k ≡ script_tokens k.script
  tokens_met_lem =
      back.tokens_read_lem k.script k.tokens_before k.texts_before k.errors_before k.used k.tokens_after
      k.texts_after
      k.errors_after
      h
      k.used.count
      (omega arith)

  errors_met_lem : errors_met k ≡ script_errors k.script
  errors_met_lem =
      back.errors_read_lem k.script k.tokens_before k.texts_before k.errors_before k.used k.tokens_after
      k.texts_after
      k.errors_after
      h
      k.used.errors
      (omega arith)

-- ── Three calls ──

module _ (first second whole : Call) (f : Following first second whole) (closed : first.used.closed ≡ true) where
  abbrev a : List ℕ
  a = first.script

  abbrev b : List ℕ
  b = second.script

  abbrev n : ℕ
  n = length (after_mark a)

  abbrev l : ℕ
  l = last_line a

  a_accepted : accepted a ≡ true
  a_accepted = says first f.first_answered

  b_accepted : accepted b ≡ true
  b_accepted = says second f.second_answered

  all_short : length (joined a b) ≤ LIMIT
  unfolding accepted
  all_short =
      let w = rw f.script_joined at (says whole f.whole_answered) in
      leb-true (length (joined a b)) LIMIT (and_both (leb (length (joined a b)) LIMIT) (is_utf8 (joined a b)) w).0

  fits : SecondFits a b
  fits =
      record {
        second_accepted = b_accepted;
        second_unmarked = f.second_unmarked;
        within_limit = omega (arith, all_short, length-append a (LF ∷ b));
      }

  A : Takes first
  A = takes first f.first_answered

  B : Takes second
  B = takes second f.second_answered

  W : Takes whole
  W = takes whole f.whole_answered

  closed_said : script_closed a ≡ true
  closed_said = sym A.closed ∙ closed

  joins : Joins a b
  joins = (demand.closed_exactly a a_accepted (omega (arith, fits.within_limit))).0 closed_said b fits

  whole_tokens : script_tokens whole.script ≡ drop_last (script_tokens a) ++ map (shift_token n l) (script_tokens b)
  whole_tokens = ap script_tokens f.script_joined ∙ joins.tokens_join

  whole_errors : script_errors whole.script ≡ script_errors a ++ map (shift_error n l) (script_errors b)
  whole_errors = ap script_errors f.script_joined ∙ joins.errors_join

  -- Demand 3 of what the calls gave.
  pub calls_join : CallsJoin first second whole
  calls_join =
      record {
        tokens_join =
            rw (
              tokens_met_lem whole f.whole_answered,
              tokens_met_lem first f.first_answered,
              tokens_met_lem second f.second_answered,
              eof_line a,
            )
            whole_tokens;
        errors_join =
            rw (
              errors_met_lem whole f.whole_answered,
              errors_met_lem first f.first_answered,
              errors_met_lem second f.second_answered,
              tokens_met_lem first f.first_answered,
              eof_line a,
            )
            whole_errors;
        closed_join =
            W.closed
            ∙ (ap script_closed f.script_joined
            ∙ (demand.joined_closed a b (demand.accepted_utf8 a a_accepted) f.second_unmarked closed_said ∙ sym B.closed));
        count_join =
            omega (
              arith,
              A.count,
              B.count,
              W.count,
              ap length whole_tokens,
              length-append (drop_last (script_tokens a)) (map (shift_token n l) (script_tokens b)),
              length-map (script_tokens b) (shift_token n l),
              body_count a,
            );
        tokens_size_lem =
            omega (
              arith,
              A.tokens,
              B.tokens,
              W.tokens,
              ap tokens_size whole_tokens,
              tokens_size_append (drop_last (script_tokens a)) (map (shift_token n l) (script_tokens b)),
              tokens_size_shift n l (script_tokens b),
              body_size a,
            );
        texts_size_lem =
            omega (
              arith,
              A.texts,
              B.texts,
              W.texts,
              ap (λ (ts : List Token). length (text_bytes ts)) whole_tokens,
              ap length (texts_append (drop_last (script_tokens a)) (map (shift_token n l) (script_tokens b))),
              length-append (text_bytes (drop_last (script_tokens a))) (text_bytes (map (shift_token n l) (script_tokens b))),
              ap length (body_texts a),
              ap length (texts_shift n l (script_tokens b)),
            );
        errors_size_lem =
            omega (
              arith,
              A.errors,
              B.errors,
              W.errors,
              ap errors_size whole_errors,
              errors_size_append (script_errors a) (map (shift_error n l) (script_errors b)),
              errors_size_shift n l (script_errors b),
            );
      }

-- ── An accepted script has a call that is answered with yes ──

accepted_yes : (s : List ℕ) → accepted s ≡ true → ask_text s ≡ got tt
unfolding accepted is_utf8 is_valid
accepted_yes s h = go (first_bad s) refl p.1
  where
    p : (leb (length s) LIMIT ≡ true) × (is_utf8 s ≡ true)
    p = and_both (leb (length s) LIMIT) (is_utf8 s) h

    go : (x : Option ℕ) → first_bad s ≡ x → is_valid x ≡ true → ask_text s ≡ got tt
    go None e q = sym (text_valid s (leb-true (length s) LIMIT p.0) e)
    go (Some at) e q = absurd (false≢true q)

-- A call with buffers that have just the bytes that it takes.
abbrev call_of : List ℕ → Call
call_of s =
    record {
      script = s;
      used = needed s;
      tokens_before = token_bytes (script_tokens s);
      texts_before = text_bytes (script_tokens s);
      errors_before = error_bytes (script_errors s);
      tokens_after = buffer_after (got (needed s)) (token_bytes (script_tokens s)) (token_bytes (script_tokens s));
      texts_after = buffer_after (got (needed s)) (text_bytes (script_tokens s)) (text_bytes (script_tokens s));
      errors_after = buffer_after (got (needed s)) (error_bytes (script_errors s)) (error_bytes (script_errors s));
    }

room_there : (s : List ℕ)
    → ask_room (needed s) (length (token_bytes (script_tokens s))) (length (text_bytes (script_tokens s))) (length (error_bytes (script_errors s)))
    ≡ got tt
unfolding needed
room_there s = sym (room_yes (needed s) _ _ _ (omega arith) (omega arith) (omega arith))

call_answered : (s : List ℕ) → accepted s ≡ true → Answered (call_of s)
unfolding tokenize_answer ◌then◌
call_answered s h =
    record {
      answer = rw (accepted_yes s h, room_there s);
      tokens_after = refl;
      texts_after = refl;
      errors_after = refl;
    }

-- ── Demand 3, both ways ──

module _ (first : Call) (h : Answered first) (short : length first.script < LIMIT) where
  abbrev script : List ℕ
  script = first.script

  following : (b : List ℕ) → SecondFits script b → Following first (call_of b) (call_of (joined script b))
  following b f =
      record {
        first_answered = h;
        second_answered = call_answered b f.second_accepted;
        whole_answered = call_answered (joined script b) (demand.whole_accepted script b (says first h) f);
        second_unmarked = f.second_unmarked;
        script_joined = refl;
      }

  scripts_join : (b : List ℕ) → SecondFits script b → CallsJoin first (call_of b) (call_of (joined script b)) → Joins script b
  scripts_join b f j =
      let g = following b f in
      record {
        tokens_join =
            sym (tokens_met_lem (call_of (joined script b)) g.whole_answered)
            ∙ (j.tokens_join ∙ rw (tokens_met_lem first h, tokens_met_lem (call_of b) g.second_answered, eof_line script));
        errors_join =
            sym (errors_met_lem (call_of (joined script b)) g.whole_answered)
            ∙ (j.errors_join ∙ rw (errors_met_lem first h, tokens_met_lem first h, errors_met_lem (call_of b) g.second_answered, eof_line script));
      }

  pub calls_exactly : CallsExactly first
  calls_exactly = (
    λ c second whole f. calls_join first second whole f c,
    λ j. (takes first h).closed
        ∙ (demand.closed_exactly script (says first h) short).1
        (λ b f. scripts_join b f (j (call_of b) (call_of (joined script b)) (following b f))),
  )
