-- The whole listing: what is read from the buffers that tokenising left is the listing of the rules, and it is not too long. Assumes
-- nothing.
use mathlib.Core.Path.{◌≡◌, refl, sym, ◌∙◌, ap}
use mathlib.Core.Bool.{true}
use mathlib.Core.List.{List, [], ◌∷◌, ◌++◌}
use Prim.Native.Nat.{ℕ, ◌+◌, ◌*◌, ◌≤◌, ◌<◌, zero-le}
use native.Mathlib.Nat.{zero-add}
use native.Mathlib.Omega.{arith}
use borrow.Author.Tests.{leb-true, le-leb, lt-leb}
use lib.Dec.{leb}
use lib.ListN.{length, take, drop, length-append}
use Rattle.characters.specs.Utf8.{first_bad}
use Rattle.characters.proofs.Choice.{if_all}
use Rattle.byte_order_mark.proofs.Marks.{mark_length_after}
use Rattle.rules.specs.Tokens.{Token, TokenizeError}
use Rattle.rules.specs.Script.{accepted, script_tokens, script_errors, script_closed}
use Rattle.rules.proofs.Fits.{text_lengths, token_count, error_count, text_count}
use Rattle.spellings.specs.Spelling.{ascii}
use Rattle.std.specs.Prelude.{Option, Some, None, Result, Ok, Err}
use Rattle.refusals.specs.declared.Refusal.{Refusal}
use Rattle.refusals.specs.Refusals.{refusal_number, refusal_figure}
use Rattle.refusals.specs.Answers.{Answer, got, refused, ◌then◌}
use Rattle.refusals.proofs.Answers.{got_is_not_refused}
use Rattle.records.specs.Layout.{error_bytes}
use Rattle.output.specs.Writing.{Put}
use Rattle.output.proofs.Buffers.{front_part}
use Rattle.room.specs.declared.Used.{Used}
use Rattle.room.specs.Needed.{needed}
use Rattle.lexer.specs.Tokenize.{measure_answer, tokenize_answer, buffer_after, Tokenized}
use Rattle.room.specs.Room.{most_tokens, most_texts, most_errors}
use Rattle.room.proofs.Totals.{few_tokens, few_texts, few_errors}
use Rattle.questions.proofs.Questions.{text_valid, bad_answer, yes_accepted, room_yes}
use Rattle.lexer.proofs.Back.{measure_says, measure_same, answers, tokens_read_lem, errors_read_lem}
use Rattle.listing_fields.specs.Room.{Room}
use Rattle.listing_lines.specs.Lines.{ending, token_line, token_lines, error_line, error_lines, closed_line, refused_line}
use Rattle.listing_lines.proofs.Lengths.{token_short, error_short, closed_short, refused_short}
use Rattle.listing_reading.specs.Reading.{tokens_read, errors_read, lines_read}
use Rattle.listing.specs.Listing.{answer_lines, listing, LISTED, LONGEST}
use Rattle.listing.specs.Buffers.{TOKENS, TEXTS, ERRORS}

-- ── How long it is at most ──

tokens_short : (ts : List Token) → length (token_lines ts) ≤ 151 * length ts + 2 * text_lengths ts
unfolding token_lines text_lengths
tokens_short [] = zero-le
tokens_short (t ∷ ts) = omega (arith, tokens_short ts, token_short t, length-append (token_line t) (token_lines ts))

errors_short : (es : List TokenizeError) → length (error_lines es) ≤ 170 * length es
unfolding error_lines
errors_short [] = zero-le
errors_short (e ∷ es) = omega (arith, errors_short es, error_short e, length-append (error_line e) (error_lines es))

module _ (s : List ℕ) (h : length s ≤ LISTED) where
  accepted_short : accepted s ≡ true
      → length (token_lines (script_tokens s) ++ error_lines (script_errors s) ++ closed_line (script_closed s)) ≤ LONGEST
  accepted_short ok =
      simp length-append
      (omega (arith, tokens_short (script_tokens s), errors_short (script_errors s), closed_short (script_closed s), token_count s ok, error_count s ok, text_count s ok, mark_length_after s))

  answer_short : (a : Answer Used) → a ≡ measure_answer s → length (answer_lines s a) ≤ LONGEST
  unfolding answer_lines
  answer_short (got u) e = accepted_short (measure_says s u e).0
  answer_short (refused n f) e = omega (arith, refused_short n f)

pub listing_short : (s : List ℕ) → length (listing s) ≤ LONGEST
unfolding listing
listing_short s =
    if_all (λ (l : List ℕ). length l ≤ LONGEST) (leb (length s) LISTED)
    (λ e. answer_short s (leb-true (length s) LISTED e) (measure_answer s) refl) (λ _. omega arith)

-- ── Which case it is ──

module _ (s : List ℕ) where
  long_listing : LISTED < length s → ascii "long" ++ ending ≡ listing s
  unfolding listing
  long_listing h = rw (lt-leb (length s) LISTED h)

  short_listing : length s ≤ LISTED → (a : Answer Used) → a ≡ measure_answer s → answer_lines s a ≡ listing s
  unfolding listing
  short_listing h a e = rw (le-leb (length s) LISTED h, e)

-- ── After tokenising ──

module _ (s tokens texts errors tokens' texts' errors' : List ℕ) (h : length s ≤ LISTED) where
  module _ (u : Used) (w : Tokenized s tokens texts errors (Ok u) tokens' texts' errors') where
    read_listing : lines_read s texts' tokens' errors' u ≡ listing s
    unfolding lines_read tokens_read errors_read answer_lines needed
    read_listing =
        let said = answers s tokens texts errors u tokens' texts' errors' w in
        let e : u.closed ≡ script_closed s = ap (λ (v : Used). v.closed) said in
        let t = tokens_read_lem s tokens texts errors u tokens' texts' errors' w u.count (omega arith) in
        let f = errors_read_lem s tokens texts errors u tokens' texts' errors' w u.errors (omega arith) in
        rw (t, f, e) (short_listing s h (got u) (measure_same s u (length tokens) (length texts) (length errors) w.answer))

    lines_room : Room 0 (lines_read s texts' tokens' errors' u)
    lines_room = rw read_listing (record { fits = omega (arith, listing_short s) })

    errors_inside : u.errors ≤ length errors'
    unfolding buffer_after needed
    errors_inside =
        let said = answers s tokens texts errors u tokens' texts' errors' w in
        let bytes = error_bytes (script_errors s) in
        let e : u.errors ≡ length bytes = ap (λ (v : Used). v.errors) said in
        omega (arith, ap length w.errors_after, length-append bytes (drop (length bytes) errors))

  -- No buffer is too small, so what is refused is refused by question 1 or 2.
  module _ (a : TOKENS ≤ length tokens) (b : TEXTS ≤ length texts) (c : ERRORS ≤ length errors) where
    asked : (x : Option ℕ) (n f : ℕ) → first_bad s ≡ x → refused n f ≡ tokenize_answer s (length tokens) (length texts) (length errors)
        → refused n f ≡ measure_answer s
    unfolding tokenize_answer measure_answer ◌then◌ most_tokens most_texts most_errors
    asked None n f e k =
        let y = text_valid s (omega arith) e in
        let ok = yes_accepted s (sym y) in
        let m = mark_length_after s in
        let z = room_yes (needed s) (length tokens) (length texts) (length errors)
        (omega (arith, few_tokens s ok)) (omega (arith, few_texts s ok)) (omega (arith, few_errors s ok)) in
        absurd (got_is_not_refused (needed s) n f (sym (rw (← y, ← z) at k)))
    asked (Some p) n f e k =
        let y = bad_answer s p (omega arith) e in
        rw (← y) (rw (← y) at k)

    refused_listing : (x : Refusal) → Tokenized s tokens texts errors (Err x) tokens' texts' errors' → refused_line (refusal_number x) (refusal_figure x) ≡ listing s
    unfolding answer_lines
    refused_listing x w =
        let n = refusal_number x in
        let f = refusal_figure x in
        short_listing s h (refused n f) (asked (first_bad s) n f refl w.answer)

-- ── The answers of `list` ──

abbrev pub Listed : List ℕ → List ℕ → List ℕ → ℕ → Type 0
Listed old new s r = (Put old new 0 (listing s) r) × (r ≤ LONGEST)

listed : (a c s bytes : List ℕ) (r : ℕ) → bytes ≡ listing s → Put a c 0 bytes r → Listed a c s r
listed a c s bytes r e p = (rw (← e) p, omega (arith, p.place, ap length e, listing_short s))

pub long_listed : (a c s : List ℕ) (r : ℕ) → LISTED < length s → Put a c 0 (ascii "long" ++ ending) r → Listed a c s r
long_listed a c s r h p = listed a c s (ascii "long" ++ ending) r (long_listing s h) p

module _ (s tokens texts errors : List ℕ) (x : Result Used Refusal) (tokens' texts' errors' : List ℕ)
    (w : Tokenized s tokens texts errors x tokens' texts' errors') (h : length s ≤ LISTED) where
  module _ (u : Used) (e : x ≡ Ok u) where
    done : Tokenized s tokens texts errors (Ok u) tokens' texts' errors'
    done = rw e at w

    pub read_room : (u.errors ≤ length errors') × Room 0 (lines_read s texts' tokens' errors' u)
    read_room =
        (errors_inside s tokens texts errors tokens' texts' errors' h u done, lines_room s tokens texts errors tokens' texts' errors' h u done)

    pub read_listed : (a c : List ℕ) (r : ℕ) → Put a c 0 (lines_read s texts' tokens' errors' u) r → Listed a c s r
    read_listed a c r p =
        listed a c s (lines_read s texts' tokens' errors' u) r (read_listing s tokens texts errors tokens' texts' errors' h u done) p

  pub refused_listed : (y : Refusal) (n f : ℕ) → x ≡ Err y → n ≡ refusal_number y → f ≡ refusal_figure y → TOKENS ≡ length tokens → TEXTS ≡ length texts → ERRORS ≡ length errors
      → (a c : List ℕ) (r : ℕ) → Put a c 0 (refused_line n f) r → Listed a c s r
  refused_listed y n f e i j k l m a c r p =
      let v : Tokenized s tokens texts errors (Err y) tokens' texts' errors' = rw e at w in
      listed a c s (refused_line n f) r
      (rw (i, j) (refused_listing s tokens texts errors tokens' texts' errors' h (omega arith) (omega arith) (omega arith) y v)) p

-- ── The bytes that a caller finds at the front ──

-- A buffer that holds every listing begins with this one.
pub front_is_listing : (old new s : List ℕ) (r : ℕ) → LONGEST ≤ length old → Listed old new s r → take r new ≡ listing s
front_is_listing old new s r h p =
    let l = listing s in
    let e : length l ≡ r = sym (p.0.place ∙ zero-add (length l)) in
    let g : r ≤ length old = omega (arith, p.1) in
    ap (take r) p.0.written ∙ front_part old l r e g
