-- Reading what was written gives it back: one record, and all records of a buffer. Assumes nothing.
use Rattle.std.specs.Prelude.{if◌then◌else◌}
use mathlib.Core.Path.{◌≡◌, refl, sym, ◌∙◌, ap}
use mathlib.Core.Bool.{Bool, true, false}
use mathlib.Core.List.{List, [], ◌∷◌, ◌++◌, append_assoc, append-nil}
use Prim.Native.Nat.{ℕ, zero, suc, ◌+◌, ◌-◌, ◌≤◌}
use lib.ListN.{length, take, drop, length-append}
use lib.Seq.{sets, take-append_seam, drop-append_seam}
use borrow.Author.Tests.{le-leb, eq-eqb, ne_eqb}
use native.Mathlib.Nat.{not-suc-le-zero, le_of_suc-le-suc, le_refl, zero-add, add-zero, suc-add}
use native.Mathlib.Omega.{arith}
use Rattle.characters.specs.Choice.{◌is◌}
use Rattle.rules.specs.Tokens.{Token, TokenizeError}
use Rattle.rules.specs.Tables.{EOF}
use Rattle.rules.specs.Bounds.{Every, Small}
use Rattle.records.specs.Kinds.{has_text, is_made, record_length, has_code, error_length}
use Rattle.refusals.specs.Answers.{Answer, got, refused}
use Rattle.records.specs.Answers.{Turn}
use Rattle.record_reading.specs.Reading.{kind_at, is_whole, record_at, after_at, next_at, error_at, next_error_at}
use Rattle.record_texts.specs.Texts.{home_of, is_inside, part_of, text_check_at, text_at}
use Rattle.records.specs.Layout.{made_text, text_bytes, text_offset, record_of, token_bytes_from, token_bytes, code_of, error_record_of, error_bytes}
use Rattle.record_lists.specs.Lists.{word_of, token_turn, tokens_from, error_of, error_turn, errors_from, IsPart, TokenFits, Ended, ErrorFits}
use Rattle.records.specs.declared.answers.TokenRecord.{TokenRecord}
use Rattle.records.specs.declared.answers.ErrorRecord.{ErrorRecord}
use Rattle.records.proofs.ErrorLaws.{of_number, of_code, of_none}
use Rattle.records.proofs.Sets.{sets_front}
use Rattle.records.proofs.Bytes.{length_token, length_error}
use Rattle.record_reading.proofs.Places.{error_past}
use Rattle.record_lists.proofs.Front as front
use Rattle.record_lists.proofs.Shift as shift
use Rattle.record_texts.proofs.TextLaws.{home_made, home_script, text_part, check_inside, check_fixed}

-- ── One token's record ──

-- What is read of the record of a token.
unfoldable pub read_of : ℕ → Token → TokenRecord
read_of used t =
    record {
      kind = t.kind;
      span = t.span;
      offset = if has_text t.kind then text_offset used t else 0;
      length = if has_text t.kind then length t.text else 0;
    }

-- The place after it.
unfoldable pub place_after : ℕ → Token → ℕ
place_after at t = if t.kind is EOF then at else at + record_length t.kind

module _ (script pre rest : List ℕ) (used : ℕ) (t : Token) (fits : TokenFits script t) (small : Small (text_offset used t)) where
  whole_back : is_whole (pre ++ (record_of used t ++ rest)) (length pre) ≡ true
  unfolding record_of
  whole_back = shift.whole_shift pre _ ∙ front.token_whole t.kind t.span _ _ rest fits.kind

  kind_back : kind_at (pre ++ (record_of used t ++ rest)) (length pre) ≡ t.kind
  unfolding record_of
  kind_back = shift.kind_shift pre _ ∙ front.token_kind t.kind t.span _ _ rest

  read_by : (b : Bool) → has_text t.kind ≡ b → record_at (record_of used t ++ rest) 0 ≡ read_of used t
  unfolding record_of read_of
  read_by true e = rw e (front.token_text_lem t.kind t.span _ _ rest e fits.span small fits.size)
  read_by false e = rw e (front.token_fixed t.kind t.span _ _ rest e fits.span)

  pub record_back : record_at (pre ++ (record_of used t ++ rest)) (length pre) ≡ read_of used t
  record_back = shift.record_shift pre (record_of used t ++ rest) ∙ read_by (has_text t.kind) refl

  -- Next reads the record that was written.
  pub next_back : next_at (pre ++ (record_of used t ++ rest)) (length pre) ≡ record { answer = got (read_of used t); place = place_after (length pre) t }
  unfolding next_at after_at place_after
  next_back = rw (whole_back, record_back, kind_back)

-- ── Its text ──

part_of_lem : (home : List ℕ) (o : ℕ) (text : List ℕ) → IsPart home o text → (is_inside home o (length text) ≡ true) × (text ≡ part_of home o (length text))
unfolding part_of is_inside
part_of_lem home o text p =
    let e = le-leb (o + length text) (length home) p.inside in
    (e, rw e (sym p.same))

-- A text that was put after the texts before it.
pub part_made : (done text more : List ℕ) → IsPart (done ++ (text ++ more)) (length done) text
part_made done text more =
    record {
      inside = omega (arith, length-append done (text ++ more), length-append text more);
      same = rw (drop-append_seam done (text ++ more), take-append_seam text more);
    }

module _ (script texts s : List ℕ) (at used : ℕ) (t : Token) (fits : TokenFits script t) (w : is_whole s at ≡ true) (r : record_at s at ≡ read_of used t)
    (part : has_text t.kind ≡ true → IsPart (home_of script texts t.kind) (text_offset used t) t.text) where
  word_by_lem : (b : Bool) → has_text t.kind ≡ b → (text_check_at script texts s at ≡ got tt) × (word_of t.kind (text_at script texts s at) ≡ t.text)
  unfolding read_of word_of
  word_by_lem true e =
      let p = part_of_lem (home_of script texts t.kind) (text_offset used t) t.text (part e) in
      let q : record_at s at ≡ record { kind = t.kind; span = t.span; offset = text_offset used t; length = length t.text } = r ∙ rw e in
      (sym (check_inside script texts s at _ w (sym q) _ e refl p.0), rw e (sym (text_part script texts s at _ w (sym q) _ _ e refl p.1)))
  word_by_lem false e = (sym (check_fixed script texts s at _ w (sym r) e), rw e (sym (fits.fixed e)))

  -- The check says yes, and the text call gives the token's text.
  pub word_back : (text_check_at script texts s at ≡ got tt) × (word_of t.kind (text_at script texts s at) ≡ t.text)
  word_back = word_by_lem (has_text t.kind) refl

-- ── All tokens ──

-- What a turn gives where next, the check and the text call give the token.
turn_gives : (rest : ℕ → List Token) (text : List ℕ) (check : Answer (Unit {0})) (next : Turn TokenRecord) (used at : ℕ) (t : Token)
    → next ≡ record { answer = got (read_of used t); place = place_after at t } → check ≡ got tt → word_of t.kind text ≡ t.text
    → token_turn rest text check next.answer next.place ≡ t ∷ (if t.kind is EOF then [] else rest (place_after at t))
unfolding token_turn read_of
turn_gives rest text check next used at t n c w = rw (n, c, w)

-- The buffers, from a token on: what is written before it, its records, and what follows.
pub record Buffers (script texts s : List ℕ) (at used : ℕ) (ts : List Token) : Type 0 where
  pub before : List ℕ
  pub after : List ℕ
  pub done : List ℕ
  pub more : List ℕ
  pub records : s ≡ before ++ (token_bytes_from used ts ++ after)
  pub place : at ≡ length before
  pub texts_are : texts ≡ done ++ (text_bytes ts ++ more)
  pub offset : used ≡ length done
  pub small : Small (used + length (text_bytes ts))

module _ (script texts s : List ℕ) (at used : ℕ) (t : Token) (ts : List Token) (b : Buffers script texts s at used (t ∷ ts)) (fits : TokenFits script t) where
  split : s ≡ b.before ++ (record_of used t ++ (token_bytes_from (used + length (made_text t)) ts ++ b.after))
  unfolding token_bytes_from
  split = b.records ∙ rw (append_assoc (record_of used t) (token_bytes_from (used + length (made_text t)) ts) b.after)

  text_split : texts ≡ b.done ++ (made_text t ++ (text_bytes ts ++ b.more))
  unfolding text_bytes
  text_split = b.texts_are ∙ rw (append_assoc (made_text t) (text_bytes ts) b.more)

  made_small : length (text_bytes (t ∷ ts)) ≡ length (made_text t) + length (text_bytes ts)
  unfolding text_bytes
  made_small = length-append (made_text t) (text_bytes ts)

  offset_by : (m : Bool) → is_made t.kind ≡ m → Small (text_offset used t)
  unfolding text_offset
  offset_by true e = rw e (omega (arith, b.small))
  offset_by false e = rw e fits.span.start

  part_by : (m : Bool) → is_made t.kind ≡ m → has_text t.kind ≡ true → IsPart (home_of script texts t.kind) (text_offset used t) t.text
  unfolding text_offset made_text
  part_by true e h =
      rw (e, home_made script texts t.kind e, text_split, e, b.offset) (part_made b.done t.text (text_bytes ts ++ b.more))
  part_by false e h = rw (e, home_script script texts t.kind e) (fits.part h e)

  next_is : next_at s at ≡ record { answer = got (read_of used t); place = place_after at t }
  next_is = rw (split, b.place) (next_back script b.before _ used t fits (offset_by (is_made t.kind) refl))

  word_is : (text_check_at script texts s at ≡ got tt) × (word_of t.kind (text_at script texts s at) ≡ t.text)
  word_is =
      word_back script texts s at used t fits
      (rw (split, b.place) (whole_back script b.before _ used t fits (offset_by (is_made t.kind) refl)))
      (rw (split, b.place) (record_back script b.before _ used t fits (offset_by (is_made t.kind) refl)))
      (part_by (is_made t.kind) refl)

  -- The buffers from the next token on.
  buffers_next : (t.kind ≡ EOF → ⊥) → Buffers script texts s (place_after at t) (used + length (made_text t)) ts
  unfolding place_after record_of
  buffers_next n =
      record {
        before = b.before ++ record_of used t;
        after = b.after;
        done = b.done ++ made_text t;
        more = b.more;
        records = split ∙ sym (append_assoc b.before (record_of used t) _);
        place =
            rw (ne_eqb t.kind EOF n)
            (omega (arith, b.place, length-append b.before (record_of used t), length_token t.kind t.span (text_offset used t) (length t.text)));
        texts_are = text_split ∙ sym (append_assoc b.done (made_text t) _);
        offset = omega (arith, b.offset, length-append b.done (made_text t));
        small = omega (arith, b.small, made_small);
      }

  tokens_turn : (n : ℕ) → tokens_from (suc n) script texts s at ≡ t ∷ (if t.kind is EOF then [] else tokens_from n script texts s (place_after at t))
  unfolding tokens_from
  tokens_turn n = turn_gives (tokens_from n script texts s) _ _ _ used at t next_is word_is.0 word_is.1

-- Where the buffers hold the records of tokens that end with EOF, a reader meets these tokens, and none after them.
pub tokens_from_lem : (script texts s : List ℕ) (at used : ℕ) (ts : List Token) (n : ℕ) → Buffers script texts s at used ts → Every (TokenFits script) ts → Ended ts
    → length ts ≤ n → tokens_from n script texts s at ≡ ts
unfolding Ended
tokens_from_lem script texts s at used [] n b f e h = absurd e
tokens_from_lem script texts s at used (t ∷ ts) zero b f e h = absurd (not-suc-le-zero h)
tokens_from_lem script texts s at used (t ∷ []) (suc n) b f e h =
    tokens_turn script texts s at used t [] b f.0 n ∙ rw (eq-eqb t.kind EOF e)
tokens_from_lem script texts s at used (t ∷ u ∷ ts) (suc n) b f e h =
    tokens_turn script texts s at used t (u ∷ ts) b f.0 n
    ∙ rw (ne_eqb t.kind EOF e.0)
    (ap (λ (l : List Token). t ∷ l)
    (tokens_from_lem script texts s (place_after at t) (used + length (made_text t)) (u ∷ ts) n (buffers_next script texts s at used t (u ∷ ts) b f.0 e.0) f.1 e.1 (le_of_suc-le-suc h)))

-- The whole buffers: tokens whose fields fit, written one after another from byte 0, are read back from place 0 as the same list.
-- What follows in the buffers does not matter.
pub tokens_back : (script : List ℕ) (ts : List Token) (after more : List ℕ) (n : ℕ) → Every (TokenFits script) ts → Ended ts → Small (length (text_bytes ts))
    → length ts ≤ n → tokens_from n script (text_bytes ts ++ more) (token_bytes ts ++ after) 0 ≡ ts
unfolding token_bytes
tokens_back script ts after more n f e small h =
    tokens_from_lem script _ _ 0 0 ts n
    (record {
      before = [];
      after = after;
      done = [];
      more = more;
      records = refl;
      place = refl;
      texts_are = refl;
      offset = refl;
      small = omega arith;
    }) f e h

-- ── Errors ──

error_by : (e : TokenizeError) (rest : List ℕ) (b : Bool) → has_code e.kind ≡ b → ErrorFits e → error_of (error_at (error_record_of e ++ rest) 0) ≡ e
unfolding error_record_of code_of
error_by e rest true t f =
    let c = f.code t in
    let q = front.error_code e.kind e.span (code_of e.char) rest t f.span (rw c.1 c.2) in
    rw (q, of_number e.kind (code_of e.char) f.low f.high, of_code e.kind (code_of e.char) t, c.1)
error_by e rest false t f =
    rw (
      front.error_bare e.kind e.span (code_of e.char) rest t f.span,
      of_number e.kind 0 f.low f.high,
      of_none e.kind 0 f.low f.high t,
      f.bare t,
    )

-- No turn more gives nothing more.
nothing_more : (s : List ℕ) (at n : ℕ) → errors_from (0 + n) s at ≡ errors_from n s (at + length (error_bytes []))
unfolding error_bytes
nothing_more s at n = rw (zero-add n, add-zero at)

none_more : (es : List TokenizeError) (s : List ℕ) (at : ℕ) → es ++ errors_from 0 s at ≡ es
unfolding errors_from
none_more es s at = append-nil es

end_refuses : (s : List ℕ) → next_error_at s (length s) ≡ record { answer = refused 7 (length s); place = length s }
unfolding next_error_at
end_refuses s = rw (error_past s (length s) (le_refl (length s)))

stopped_turn : (rest : ℕ → List TokenizeError) (next : Turn ErrorRecord) (n f p : ℕ) → next ≡ record { answer = refused n f; place = p }
    → error_turn rest next.answer next.place ≡ []
unfolding error_turn
stopped_turn rest next n f p e = rw e

error_turn_lem : (rest : ℕ → List TokenizeError) (next : Turn ErrorRecord) (r : ErrorRecord) (e : TokenizeError) (p : ℕ)
    → next ≡ record { answer = got r; place = p } → error_of r ≡ e → error_turn rest next.answer next.place ≡ e ∷ rest p
unfolding error_turn
error_turn_lem rest next r e p n q = rw (n, q)

module _ (pre rest : List ℕ) (e : TokenizeError) (f : ErrorFits e) where
  -- The next over errors reads the record that was written.
  pub next_error_back : next_error_at (pre ++ (error_record_of e ++ rest)) (length pre)
      ≡ record { answer = got (error_at (error_record_of e ++ rest) 0); place = length pre + error_length e.kind }
  unfolding next_error_at error_record_of
  next_error_back =
      let w = shift.whole_error_shift pre (error_record_of e ++ rest) ∙ front.error_whole e.kind e.span (code_of e.char) rest f.low f.high in
      let k = shift.kind_shift pre (error_record_of e ++ rest) ∙ front.error_kind e.kind e.span (code_of e.char) rest in
      rw (w, shift.error_shift pre (error_record_of e ++ rest), k)

  pub error_back : error_of (error_at (error_record_of e ++ rest) 0) ≡ e
  error_back = error_by e rest (has_code e.kind) refl f

module _ (s pre rest : List ℕ) (at : ℕ) (e : TokenizeError) (es : List TokenizeError) (r : s ≡ pre ++ (error_bytes (e ∷ es) ++ rest)) (a : at ≡ length pre)
    (f : ErrorFits e) where
  error_split : s ≡ pre ++ (error_record_of e ++ (error_bytes es ++ rest))
  unfolding error_bytes
  error_split = r ∙ rw (append_assoc (error_record_of e) (error_bytes es) rest)

  error_length_lem : length (error_record_of e) ≡ error_length e.kind
  unfolding error_record_of
  error_length_lem = length_error e.kind e.span (code_of e.char)

  error_is : next_error_at s at ≡ record { answer = got (error_at (error_record_of e ++ (error_bytes es ++ rest)) 0); place = at + error_length e.kind }
  error_is = rw (error_split, a) (next_error_back pre (error_bytes es ++ rest) e f)

  errors_turn : (n : ℕ) → errors_from (suc n) s at ≡ e ∷ errors_from n s (at + error_length e.kind)
  unfolding errors_from
  errors_turn n = error_turn_lem (errors_from n s) (next_error_at s at) _ e _ error_is (error_back pre (error_bytes es ++ rest) e f)

  error_next : s ≡ (pre ++ error_record_of e) ++ (error_bytes es ++ rest)
  error_next = error_split ∙ sym (append_assoc pre (error_record_of e) _)

  error_place : at + error_length e.kind ≡ length (pre ++ error_record_of e)
  error_place = omega (arith, a, length-append pre (error_record_of e), error_length_lem)

  error_total : at + error_length e.kind + length (error_bytes es) ≡ at + length (error_bytes (e ∷ es))
  unfolding error_bytes
  error_total = omega (arith, length-append (error_record_of e) (error_bytes es), error_length_lem)

-- Where a buffer holds the records of errors, a reader meets them first, and then goes on after them.
pub errors_from_lem : (s pre rest : List ℕ) (at : ℕ) (es : List TokenizeError) (n : ℕ) → s ≡ pre ++ (error_bytes es ++ rest) → at ≡ length pre → Every ErrorFits es
    → errors_from (length es + n) s at ≡ es ++ errors_from n s (at + length (error_bytes es))
errors_from_lem s pre rest at [] n r a f = nothing_more s at n
errors_from_lem s pre rest at (e ∷ es) n r a f =
    rw (suc-add (length es) n)
    (errors_turn s pre rest at e es r a f.0 (length es + n)
    ∙ ap (λ (l : List TokenizeError). e ∷ l)
    (errors_from_lem s (pre ++ error_record_of e) rest (at + error_length e.kind) es n (error_next s pre rest at e es r a f.0) (error_place s pre rest at e es r a f.0) f.1
    ∙ rw (error_total s pre rest at e es r a f.0)))

-- At the end of the slice there is no error any more.
pub errors_end : (s : List ℕ) (n : ℕ) → errors_from n s (length s) ≡ []
unfolding errors_from
errors_end s zero = refl
errors_end s (suc n) = stopped_turn _ _ _ _ _ (end_refuses s)

-- The whole buffer: errors whose fields fit, written one after another from byte 0, are read back from place 0 as the same list.
pub errors_back : (es : List TokenizeError) (n : ℕ) → Every ErrorFits es → length es ≤ n → errors_from n (error_bytes es) 0 ≡ es
errors_back es n f h =
    let m : n ≡ length es + (n - length es) = omega arith in
    let p = errors_from_lem (error_bytes es) [] [] 0 es (n - length es) (sym (append-nil (error_bytes es))) refl f in
    rw m (p ∙ rw (zero-add (length (error_bytes es)), errors_end (error_bytes es) (n - length es), append-nil es))

-- The same in a buffer that goes on after them, in as many turns as there are errors.
pub errors_back_within : (es : List TokenizeError) (rest : List ℕ) → Every ErrorFits es → errors_from (length es) (error_bytes es ++ rest) 0 ≡ es
errors_back_within es rest f =
    let p = errors_from_lem (error_bytes es ++ rest) [] rest 0 es 0 refl refl f in
    rw (add-zero (length es)) at p ∙ none_more es _ _

-- ── The lent buffers after writing at their fronts ──

-- The tokens, read from buffers that hold them and keep what stood after them.
pub tokens_written_back : (script : List ℕ) (ts : List Token) (tokens texts : List ℕ) (n : ℕ) → Every (TokenFits script) ts → Ended ts → Small (length (text_bytes ts))
    → length (token_bytes ts) ≤ length tokens → length (text_bytes ts) ≤ length texts → length ts ≤ n
    → tokens_from n script (sets texts 0 (text_bytes ts)) (sets tokens 0 (token_bytes ts)) 0 ≡ ts
tokens_written_back script ts tokens texts n f e small a b h =
    rw (sets_front texts (text_bytes ts) b, sets_front tokens (token_bytes ts) a) (tokens_back script ts _ _ n f e small h)

-- The errors, read from the part used of a buffer that holds them.
pub errors_written_back : (es : List TokenizeError) (errors : List ℕ) (n : ℕ) → Every ErrorFits es → length (error_bytes es) ≤ length errors → length es ≤ n
    → errors_from n (take (length (error_bytes es)) (sets errors 0 (error_bytes es))) 0 ≡ es
errors_written_back es errors n f a h =
    rw (sets_front errors (error_bytes es) a, take-append_seam (error_bytes es) (drop (length (error_bytes es)) errors)) (errors_back es n f h)
