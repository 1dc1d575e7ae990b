-- The tokens and the errors of an accepted script are such as their records hold whole. Assumes nothing.
use mathlib.Core.Path.{◌≡◌, refl, sym, ◌∙◌, ap}
use mathlib.Core.Bool.{Bool, true, false, ◌&&◌, ◌||◌, not, true≢false, false≢true}
use mathlib.Core.List.{List, [], ◌∷◌, ◌++◌}
use Prim.Native.Nat.{ℕ, zero, suc, ◌≤◌, ◌<◌}
use native.Mathlib.Omega.{arith}
use borrow.Author.Tests.{leb-true, leb-false, le-leb, lt-leb, eq-eqb}
use lib.Dec.{leb}
use lib.ListN.{get_or}
use Rattle.characters.specs.Choice.{◌is◌, within}
use Rattle.characters.specs.Utf8.{encode_char, encode}
use Rattle.characters.proofs.Choice.{and_both, or_neither}
use Rattle.rules.specs.Text.{same_text}
use Rattle.rules.specs.Tokens.{Token, TokenizeError}
use Rattle.rules.specs.Tables.{KEYWORDS, MARKS, THIRDS, lookup, EOF}
use Rattle.rules.specs.Marks as marks
use Rattle.rules.specs.Lexer.{lexed, eof}
use Rattle.rules.specs.Bounds.{Every, SpanFits, TokenSmall}
use Rattle.rules.specs.Script.{accepted, script_text, as_bytes, script_tokens, script_errors}
use Rattle.rules.proofs.Sources.{Kinds, Suits, made_right, whole_right, fixed_right, part_right, keywords_right, pair_right, column_right, mark_right, all_rows, same_text_lem}
use Rattle.rules.proofs.Faults.{names_code}
use Rattle.rules.proofs.Fits.{tokens_low, error_spans_low, ErrorKnown, script_errors_known, TokenSourced, script_body, body_and_eof, script_tokens_sourced}
use Rattle.spans.specs.declared.Position.{Position}
use Rattle.records.specs.Kinds.{has_text, is_made, has_code}
use Rattle.spellings.specs.Spelling.{spellings, spelling}
use Rattle.record_lists.specs.Lists.{TokenFits, Ended, ErrorFits}

-- ── The kinds ──

-- A kind that a token but EOF may have.
unfoldable known : ℕ → Bool
known k = leb k 125 && not (k is EOF)

abbrev kinds : Kinds
kinds = record { made = is_made; script = has_text; fits = known; spelled = spelling }

kinds_suit : Suits kinds
unfolding made_right whole_right fixed_right part_right keywords_right pair_right column_right mark_right all_rows lookup same_text KEYWORDS MARKS THIRDS marks.spelling known is_made has_text within
kinds_suit =
    record {
      string_made = refl;
      char_made = refl;
      interp_made = refl;
      doc_made = refl;
      int_part = refl;
      float_part = refl;
      name_part = refl;
      error_part = refl;
      keywords = refl;
      marks = refl;
    }

known_low : (k : ℕ) → known k ≡ true → k ≤ 125
unfolding known
known_low k e = leb-true k 125 (and_both (leb k 125) (not (k is EOF)) e).0

known_no_eof : (k : ℕ) → known k ≡ true → k ≡ EOF → ⊥
unfolding known
known_no_eof k e q =
    let x = (and_both (leb k 125) (not (k is EOF)) e).1 in
    true≢false (sym x ∙ ap not (eq-eqb k EOF q))

-- A kind that carries no text has none made.
pub fixed_not_made : (k : ℕ) → has_text k ≡ false → is_made k ≡ false
unfolding has_text is_made within
fixed_not_made k e =
    let a = or_neither (leb k 5 || k is 39 || k is 121 || k is 123) (k is 125) e in
    let b = or_neither (leb k 5 || k is 39 || k is 121) (k is 123) a.0 in
    let c = or_neither (leb k 5 || k is 39) (k is 121) b.0 in
    let d = or_neither (leb k 5) (k is 39) c.0 in
    let h : 5 < k = leb-false k 5 d.0 in
    let i : 2 ≤ k = omega arith in
    let j : 3 < k = omega arith in
    rw (le-leb 2 k i, lt-leb k 3 j, c.1, b.1)

-- ── The spellings are ASCII ──

unfoldable plain : List (List ℕ) → Bool
plain [] = true
plain (w ∷ ws) = same_text (encode w) w && plain ws

all_plain : plain spellings ≡ true
unfolding plain same_text encode encode_char
all_plain = refl

plain_at : (rows : List (List ℕ)) (k : ℕ) → plain rows ≡ true → encode (get_or rows k []) ≡ get_or rows k []
unfolding plain encode
plain_at [] k e = refl
plain_at (w ∷ ws) zero e = same_text_lem (encode w) w (and_both (same_text (encode w) w) (plain ws) e).0
plain_at (w ∷ ws) (suc k) e = plain_at ws k (and_both (same_text (encode w) w) (plain ws) e).1

spelled : (k : ℕ) → encode (spelling k) ≡ spelling k
spelled k = plain_at spellings k all_plain

-- ── Tokens ──

token_fits : (s : List ℕ) (t : Token) → TokenSourced kinds s t → TokenSmall t → TokenFits s t
token_fits s t h l =
    record {
      kind = known_low t.kind h.fits;
      span = l.span;
      size = l.size;
      part = λ e m. record { inside = h.inside m e; same = h.part m e };
      fixed = λ e. h.fixed (fixed_not_made t.kind e) e ∙ spelled t.kind;
    }

eof_fits : (s : List ℕ) (p : Position) → TokenSmall (as_bytes (eof p)) → TokenFits s (as_bytes (eof p))
unfolding has_text is_made within encode
eof_fits s p l =
    record {
      kind = omega arith;
      span = l.span;
      size = l.size;
      part = λ e m. absurd (false≢true e);
      fixed = λ e. refl;
    }

each_fits : (s : List ℕ) (ts : List Token) (p : Position) → Every (TokenSourced kinds s) ts → Every TokenSmall (ts ++ (as_bytes (eof p) ∷ []))
    → Every (TokenFits s) (ts ++ (as_bytes (eof p) ∷ []))
each_fits s [] p h l = (eof_fits s p l.0, tt)
each_fits s (t ∷ ts) p h l = (token_fits s t h.0 l.0, each_fits s ts p h.1 l.1)

each_ended : (s : List ℕ) (ts : List Token) (p : Position) → Every (TokenSourced kinds s) ts → Ended (ts ++ (as_bytes (eof p) ∷ []))
unfolding Ended
each_ended s [] p h = refl
each_ended s (t ∷ []) p h = (known_no_eof t.kind h.0.fits, refl)
each_ended s (t ∷ u ∷ ts) p h = (known_no_eof t.kind h.0.fits, each_ended s (u ∷ ts) p h.1)

-- ── Errors ──

error_fits : (e : TokenizeError) → ErrorKnown e → SpanFits e.span → ErrorFits e
unfolding has_code names_code
error_fits e k l =
    record {
      low = k.low;
      high = k.high;
      span = l;
      code = λ h. let (c, q, b) = k.code h in (c, q, omega arith);
      bare = k.bare;
    }

each_error_fits : (es : List TokenizeError) → Every ErrorKnown es → Every (λ (e : TokenizeError). SpanFits e.span) es → Every ErrorFits es
each_error_fits [] h l = tt
each_error_fits (e ∷ es) h l = (error_fits e h.0 l.0, each_error_fits es h.1 l.1)

-- ── A script ──

module _ (s : List ℕ) (ok : accepted s ≡ true) where
  pub tokens_fit : Every (TokenFits s) (script_tokens s)
  tokens_fit =
      rw (body_and_eof s)
      (each_fits s (script_body s) (lexed (script_text s)).stop (script_tokens_sourced kinds kinds_suit s ok) (rw (body_and_eof s) at (tokens_low s ok)))

  pub tokens_ended : Ended (script_tokens s)
  tokens_ended =
      rw (body_and_eof s) (each_ended s (script_body s) (lexed (script_text s)).stop (script_tokens_sourced kinds kinds_suit s ok))

  pub errors_fit : Every ErrorFits (script_errors s)
  errors_fit = each_error_fits (script_errors s) (script_errors_known s) (error_spans_low s ok)
