-- Steps of a cursor: how they join, what they give outside of strings, how a string is entered, and what all the steps of a text give.
-- Assumes nothing.
use mathlib.Core.Path.{◌≡◌, refl, sym, ap, ◌∙◌}
use mathlib.Core.Bool.{Bool, true, false, ◌||◌, not}
use mathlib.Core.List.{List, [], ◌∷◌, ◌++◌, append-nil}
use Prim.Native.Nat.{ℕ}
use lib.ListN.{length, take, drop}
use lib.Seq.{drop-append_seam, take-length}
use Rattle.characters.specs.Space.{is_white}
use Rattle.spans.specs.declared.Position.{Position}
use Rattle.rules.specs.Text.{Char, Text, ch, text}
use Rattle.rules.specs.Scan.{starts_with}
use Rattle.rules.specs.Tokens.{Token, TokenizeError}
use Rattle.rules.specs.Segment.{Piece, piece, Fault, comment, Segment, skipped, with_token}
use Rattle.rules.specs.Comments.{white_space}
use Rattle.rules.specs.Lexer.{segment, segments, advance, advances, skip, skips, is_space, after, span, tokens_of, errors_of, Lexed, behind, place, lex, lexed, eof, tokens, errors, closed}
use Rattle.rules.proofs.Front.{segment_takes}
use Rattle.cursor.specs.declared.Cursor.{Cursor}
use Rattle.cursor.specs.declared.Cursor.TheVariants.{Outside}
use Rattle.cursor.specs.Cursor.{and_then, held, left, begin, Yields}
use Rattle.cursor.proofs.Inside.{lex_step, string_begins, then_join}

-- ── Steps one after another ──

pub yields_none : (c : Cursor) (cs : Text) → Yields c cs [] [] false c cs
yields_none c cs = refl

pub yields_join : (c c' c'' : Cursor) (cs cs' cs'' : Text) (ts us : List Token) (es fs : List TokenizeError) (o o' : Bool)
    → Yields c cs ts es o c' cs' → Yields c' cs' us fs o' c'' cs'' → Yields c cs (ts ++ us) (es ++ fs) (o || o') c'' cs''
yields_join c c' c'' cs cs' cs'' ts us es fs o o' p q = p ∙ (ap (and_then ts es o) q ∙ then_join ts us es fs o o' (left c'' cs''))

-- ── Outside of strings ──

-- A segment that stands at the front of a text, and what it leaves.
rest_of : (c : Char) (cs t rest : Text) → (segment (c ∷ cs)).chars ≡ t → c ∷ cs ≡ t ++ rest → (segment_takes c cs).rest ≡ rest
rest_of c cs t rest e s =
    let w = segment_takes c cs in
    let n : t ≡ c ∷ w.more = sym e ∙ w.took in
    let a : w.more ++ w.rest ≡ w.more ++ rest = w.split ∙ ap (drop 1) (s ∙ ap (λ (l : Text). l ++ rest) n) in
    sym (drop-append_seam w.more w.rest) ∙ (ap (drop (length w.more)) a ∙ drop-append_seam w.more rest)

-- The first segment's tokens and errors, and the cursor behind it.
pub yields_segment : (p : Position) (c : Char) (cs rest : Text) (s : Segment) → segment (c ∷ cs) ≡ s → c ∷ cs ≡ s.chars ++ rest
    → Yields (Outside p) (c ∷ cs) (tokens_of p s s.pieces) (errors_of p s s.faults) s.open_end (Outside (after p s)) rest
unfolding left
yields_segment p c cs rest s e q =
    lex_step p c cs
    ∙ (ap (λ (x : Segment). behind p x (lex 0 (after p x) (segment_takes c cs).rest)) e
    ∙ ap (λ (l : Text). behind p s (lex 0 (after p s) l)) (rest_of c cs s.chars rest (ap (λ (x : Segment). x.chars) e) q))

-- A token with its errors.
pub yields_token : (p : Position) (c : Char) (cs t rest : Text) (x : Piece) (fs : List Fault) (o : Bool)
    → segment (c ∷ cs) ≡ with_token t x fs o → c ∷ cs ≡ t ++ rest
    → Yields (Outside p) (c ∷ cs) (record { kind = x.kind; text = x.text; span = span p (advances p (take x.end t)) } ∷ [])
    (errors_of p (with_token t x fs o) fs) o (Outside (advances p t)) rest
unfolding tokens_of after is_space
yields_token p c cs t rest x fs o e q = yields_segment p c cs rest (with_token t x fs o) e q

-- The same where the token ends one past its last character.
pub yields_whole : (p : Position) (c : Char) (cs t rest : Text) (k : ℕ) (tx : Text) (fs : List Fault) (o : Bool)
    → segment (c ∷ cs) ≡ with_token t (piece k tx (length t)) fs o → c ∷ cs ≡ t ++ rest
    → Yields (Outside p) (c ∷ cs) (record { kind = k; text = tx; span = span p (advances p t) } ∷ [])
    (errors_of p (with_token t (piece k tx (length t)) fs o) fs) o (Outside (advances p t)) rest
yields_whole p c cs t rest k tx fs o e q =
    let x = piece k tx (length t) in
    yields_token p c cs t rest x fs o e q
    ∙ ap (λ (l : Text). and_then (record { kind = k; text = tx; span = span p (advances p l) } ∷ []) (errors_of p (with_token t x fs o) fs) o (left (Outside (advances p t)) rest))
    (take-length t)

-- A comment that is skipped.
pub yields_comment : (p : Position) (c : Char) (cs t rest : Text) (fs : List Fault) (o : Bool)
    → segment (c ∷ cs) ≡ skipped comment t fs o → c ∷ cs ≡ t ++ rest
    → Yields (Outside p) (c ∷ cs) [] (errors_of p (skipped comment t fs o) fs) o (Outside (advances p t)) rest
unfolding tokens_of after is_space
yields_comment p c cs t rest fs o e q = yields_segment p c cs rest (skipped comment t fs o) e q

-- A character of white space: nothing is given.
pub skips_white : (p : Position) (c : Char) (cs : Text) → is_white c ≡ true → left (Outside p) (c ∷ cs) ≡ left (Outside (skip p c)) cs
unfolding tokens_of errors_of after is_space skips white_space segment
skips_white p c cs h = yields_segment p c cs cs (white_space c) (rw h) refl

-- At the opening quote of an ordinary string: the string's first step is what `held` gives.
pub enters_string : (p : Position) (cs : Text) → starts_with (text "\"\"") cs ≡ false
    → left (Outside p) (ch "\"" ∷ cs) ≡ held false p (advance p (ch "\"")) [] cs
unfolding left
enters_string p cs h = string_begins p cs h

-- ── All the steps of a text ──

pub left_begin : (cs : Text) → left begin cs ≡ lexed cs
unfolding left
left_begin cs = refl

pub left_end : (p : Position) → left (Outside p) [] ≡ record { body = []; errors = []; open_end = false; stop = p }
unfolding left segments place
left_end p = refl

-- What the steps from the beginning to the end give is what the rules give.
module _ (cs : Text) (ts : List Token) (es : List TokenizeError) (o : Bool) (p : Position) (y : Yields begin cs ts es o (Outside p) []) where
  all_lexed : lexed cs ≡ record { body = ts; errors = es; open_end = o; stop = p }
  all_lexed = sym (left_begin cs) ∙ (y ∙ (ap (and_then ts es o) (left_end p) ∙ rw (append-nil ts, append-nil es, or_none o)))
    where
      or_none : (b : Bool) → (b || false) ≡ b
      or_none true = refl
      or_none false = refl

  pub all_tokens : tokens cs ≡ ts ++ (eof p ∷ [])
  unfolding tokens
  all_tokens = ap (λ (r : Lexed). r.body ++ (eof r.stop ∷ [])) all_lexed

  pub all_errors : errors cs ≡ es
  unfolding errors
  all_errors = ap (λ (r : Lexed). r.errors) all_lexed

  pub all_closed : closed cs ≡ not o
  unfolding closed
  all_closed = ap (λ (r : Lexed). not r.open_end) all_lexed
