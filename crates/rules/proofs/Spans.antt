-- Where tokens and errors stand: a position in a text, what holds of every segment of a text, and the bounds of spans. Assumes nothing.
use Rattle.std.specs.Prelude.{if◌then◌else◌}
use mathlib.Core.Path.{◌≡◌, refl, sym, ap, ◌∙◌}
use mathlib.Core.List.{List, [], ◌∷◌, ◌++◌, append_assoc, append-nil}
use Prim.Native.Nat.{ℕ, zero, suc, ◌+◌, ◌≤◌, zero-le}
use native.Mathlib.Omega.{arith}
use lib.Dec.{leb}
use lib.ListN.{length, take, drop, take-append-drop}
use lib.Seq.{drop-nil}
use Rattle.characters.specs.Choice.{◌is◌}
use Rattle.characters.specs.Utf8.{width, bytes}
use Rattle.characters.proofs.Choice.{if_all}
use Rattle.characters.proofs.Widths.{width_bounds}
use Rattle.characters.proofs.Texts.{bytes_append}
use Rattle.spans.specs.declared.Position.{Position}
use Rattle.spans.specs.declared.Span.{Span}
use Rattle.spans.specs.Span.{single, earlier, later, merge}
use Rattle.rules.specs.Text.{Char, Text, LF}
use Rattle.rules.specs.Tokens.{Token, TokenizeError}
use Rattle.rules.specs.Segment.{Piece, Fault, Segment}
use Rattle.rules.specs.Lexer.{segment, size_behind_first, segments, advance, advances, skipped_line_column, skip, skips, is_space, after, current_span, span, place_in, tokens_of, errors_of, place, lex, origin, lexed, eof, tokens, errors}
use Rattle.rules.specs.Bounds.{Every}
use Rattle.rules.proofs.Front.{segment_takes}
use Rattle.rules.proofs.Join.{size_fits, rest_is}
use Rattle.rules.proofs.Every.{every_append}

-- ── Positions in a text ──

-- The position `p` stands behind the front `pre` of a text. Lines and columns begin at 1, and each character has at least one byte, so
-- that neither gets further than the offset.
pub record Behind (pre : Text) (p : Position) : Type 0 where
  pub offset_is : p.offset ≡ bytes pre
  pub line_low : p.line ≤ 1 + p.offset
  pub col_low : p.col ≤ 1 + p.offset

one_more : (pre : Text) (c : Char) → bytes (pre ++ (c ∷ [])) ≡ bytes pre + width c
unfolding bytes
one_more pre c = omega (arith, bytes_append pre (c ∷ []))

behind_advance : (pre : Text) (p : Position) (c : Char) → Behind pre p → Behind (pre ++ (c ∷ [])) (advance p c)
unfolding advance
behind_advance pre p c b =
    let n = one_more pre c in
    let w = (width_bounds c).0 in
    if_all (Behind (pre ++ (c ∷ []))) (c is LF)
    (λ _. record { offset_is = omega (arith, b.offset_is); line_low = omega (arith, b.line_low); col_low = omega arith })
    (λ _. record { offset_is = omega (arith, b.offset_is); line_low = omega (arith, b.line_low); col_low = omega (arith, b.col_low) })

behind_skip : (pre : Text) (p : Position) (c : Char) → Behind pre p → Behind (pre ++ (c ∷ [])) (skip p c)
unfolding skip skipped_line_column
behind_skip pre p c b =
    let n = one_more pre c in
    let w = (width_bounds c).0 in
    if_all (Behind (pre ++ (c ∷ []))) (c is LF)
    (λ _. record { offset_is = omega (arith, b.offset_is); line_low = omega (arith, b.line_low); col_low = omega arith })
    (λ _. record { offset_is = omega (arith, b.offset_is); line_low = omega (arith, b.line_low); col_low = omega (arith, b.col_low) })

behind_advances : (pre t : Text) (p : Position) → Behind pre p → Behind (pre ++ t) (advances p t)
unfolding advances
behind_advances pre [] p b = rw (append-nil pre) b
behind_advances pre (c ∷ t) p b =
    rw (← (append_assoc pre (c ∷ []) t)) (behind_advances (pre ++ (c ∷ [])) t (advance p c) (behind_advance pre p c b))

behind_skips : (pre t : Text) (p : Position) → Behind pre p → Behind (pre ++ t) (skips p t)
unfolding skips
behind_skips pre [] p b = rw (append-nil pre) b
behind_skips pre (c ∷ t) p b =
    rw (← (append_assoc pre (c ∷ []) t)) (behind_skips (pre ++ (c ∷ [])) t (skip p c) (behind_skip pre p c b))

behind_after : (pre : Text) (p : Position) (s : Segment) → Behind pre p → Behind (pre ++ s.chars) (after p s)
unfolding after
behind_after pre p s b =
    if_all (Behind (pre ++ s.chars)) (is_space s.sort) (λ _. behind_skips pre s.chars p b) (λ _. behind_advances pre s.chars p b)

-- ── Every segment of a text ──

-- What holds of the tokens and errors of each segment, wherever it stands, holds of all.
module _ (whole : Text) (P : Token → Type 0) (Q : TokenizeError → Type 0) where
  abbrev AtSegment : Type 0
  AtSegment =
      (pre rest : Text) (p : Position) (c : Char) (cs : Text) → Behind pre p → whole ≡ pre ++ (c ∷ cs) → c ∷ cs ≡ (segment (c ∷ cs)).chars ++ rest
      → Every P (tokens_of p (segment (c ∷ cs)) (segment (c ∷ cs)).pieces) × Every Q (errors_of p (segment (c ∷ cs)) (segment (c ∷ cs)).faults)

  lex_every : AtSegment → (k : ℕ) (pre : Text) (p : Position) (cs : Text) → k ≤ length cs → whole ≡ pre ++ drop k cs → Behind pre p
      → Every P (lex k p cs).body × Every Q (lex k p cs).errors × Behind whole (lex k p cs).stop
  unfolding segments place
  lex_every f k pre p [] h e b = (tt, tt, rw (e ∙ (ap (λ (t : Text). pre ++ t) (drop-nil k) ∙ append-nil pre)) b)
  lex_every f (suc k) pre p (c ∷ cs) h e b = lex_every f k pre p cs (omega arith) e b
  lex_every f zero pre p (c ∷ cs) h e b =
      let s = segment (c ∷ cs) in
      let w = segment_takes c cs in
      let split : c ∷ cs ≡ s.chars ++ w.rest = sym (ap (λ (t : Text). c ∷ t) w.split) ∙ ap (λ (t : Text). t ++ w.rest) (sym w.took) in
      let here = f pre w.rest p c cs b e split in
      let e' : whole ≡ pre ++ s.chars ++ drop (size_behind_first s.chars) cs
      = e ∙ (ap (λ (t : Text). pre ++ t) (split ∙ ap (λ (t : Text). s.chars ++ t) (sym (rest_is c cs))) ∙ sym (append_assoc pre s.chars _)) in
      let r = lex (size_behind_first s.chars) (after p s) cs in
      let more = lex_every f (size_behind_first s.chars) (pre ++ s.chars) (after p s) cs (size_fits c cs) e' (behind_after pre p s b) in
      (every_append P (tokens_of p s s.pieces) r.body here.0 more.0, every_append Q (errors_of p s s.faults) r.errors here.1 more.1, more.2)

  pub text_every : AtSegment → Every P (lexed whole).body × Every Q (lexed whole).errors × Behind whole (lexed whole).stop
  unfolding bytes
  text_every f = lex_every f 0 [] origin whole zero-le refl (record { offset_is = refl; line_low = omega arith; col_low = omega arith })

-- ── Spans ──

-- Each number of a span is at most `n`.
pub record Within (n : ℕ) (s : Span) : Type 0 where
  pub start_low : s.start ≤ n
  pub end_low : s.end ≤ n
  pub start_line_low : s.start_line ≤ n
  pub start_col_low : s.start_col ≤ n
  pub end_line_low : s.end_line ≤ n
  pub end_col_low : s.end_col ≤ n

merge_within : (n : ℕ) (a b : Span) → Within n a → Within n b → Within n (merge a b)
unfolding merge earlier later
merge_within n a b h g =
    let f : Within n (if leb a.start b.start then a else b) = if_all (Within n) (leb a.start b.start) (λ _. h) (λ _. g) in
    let l : Within n (if leb b.end a.end then a else b) = if_all (Within n) (leb b.end a.end) (λ _. h) (λ _. g) in
    record {
      start_low = f.start_low;
      end_low = l.end_low;
      start_line_low = f.start_line_low;
      start_col_low = f.start_col_low;
      end_line_low = l.end_line_low;
      end_col_low = l.end_col_low;
    }

module _ (whole : Text) where
  abbrev N : ℕ
  N = 1 + bytes whole

  -- A position somewhere in the text.
  abbrev In : Position → Type 0
  In p = (pre rest : Text) × (whole ≡ pre ++ rest) × Behind pre p

  here_within : (p : Position) → In p → Within N (current_span p)
  unfolding single
  here_within p (pre, rest, e, b) =
      let m : p.offset ≤ bytes whole = omega (arith, b.offset_is, ap bytes e, bytes_append pre rest) in
      record {
        start_low = omega arith;
        end_low = omega arith;
        start_line_low = omega (arith, b.line_low);
        start_col_low = omega (arith, b.col_low);
        end_line_low = omega (arith, b.line_low);
        end_col_low = omega (arith, b.col_low);
      }

  span_within : (p q : Position) → In p → In q → Within N (span p q)
  unfolding span
  span_within p q h g = merge_within N (current_span p) (current_span q) (here_within p h) (here_within q g)

  -- A place in a segment.
  place_in_lem : (pre rest : Text) (p : Position) (s : Segment) (k : ℕ) → Behind pre p → whole ≡ pre ++ (s.chars ++ rest) → In (place_in p s k)
  place_in_lem pre rest p s k b e =
      let t = take k s.chars in
      let u = drop k s.chars in
      let split : whole ≡ pre ++ t ++ (u ++ rest)
      = e
      ∙ (ap (λ (x : Text). pre ++ (x ++ rest)) (sym (take-append-drop k s.chars))
      ∙ (ap (λ (x : Text). pre ++ x) (append_assoc t u rest) ∙ sym (append_assoc pre t (u ++ rest)))) in
      (pre ++ t, u ++ rest, split, behind_advances pre t p b)

  abbrev TokenWithin : Token → Type 0
  TokenWithin t = Within N t.span

  abbrev ErrorWithin : TokenizeError → Type 0
  ErrorWithin e = Within N e.span

  tokens_within : (pre rest : Text) (p : Position) (s : Segment) → Behind pre p → whole ≡ pre ++ (s.chars ++ rest)
      → (xs : List Piece) → Every TokenWithin (tokens_of p s xs)
  unfolding tokens_of
  tokens_within pre rest p s b e [] = tt
  tokens_within pre rest p s b e (x ∷ xs) =
      (span_within p (place_in p s x.end) (pre, s.chars ++ rest, e, b) (place_in_lem pre rest p s x.end b e), tokens_within pre rest p s b e xs)

  errors_within : (pre rest : Text) (p : Position) (s : Segment) → Behind pre p → whole ≡ pre ++ (s.chars ++ rest)
      → (xs : List Fault) → Every ErrorWithin (errors_of p s xs)
  unfolding errors_of
  errors_within pre rest p s b e [] = tt
  errors_within pre rest p s b e (x ∷ xs) = (
    span_within (place_in p s x.from) (place_in p s x.to) (place_in_lem pre rest p s x.from b e) (place_in_lem pre rest p s x.to b e),
    errors_within pre rest p s b e xs,
  )

  all_within : Every TokenWithin (lexed whole).body × Every ErrorWithin (lexed whole).errors × Behind whole (lexed whole).stop
  all_within =
      text_every whole TokenWithin ErrorWithin
      (λ pre rest p c cs b e q.
      let s = segment (c ∷ cs) in
      let w : whole ≡ pre ++ (s.chars ++ rest) = e ∙ ap (λ (t : Text). pre ++ t) q in
      (tokens_within pre rest p s b w s.pieces, errors_within pre rest p s b w s.faults))

  -- Each field of each span of a text of n bytes is at most n + 1.
  pub token_spans : Every TokenWithin (tokens whole)
  unfolding tokens
  token_spans =
      every_append TokenWithin (lexed whole).body (eof (lexed whole).stop ∷ []) all_within.0
      (here_within (lexed whole).stop (whole, [], sym (append-nil whole), all_within.2), tt)

  pub error_spans : Every ErrorWithin (errors whole)
  unfolding errors
  error_spans = all_within.1
