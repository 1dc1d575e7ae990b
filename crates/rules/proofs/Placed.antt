-- Positions move along with the shift, and lexing moves with them; offsets are bytes; a span from one position to a later one is the
-- pair of the two. Assumes nothing.
use Rattle.std.specs.Prelude.{if◌then◌else◌}
use mathlib.Core.Path.{◌≡◌, refl, sym, ◌∙◌}
use mathlib.Core.Logic.{⊎_elim}
use mathlib.Core.List.{List, [], ◌∷◌, map, map-append}
use Prim.Native.Nat.{ℕ, suc, ◌+◌, max, ◌≤◌, ◌<◌}
use native.Mathlib.Omega.{arith}
use lib.Dec.{leb}
use lib.ListN.{take}
use borrow.Author.Tests.{le-leb, lt-leb, leb-true, leb-false}
use Rattle.characters.specs.Choice.{◌is◌}
use Rattle.characters.specs.Utf8.{width, bytes}
use Rattle.characters.proofs.Choice.{if_all, if_both, le_or_lt}
use Rattle.characters.proofs.Widths.{width_bounds}
use Rattle.spans.specs.declared.Position.{Position}
use Rattle.spans.specs.declared.Span.{Span}
use Rattle.spans.specs.Span.{single, earlier, later, merge}
use Rattle.rules.specs.Text.{Char, Text, LF}
use Rattle.rules.specs.Segment.{Piece, Fault, Segment}
use Rattle.rules.specs.Lexer.{advance, advances, skip, skips, skipped_line_column, is_space, after, current_span, span, place_in, tokens_of, errors_of, Lexed, place, segments, lex}
use Rattle.rules.specs.Shift.{shift_column, shift_span, shift_token, shift_error}
use Rattle.rules.proofs.Ahead.{is_not}

-- ── Offsets are bytes ──

-- One step of `advance` or of `skip`: a line feed leaves the column `k`.
abbrev step_to : ℕ → Position → Char → Position
step_to k p c =
    if c is LF then record { offset = p.offset + width c; line = suc p.line; col = k }
    else record { offset = p.offset + width c; line = p.line; col = suc p.col }

step_offset : (k : ℕ) (p : Position) (c : Char) → (step_to k p c).offset ≡ p.offset + width c
step_offset k p c = if_all (λ (q : Position). q.offset ≡ p.offset + width c) (c is LF) (λ _. refl) (λ _. refl)

pub advances_offset : (p : Position) (cs : Text) → (advances p cs).offset ≡ p.offset + bytes cs
unfolding advances advance bytes
advances_offset p [] = omega arith
advances_offset p (c ∷ cs) = omega (arith, advances_offset (advance p c) cs, step_offset 1 p c)

pub skips_offset : (p : Position) (cs : Text) → (skips p cs).offset ≡ p.offset + bytes cs
unfolding skips skip bytes
skips_offset p [] = omega arith
skips_offset p (c ∷ cs) = omega (arith, skips_offset (skip p c) cs, step_offset skipped_line_column p c)

pub after_offset : (p : Position) (s : Segment) → (after p s).offset ≡ p.offset + bytes s.chars
unfolding after
after_offset p s =
    if_all (λ (q : Position). q.offset ≡ p.offset + bytes s.chars) (is_space s.sort)
    (λ _. skips_offset p s.chars) (λ _. advances_offset p s.chars)

-- ── Spans ──

-- The span's six numbers are those of the two positions.
abbrev pub plain_span : Position → Position → Span
plain_span p q =
    record {
      start = p.offset;
      end = q.offset;
      start_line = p.line;
      start_col = p.col;
      end_line = q.line;
      end_col = q.col;
    }

pub span_plain : (p : Position) (cs : Text) → span p (advances p cs) ≡ plain_span p (advances p cs)
unfolding span merge earlier later single advances
span_plain p [] = rw (le-leb p.offset p.offset (omega arith))
span_plain p (c ∷ cs) =
    let far : p.offset < (advances p (c ∷ cs)).offset
    = omega (arith, advances_offset p (c ∷ cs), first_wide, (width_bounds c).0) in
    rw (le-leb p.offset (advances p (c ∷ cs)).offset (omega arith), lt-leb (advances p (c ∷ cs)).offset p.offset far)
  where
    first_wide : bytes (c ∷ cs) ≡ width c + bytes cs
    first_wide = unfold bytes in refl

pub span_end : (p q : Position) → (span p q).end ≡ max p.offset q.offset
unfolding span merge later single
span_end p q =
    if_all (λ (s : Span). s.end ≡ max p.offset q.offset) (leb q.offset p.offset)
    (λ e. omega (arith, leb-true q.offset p.offset e)) (λ e. omega (arith, leb-false q.offset p.offset e))

-- ── The shift ──

leb_shift : (k m n : ℕ) → leb (m + k) (n + k) ≡ leb m n
leb_shift k m n =
    ⊎_elim (λ h. le-leb (m + k) (n + k) (omega arith) ∙ sym (le-leb m n h))
    (λ h. lt-leb (m + k) (n + k) (omega arith) ∙ sym (lt-leb m n h)) (le_or_lt m n)

-- On a later line than the first a column keeps; the next column moves as its neighbour does.
later_column : (line col : ℕ) → 1 ≤ line → shift_column (suc line) col ≡ col
unfolding shift_column
later_column line col g = rw (is_not (suc line) 1 (omega arith))

next_column : (line col : ℕ) → suc (shift_column line col) ≡ shift_column line (suc col)
unfolding shift_column
next_column line col = if_both (λ a b. suc a ≡ b) (line is 1) (λ _. refl) (λ _. refl)

module _ (n l : ℕ) where
  abbrev pub shift_position : Position → Position
  shift_position p = record { offset = p.offset + (n + 1); line = p.line + l; col = shift_column p.line p.col }

  shift_earlier : (a b : Span) → earlier (shift_span n l a) (shift_span n l b) ≡ shift_span n l (earlier a b)
  unfolding earlier
  shift_earlier a b =
      rw leb_shift
      (if_both (λ x y. x ≡ shift_span n l y) (leb a.start b.start) (λ _. refl) (λ _. refl))

  shift_later : (a b : Span) → later (shift_span n l a) (shift_span n l b) ≡ shift_span n l (later a b)
  unfolding later
  shift_later a b =
      rw leb_shift
      (if_both (λ x y. x ≡ shift_span n l y) (leb b.end a.end) (λ _. refl) (λ _. refl))

  shift_span_lem : (p q : Position) → span (shift_position p) (shift_position q) ≡ shift_span n l (span p q)
  unfolding span merge single
  shift_span_lem p q = rw (shift_earlier (current_span p) (current_span q), shift_later (current_span p) (current_span q))

  -- Lines begin at 1, and stay there or grow.
  abbrev pub Good : Position → Type 0
  Good p = 1 ≤ p.line

  good_step : (k : ℕ) (p : Position) (c : Char) → Good p → Good (step_to k p c)
  good_step k p c g = if_all Good (c is LF) (λ _. omega arith) (λ _. g)

  good_advances : (p : Position) (cs : Text) → Good p → Good (advances p cs)
  unfolding advances advance
  good_advances p [] g = g
  good_advances p (c ∷ cs) g = good_advances (advance p c) cs (good_step 1 p c g)

  good_skips : (p : Position) (cs : Text) → Good p → Good (skips p cs)
  unfolding skips skip
  good_skips p [] g = g
  good_skips p (c ∷ cs) g = good_skips (skip p c) cs (good_step skipped_line_column p c g)

  good_after : (p : Position) (s : Segment) → Good p → Good (after p s)
  unfolding after
  good_after p s g = if_all Good (is_space s.sort) (λ _. good_skips p s.chars g) (λ _. good_advances p s.chars g)

  shift_step : (k : ℕ) (p : Position) (c : Char) → Good p → step_to k (shift_position p) c ≡ shift_position (step_to k p c)
  shift_step k p c g =
      let o : p.offset + (n + 1) + width c ≡ p.offset + width c + (n + 1) = omega arith in
      let m : suc (p.line + l) ≡ suc p.line + l = omega arith in
      if_both (λ a b. a ≡ shift_position b) (c is LF) (λ _. rw (o, m, later_column p.line k g))
      (λ _. rw (o, next_column p.line p.col))

  shift_advances : (p : Position) (cs : Text) → Good p → advances (shift_position p) cs ≡ shift_position (advances p cs)
  unfolding advances advance
  shift_advances p [] g = refl
  shift_advances p (c ∷ cs) g = rw (shift_step 1 p c g) (shift_advances (advance p c) cs (good_step 1 p c g))

  shift_skips : (p : Position) (cs : Text) → Good p → skips (shift_position p) cs ≡ shift_position (skips p cs)
  unfolding skips skip
  shift_skips p [] g = refl
  shift_skips p (c ∷ cs) g =
      rw (shift_step skipped_line_column p c g) (shift_skips (skip p c) cs (good_step skipped_line_column p c g))

  shift_after : (p : Position) (s : Segment) → Good p → after (shift_position p) s ≡ shift_position (after p s)
  unfolding after
  shift_after p s g =
      if_both (λ a b. a ≡ shift_position b) (is_space s.sort) (λ _. shift_skips p s.chars g) (λ _. shift_advances p s.chars g)

  -- ── Lexing moves along ──

  shift_tokens : (p : Position) (s : Segment) (xs : List Piece) → Good p
      → tokens_of (shift_position p) s xs ≡ map (shift_token n l) (tokens_of p s xs)
  unfolding tokens_of
  shift_tokens p s [] g = refl
  shift_tokens p s (x ∷ xs) g =
      rw (shift_advances p (take x.end s.chars) g, shift_span_lem p (place_in p s x.end), shift_tokens p s xs g)

  shift_errors : (p : Position) (s : Segment) (xs : List Fault) → Good p
      → errors_of (shift_position p) s xs ≡ map (shift_error n l) (errors_of p s xs)
  unfolding errors_of
  shift_errors p s [] g = refl
  shift_errors p s (x ∷ xs) g =
      rw (
        shift_advances p (take x.from s.chars) g,
        shift_advances p (take x.to s.chars) g,
        shift_span_lem (place_in p s x.from) (place_in p s x.to),
        shift_errors p s xs g,
      )

  abbrev pub shift_lexed : Lexed → Lexed
  shift_lexed r =
      record {
        body = map (shift_token n l) r.body;
        errors = map (shift_error n l) r.errors;
        open_end = r.open_end;
        stop = shift_position r.stop;
      }

  shift_place : (p : Position) (ss : List Segment) → Good p → place (shift_position p) ss ≡ shift_lexed (place p ss)
  unfolding place
  shift_place p [] g = refl
  shift_place p (s ∷ ss) g =
      rw (
        shift_tokens p s s.pieces g,
        shift_errors p s s.faults g,
        shift_after p s g,
        shift_place (after p s) ss (good_after p s g),
        map-append (shift_token n l),
        map-append (shift_error n l),
      )

  pub shift_lex : (k : ℕ) (p : Position) (cs : Text) → Good p → lex k (shift_position p) cs ≡ shift_lexed (lex k p cs)
  shift_lex k p cs g = shift_place p (segments k cs) g
