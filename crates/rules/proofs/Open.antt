-- An open first text is told by an empty second one: a token or an error ends behind the first text's end, or there is one error 5
-- more. With `closed_joins`, a text is closed exactly when it joins with every second one. Assumes nothing.
use mathlib.Core.Path.{◌≡◌, refl, sym, ap, ◌∙◌}
use mathlib.Core.Logic.{◌⊎◌, inl, inr, ⊎_map, ⊎_elim, ◌↔◌}
use mathlib.Core.Bool.{Bool, true, false, ◌||◌, not}
use mathlib.Core.List.{List, [], ◌∷◌, ◌++◌, drop_last, append-nil}
use Prim.Native.Nat.{ℕ, zero, suc, ◌+◌, max, ◌≤◌, ◌<◌, zero-le}
use native.Mathlib.Omega.{arith}
use lib.Seq.{take_all}
use lib.ListN.{length, take}
use Rattle.characters.specs.Utf8.{width, bytes}
use Rattle.characters.proofs.Choice.{le_or_lt}
use Rattle.characters.proofs.Texts.{bytes_append}
use Rattle.spans.specs.declared.Position.{Position}
use Rattle.rules.specs.Text.{Char, Text}
use Rattle.rules.specs.Tokens.{Token, TokenizeError}
use Rattle.rules.specs.Segment.{Piece, Fault, Segment}
use Rattle.rules.specs.Lexer.{segment, size_behind_first, segments, after, place_in, tokens_of, errors_of, Lexed, behind, place, lex, origin, lexed, eof, tokens, errors, closed}
use Rattle.rules.specs.Shift.{shift_token}
use Rattle.rules.proofs.Kept.{out, segment_same}
use Rattle.rules.proofs.Front.{closed_not, segment_takes}
use Rattle.rules.proofs.Placed.{advances_offset, after_offset, span_end}
use Rattle.rules.proofs.Join.{size_fits, drop_eof, stop_offset, TextsJoin, closed_joins}
use Rattle.rules.proofs.Tells.{Z, fives, fives_append, fault_fives, top, top_append, last_end, last_to, Marked, Swallows, Breaks, open_takes_all, segment_tells}

abbrev error_fives : List TokenizeError → ℕ
error_fives = fives (λ (e : TokenizeError). e.kind)

abbrev pub furthest : List Token → ℕ
furthest = top (λ (t : Token). t.span.end)

abbrev furthest_error : List TokenizeError → ℕ
furthest_error = top (λ (e : TokenizeError). e.span.end)

-- ── One segment with its positions ──

placed_fives : (p : Position) (s : Segment) (fs : List Fault) → error_fives (errors_of p s fs) ≡ fault_fives fs
unfolding fives errors_of
placed_fives p s [] = refl
placed_fives p s (f ∷ fs) = omega (arith, placed_fives p s fs)

pub part_bytes : (k : ℕ) (t : Text) → bytes (take k t) ≤ bytes t
unfolding bytes
part_bytes zero t = zero-le
part_bytes (suc k) [] = zero-le
part_bytes (suc k) (c ∷ t) = omega (arith, part_bytes k t)

module _ (p : Position) (s : Segment) where
  -- No place of a segment is behind its end, and a place past its last character is at its end.
  pub place_within : (k : ℕ) → (place_in p s k).offset ≤ p.offset + bytes s.chars
  place_within k = omega (arith, advances_offset p (take k s.chars), part_bytes k s.chars)

  pub place_last : (k : ℕ) → length s.chars ≤ k → (place_in p s k).offset ≡ p.offset + bytes s.chars
  place_last k h = omega (arith, advances_offset p (take k s.chars), ap bytes (take_all k s.chars h))

  tokens_within : (xs : List Piece) → furthest (tokens_of p s xs) ≤ p.offset + bytes s.chars
  unfolding tokens_of top
  tokens_within [] = zero-le
  tokens_within (x ∷ xs) = omega (arith, tokens_within xs, span_end p (place_in p s x.end), place_within x.end)

  errors_within : (xs : List Fault) → furthest_error (errors_of p s xs) ≤ p.offset + bytes s.chars
  unfolding errors_of top
  errors_within [] = zero-le
  errors_within (x ∷ xs) =
      omega (arith, errors_within xs, span_end (place_in p s x.from) (place_in p s x.to), place_within x.from, place_within x.to)

  -- A token or an error that ends where its segment ends.
  module _ (some : 1 ≤ length s.chars) where
    piece_reaches : (xs : List Piece) → length s.chars ≤ last_end xs → p.offset + bytes s.chars ≤ furthest (tokens_of p s xs)
    unfolding tokens_of top
    piece_reaches [] l = absurd (omega arith)
    piece_reaches (x ∷ xs) l =
        ⊎_elim (λ q. omega (arith, span_end p (place_in p s x.end), place_last x.end q))
        (λ q. omega (arith, piece_reaches xs (omega arith))) (le_or_lt (length s.chars) x.end)

    fault_reaches : (xs : List Fault) → length s.chars ≤ last_to xs → p.offset + bytes s.chars ≤ furthest_error (errors_of p s xs)
    unfolding errors_of top
    fault_reaches [] l = absurd (omega arith)
    fault_reaches (x ∷ xs) l =
        ⊎_elim (λ q. omega (arith, span_end (place_in p s x.from) (place_in p s x.to), place_last x.to q))
        (λ q. omega (arith, fault_reaches xs (omega arith))) (le_or_lt (length s.chars) x.to)

    marked_reaches : Marked s
        → p.offset + bytes s.chars ≤ max (furthest (tokens_of p s s.pieces)) (furthest_error (errors_of p s s.faults))
    marked_reaches m =
        ⊎_elim (λ q. omega (arith, piece_reaches s.pieces q)) (λ q. omega (arith, fault_reaches s.faults (omega arith)))
        (le_or_lt (length s.chars) (last_end s.pieces))

  -- What is in front of `r`.
  behind_furthest : (r : Lexed) → furthest (behind p s r).body ≡ max (furthest (tokens_of p s s.pieces)) (furthest r.body)
  behind_furthest r = top_append (λ (t : Token). t.span.end) (tokens_of p s s.pieces) r.body

  behind_furthest_error : (r : Lexed)
      → furthest_error (behind p s r).errors ≡ max (furthest_error (errors_of p s s.faults)) (furthest_error r.errors)
  behind_furthest_error r = top_append (λ (e : TokenizeError). e.span.end) (errors_of p s s.faults) r.errors

  behind_fives : (r : Lexed) → error_fives (behind p s r).errors ≡ fault_fives s.faults + error_fives r.errors
  behind_fives r =
      omega (arith, fives_append (λ (e : TokenizeError). e.kind) (errors_of p s s.faults) r.errors, placed_fives p s s.faults)

-- ── The whole text ──

-- Nothing ends behind the end of the text.
abbrev Ended : Position → Lexed → Type 0
Ended p r = (p.offset ≤ r.stop.offset) × (furthest r.body ≤ r.stop.offset) × (furthest_error r.errors ≤ r.stop.offset)

place_ended : (p : Position) (ss : List Segment) → Ended p (place p ss)
unfolding place top
place_ended p [] = (omega arith, zero-le, zero-le)
place_ended p (s ∷ ss) =
    let r = place (after p s) ss in
    let h = place_ended (after p s) ss in (
      omega (arith, after_offset p s),
      omega (arith, h.1, after_offset p s, behind_furthest p s r, tokens_within p s s.pieces),
      omega (arith, h.2, after_offset p s, behind_furthest_error p s r, errors_within p s s.faults),
    )

-- Where all that is left belongs to the segment before.
pub skip_all : (k : ℕ) (cs : Text) → length cs ≤ k → segments k cs ≡ []
unfolding segments
skip_all k [] h = refl
skip_all (suc k) (c ∷ cs) h = skip_all k cs (omega arith)
skip_all zero (c ∷ cs) h = absurd (omega arith)

-- Behind a first segment that takes all the text.
rest_none : (c : Char) (cs : Text) → (segment (c ∷ cs)).chars ≡ c ∷ cs → segments (size_behind_first (segment (c ∷ cs)).chars) cs ≡ []
rest_none c cs e =
    let size : length cs ≤ size_behind_first (segment (c ∷ cs)).chars = rw e (omega arith) in
    skip_all (size_behind_first (segment (c ∷ cs)).chars) cs size

-- A token or an error ends at the end of `r'`, or `r'` has more errors 5 than `r`.
abbrev Told : Lexed → Lexed → Type 0
Told r r' =
    (r'.stop.offset ≤ max (furthest r'.body) (furthest_error r'.errors))
    ⊎ (error_fives r.errors < error_fives r'.errors)

behind_told : (p : Position) (s : Segment) (r r' : Lexed) → Told r r' → Told (behind p s r) (behind p s r')
behind_told p s r r' (inl e) = inl (omega (arith, behind_furthest p s r', behind_furthest_error p s r'))
behind_told p s r r' (inr e) = inr (omega (arith, behind_fives p s r, behind_fives p s r'))

-- What is lexed behind the first segment of `c ∷ cs`, with more text `d` at the end.
abbrev rest_of : Position → Char → Text → Text → Lexed
rest_of p c cs d = lex (size_behind_first (segment (c ∷ cs)).chars) (after p (segment (c ∷ cs))) (cs ++ d)

-- The first segment is open.
open_told : (p : Position) (c : Char) (cs : Text) → out (segment (c ∷ cs)) ≡ true → Told (lex 0 p (c ∷ cs)) (lex 0 p (c ∷ (cs ++ Z)))
unfolding segments place fives
open_told p c cs o = ⊎_map swallowed broken (segment_tells c cs o)
  where
    s : Segment
    s = segment (c ∷ cs)

    s' : Segment
    s' = segment (c ∷ (cs ++ Z))

    swallowed : Swallows c cs s'
        → (lex 0 p (c ∷ (cs ++ Z))).stop.offset ≤ max (furthest (lex 0 p (c ∷ (cs ++ Z))).body) (furthest_error (lex 0 p (c ∷ (cs ++ Z))).errors)
    swallowed w =
        let r : Lexed = place (after p s') [] in
        let long : 1 ≤ length s'.chars = rw w.0 (omega arith) in
        rw (rest_none c (cs ++ Z) w.0)
        (omega (arith, after_offset p s', marked_reaches p s' long w.1, behind_furthest p s' r, behind_furthest_error p s' r))

    broken : Breaks s s' → error_fives (lex 0 p (c ∷ cs)).errors < error_fives (lex 0 p (c ∷ (cs ++ Z))).errors
    broken br =
        rw (rest_none c cs (open_takes_all c cs s (segment_takes c cs) o))
        (omega (arith, br, behind_fives p s (place (after p s) []), behind_fives p s' (place (after p s') (segments (size_behind_first s'.chars) (cs ++ Z)))))

-- The first segment is closed.
closed_told : (p : Position) (c : Char) (cs : Text) → out (segment (c ∷ cs)) ≡ false
    → Told (lex (size_behind_first (segment (c ∷ cs)).chars) (after p (segment (c ∷ cs))) cs) (rest_of p c cs Z)
    → Told (lex 0 p (c ∷ cs)) (lex 0 p (c ∷ (cs ++ Z)))
unfolding segments place
closed_told p c cs e h =
    rw (segment_same [] c cs e)
    (behind_told p (segment (c ∷ cs)) (lex (size_behind_first (segment (c ∷ cs)).chars) (after p (segment (c ∷ cs))) cs) (rest_of p c cs Z) h)

lex_told : (k : ℕ) (p : Position) (cs : Text) → k ≤ length cs → (lex k p cs).open_end ≡ true → Told (lex k p cs) (lex k p (cs ++ Z))
unfolding segments place
lex_told k p [] h o = closed_not o
lex_told (suc k) p (c ∷ cs) h o = lex_told k p cs (omega arith) o
lex_told zero p (c ∷ cs) h o =
    go (out s) refl o (λ q. lex_told (size_behind_first s.chars) (after p s) cs (size_fits c cs) q)
  where
    s : Segment
    s = segment (c ∷ cs)

    r : Lexed
    r = lex (size_behind_first s.chars) (after p s) cs

    go : (b : Bool) → out s ≡ b → (b || r.open_end) ≡ true → (r.open_end ≡ true → Told r (rest_of p c cs Z))
        → Told (lex 0 p (c ∷ cs)) (lex 0 p (c ∷ (cs ++ Z)))
    go true e q ih = open_told p c cs e
    go false e q ih = closed_told p c cs e (ih q)

-- With a line feed behind an open text, the ends of the tokens or the errors differ.
pub open_parts : (A : Text) → (lexed A).open_end ≡ true
    → furthest (lexed (A ++ Z)).body ≡ furthest (lexed A).body → (lexed (A ++ Z)).errors ≡ (lexed A).errors → ⊥
open_parts A o same_ends same_errors = ⊎_elim far more (lex_told 0 origin A zero-le o)
  where
    r' : Lexed
    r' = lexed (A ++ Z)

    longer : bytes (A ++ Z) ≡ bytes A + 1
    longer = bytes_append A Z ∙ (unfold bytes width in refl)

    far : r'.stop.offset ≤ max (furthest r'.body) (furthest_error r'.errors) → ⊥
    far h =
        let ended = place_ended origin (segments 0 A) in
        omega (arith, h, ended.1, ended.2, stop_offset A, stop_offset (A ++ Z), longer, same_ends, ap furthest_error same_errors)

    more : error_fives (lexed A).errors < error_fives r'.errors → ⊥
    more h = omega (arith, ap error_fives same_errors)

-- ── Demand 3 over characters ──

empty_parts : (A : Text) → (lexed A).open_end ≡ true → TextsJoin A [] → ⊥
unfolding tokens errors place segments
empty_parts A o j = open_parts A o (ap furthest same_body) (j.errors_join ∙ append-nil (lexed A).errors)
  where
    same_body : (lexed (A ++ Z)).body ≡ (lexed A).body
    same_body =
        sym (drop_eof (lexed (A ++ Z)).body (eof (lexed (A ++ Z)).stop)) ∙ (ap drop_last j.tokens_join
        ∙ (drop_eof (drop_last (tokens A)) (shift_token (bytes A) (lexed A).stop.line (eof origin)) ∙ drop_eof (lexed A).body (eof (lexed A).stop)))

-- A text is closed exactly when, whatever the second, the two join.
pub closed_exactly : (A : Text) → (closed A ≡ true) ↔ ((B : Text) → TextsJoin A B)
unfolding closed
closed_exactly A = (λ c B. closed_joins A B c, λ j. go (lexed A).open_end refl (j []))
  where
    go : (b : Bool) → (lexed A).open_end ≡ b → TextsJoin A [] → not b ≡ true
    go true e j = absurd (empty_parts A e j)
    go false e j = refl
