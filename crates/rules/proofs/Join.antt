-- A closed first text, a line feed and a second text: the tokens and errors of the whole. Assumes nothing.
use mathlib.Core.Path.{◌≡◌, refl, sym, ap, ◌∙◌}
use mathlib.Core.Bool.{Bool, true, false, ◌||◌}
use mathlib.Core.List.{List, [], ◌∷◌, ◌++◌, map, map-append, drop_last, append_assoc}
use Prim.Native.Nat.{ℕ, zero, suc, ◌+◌, ◌≤◌, zero-le, suc-le-suc}
use native.Mathlib.Omega.{arith}
use borrow.Author.Tests.{not-true}
use lib.Seq.{drop-append_seam}
use lib.ListN.{length, drop, length-append}
use Rattle.characters.specs.Choice.{within}
use Rattle.characters.specs.Utf8.{width, bytes}
use Rattle.characters.specs.Space.{is_white}
use Rattle.characters.proofs.Texts.{bytes_append}
use Rattle.spans.specs.declared.Position.{Position}
use Rattle.spans.specs.Span.{single}
use Rattle.rules.specs.Text.{Char, Text, LF}
use Rattle.rules.specs.Segment.{Segment}
use Rattle.rules.specs.Comments.{white_space}
use Rattle.rules.specs.Lexer.{segment, size_behind_first, segments, skip, skips, skipped_line_column, is_space, after, tokens_of, errors_of, Lexed, behind, place, lex, origin, lexed, eof, tokens, errors, closed}
use Rattle.rules.specs.Shift.{shift_column, shift_token, shift_error}
use Rattle.rules.proofs.Ahead.{or_left, or_right}
use Rattle.rules.proofs.Kept.{out, segment_same}
use Rattle.rules.proofs.Front.{segment_takes}
use Rattle.rules.proofs.Placed.{after_offset, shift_position, shift_lexed, shift_lex}

-- ── What is behind the first segment ──

-- What is behind the first character of a segment fits into what is behind the first character of the text.
pub size_fits : (c : Char) (cs : Text) → size_behind_first (segment (c ∷ cs)).chars ≤ length cs
size_fits c cs =
    let t = segment_takes c cs in
    rw t.took (omega (arith, ap length t.split, length-append t.more t.rest))

-- The rest of a text behind its first segment.
pub rest_is : (c : Char) (cs : Text) → drop (size_behind_first (segment (c ∷ cs)).chars) cs ≡ (segment_takes c cs).rest
rest_is c cs =
    let t = segment_takes c cs in
    rw t.took (ap (λ x. drop (length t.more) x) (sym t.split) ∙ drop-append_seam t.more t.rest)

-- EOF's offset is the number of bytes.
pub lex_offset : (k : ℕ) (p : Position) (cs : Text) → k ≤ length cs → (lex k p cs).stop.offset ≡ p.offset + bytes (drop k cs)
unfolding segments place bytes
lex_offset zero p [] h = omega arith
lex_offset (suc k) p [] h = absurd (omega arith)
lex_offset (suc k) p (c ∷ cs) h = lex_offset k p cs (omega arith)
lex_offset zero p (c ∷ cs) h =
    let s = segment (c ∷ cs) in
    let t = segment_takes c cs in
    let size = size_behind_first s.chars in
    let ih : (lex size (after p s) cs).stop.offset ≡ (after p s).offset + bytes (drop size cs)
    = lex_offset size (after p s) cs (size_fits c cs) in
    omega (arith, ih, after_offset p s, ap bytes (rest_is c cs), ap bytes t.took, ap bytes t.split, bytes_append t.more t.rest)

pub stop_offset : (A : Text) → (lexed A).stop.offset ≡ bytes A
stop_offset A = lex_offset 0 origin A zero-le ∙ omega arith

-- ── The join ──

-- The line feed between the two texts is white space.
line_feed : (B : Text) → segment (LF ∷ B) ≡ white_space LF
unfolding segment is_white within
line_feed B = refl

-- Where no segment is open, the segments of the first text stay, and the line feed and the segments of the second follow.
pub segments_join : (B : Text) (k : ℕ) (p : Position) (A : Text) → k ≤ length A → (lex k p A).open_end ≡ false
    → segments k (A ++ (LF ∷ B)) ≡ segments k A ++ (white_space LF ∷ segments 0 B)
unfolding segments place white_space
segments_join B zero p [] h o = rw (line_feed B)
segments_join B (suc k) p [] h o = absurd (omega arith)
segments_join B (suc k) p (c ∷ cs) h o = segments_join B k p cs (omega arith) o
segments_join B zero p (c ∷ cs) h o =
    let s = segment (c ∷ cs) in
    let size = size_behind_first s.chars in
    let rest = (lex size (after p s) cs).open_end in
    rw (
      segment_same B c cs (or_left (out s) rest o),
      segments_join B size (after p s) cs (size_fits c cs) (or_right (out s) rest o),
    )

-- The tokens and errors of `a`, and then those of `b`, which ends the text.
abbrev pub joined : Lexed → Lexed → Lexed
joined a b =
    record {
      body = a.body ++ b.body;
      errors = a.errors ++ b.errors;
      open_end = a.open_end || b.open_end;
      stop = b.stop;
    }

pub or_assoc : (a b c : Bool) → (a || (b || c)) ≡ (a || b || c)
or_assoc true b c = refl
or_assoc false b c = refl

pub behind_joined : (p : Position) (s : Segment) (a b : Lexed) → behind p s (joined a b) ≡ joined (behind p s a) b
behind_joined p s a b =
    rw (
      append_assoc (tokens_of p s s.pieces) a.body b.body,
      append_assoc (errors_of p s s.faults) a.errors b.errors,
      or_assoc s.open_end a.open_end b.open_end,
    )

-- Segments one behind another.
pub place_append : (p : Position) (xs ys : List Segment) → place p (xs ++ ys) ≡ joined (place p xs) (place (place p xs).stop ys)
unfolding place
place_append p [] ys = refl
place_append p (x ∷ xs) ys =
    rw (place_append (after p x) xs ys) (behind_joined p x (place (after p x) xs) (place (place (after p x) xs).stop ys))

-- Behind the line feed, the second text begins at the origin, shifted.
new_line : (p : Position) → after p (white_space LF) ≡ shift_position p.offset p.line origin
unfolding after white_space is_space skips skip skipped_line_column width shift_column
new_line p =
    let a : p.offset + 1 ≡ 0 + (p.offset + 1) = omega arith in
    let b : suc p.line ≡ 1 + p.line = omega arith in
    λ i. record { offset = a i; line = b i; col = skipped_line_column }

pub whole : (A B : Text) → (lexed A).open_end ≡ false
    → lexed (A ++ (LF ∷ B)) ≡ joined (lexed A) (shift_lexed (bytes A) (lexed A).stop.line (lexed B))
unfolding place white_space tokens_of errors_of
whole A B o =
    rw (
      segments_join B 0 origin A zero-le o,
      place_append origin (segments 0 A) (white_space LF ∷ segments 0 B),
      new_line (lexed A).stop,
      stop_offset A,
      shift_lex (bytes A) (lexed A).stop.line 0 origin B (suc-le-suc zero-le),
    )

pub drop_eof : {A : Type 0} (xs : List A) (x : A) → drop_last (xs ++ (x ∷ [])) ≡ xs
drop_eof [] x = refl
drop_eof (y ∷ []) x = refl
drop_eof (y ∷ z ∷ ys) x = ap (λ l. y ∷ l) (drop_eof (z ∷ ys) x)

-- The tokens and the errors of `A`, a line feed and `B` are those of `A`, its EOF apart, and then those of `B`, shifted.
pub record TextsJoin (A B : Text) : Type 0 where
  pub tokens_join :
      tokens (A ++ (LF ∷ B)) ≡ drop_last (tokens A) ++ map (shift_token (bytes A) (lexed A).stop.line) (tokens B)
  pub errors_join :
      errors (A ++ (LF ∷ B)) ≡ errors A ++ map (shift_error (bytes A) (lexed A).stop.line) (errors B)

pub closed_joins : (A B : Text) → closed A ≡ true → TextsJoin A B
unfolding closed tokens errors single
closed_joins A B c =
    let o : (lexed A).open_end ≡ false = not-true (lexed A).open_end c in
    let l = (lexed A).stop.line in
    record {
      tokens_join =
          rw (
            whole A B o,
            drop_eof (lexed A).body (eof (lexed A).stop),
            map-append (shift_token (bytes A) l) (lexed B).body (eof (lexed B).stop ∷ []),
          )
          (append_assoc (lexed A).body _ _);
      errors_join = ap (λ (r : Lexed). r.errors) (whole A B o);
    }
