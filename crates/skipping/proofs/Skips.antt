-- White space and comments one after another: nothing is yielded, but the error of a comment that is not closed. Assumes nothing.
use Rattle.std.specs.Prelude.{if◌then◌else◌}
use mathlib.Core.Path.{◌≡◌, refl, sym, ◌∙◌, ap, ap₂, subst}
use mathlib.Core.Bool.{Bool, true, false, not, false≢true}
use mathlib.Core.List.{List, [], ◌∷◌}
use mathlib.Core.Logic.{inl, ⊎_elim}
use Prim.Native.Nat.{ℕ, ◌-◌, ◌≤◌, ◌<◌}
use lib.ListN.{length, get_or, get_or-eq_default}
use native.Mathlib.Omega.{arith}
use borrow.Author.Tests.{eqb-true, eqb-false, eq-eqb, ne_eqb}
use Rattle.characters.specs.Choice.{◌is◌, within}
use Rattle.characters.specs.Space.{is_white}
use Rattle.characters.specs.Utf8.{chars_at}
use Rattle.characters.proofs.Choice.{if_all, le_or_lt}
use Rattle.characters.proofs.Decoding.{decode_ascii}
use Rattle.characters.proofs.Characters.{chars_ascii, chars_past_lem}
use Rattle.characters.proofs.Spaces.{white_alone}
use Rattle.spans.specs.declared.Position.{Position}
use Rattle.rules.specs.Text.{Char, Text, LF}
use Rattle.rules.specs.Scan.{next, Part, run, takes, nothing}
use Rattle.rules.specs.Tables.{UnterminatedBlockComment}
use Rattle.rules.specs.Tokens.{Token, TokenizeError}
use Rattle.rules.specs.Lexer.{advance, advances, skipped_line_column, skip, is_space, tokens_of, Lexed}
use Rattle.cursor.specs.Cursor.{and_then, left, Yields}
use Rattle.cursor.specs.declared.Cursor.TheVariants.{Outside}
use Rattle.cursor.proofs.Steps.{skips_white}
use Rattle.bridge.specs.Bridge.{Within, Reach, Low, exactly, Cut, onward}
use Rattle.bridge.proofs.Tests.{low_is}
use Rattle.bridge.proofs.Bytes.{next_test}
use Rattle.bridge.proofs.Reaches.{next_char}
use Rattle.output.specs.Writing.{Put}
use Rattle.records.specs.Layout.{error_bytes}
use Rattle.walks.specs.Errors.{unclosed}
use Rattle.walks.specs.Segments.{segment_at, errors_at}
use Rattle.walks.specs.Openings.{opens_line, opens_block}
use Rattle.skipping.specs.Skips.{is_skipped, SomeWhite, WhiteAt, PastComment, SkippedAt}
use Rattle.walks.specs.declared.Closing.{Closing}
use Rattle.walks.proofs.Errors.{closed_none, put_no, unclosed_size}
use Rattle.walks.proofs.Segments.{segment_yields}
use Rattle.skipping.proofs.Stops.{stops_here}
use Rattle.walks.proofs.Walks.{cut_onward}

-- ── The position behind white space ──

module _ (p : Position) (c : Char) where
  -- A line feed leaves the column that the rules name.
  pub skip_feed : c ≡ LF → record { offset = (advance p c).offset; line = (advance p c).line; col = 2 } ≡ skip p c
  unfolding advance skip skipped_line_column
  skip_feed e = rw (eq-eqb c LF e)

  pub skip_other : (c ≡ LF → ⊥) → advance p c ≡ skip p c
  unfolding advance skip
  skip_other e = rw (ne_eqb c LF e)

  pub skip_offset : (skip p c).offset ≡ (advance p c).offset
  unfolding advance skip
  skip_offset =
      if_all (λ (x : Position). x.offset ≡ (advance p c).offset) (c is LF) (λ e. rw e) (λ e. rw e)

-- ── White space ──

-- From `p` to `q` nothing is yielded.
pub record Gap (s : List ℕ) (p q : Position) : Type 0 where
  pub yields : Yields (Outside p) (chars_at s p.offset) [] [] false (Outside q) (chars_at s q.offset)
  pub within : Within s q
  pub forth : p.offset ≤ q.offset

pub gap_nil : (s : List ℕ) (p : Position) → Within s p → Gap s p p
gap_nil s p w = record { yields = refl; within = w; forth = omega arith }

pub gap_join : (s : List ℕ) (p q r : Position) → Gap s p q → Gap s q r → Gap s p r
gap_join s p q r x y =
    record { yields = x.yields ∙ y.yields; within = y.within; forth = omega (arith, x.forth, y.forth) }

module _ (s : List ℕ) (p q : Position) (c : ℕ) (r : Reach s p (c ∷ []) q) where
  pub moved_is : q ≡ advance p c
  unfolding advances
  moved_is = r.moved

  behind_within : Within s (skip p c)
  behind_within = go (c is LF) refl
    where
      go : (b : Bool) → (c is LF) ≡ b → Within s (skip p c)
      go true e =
          let v = r.within in
          let f = ap {B = Position} (λ (x : Position). record { offset = x.offset; line = x.line; col = 2 }) moved_is in
          subst (λ (x : Position). Within s x) (f ∙ skip_feed p c (eqb-true c LF e))
          (record { size = v.size; inside = v.inside; valid = v.valid; lines = v.lines; columns = omega arith })
      go false e = subst (λ (x : Position). Within s x) (moved_is ∙ skip_other p c (eqb-false c LF e)) r.within

  pub behind_offset : (skip p c).offset ≡ q.offset
  behind_offset = skip_offset p c ∙ ap (λ (x : Position). x.offset) (sym moved_is)

  -- One character of white space.
  pub white_gap : is_white c ≡ true → p.offset < q.offset → Gap s p (skip p c)
  white_gap w h =
      record {
        yields = ap (left (Outside p)) r.chars
            ∙ (skips_white p c (chars_at s q.offset) w ∙ ap (λ (n : ℕ). left (Outside (skip p c)) (chars_at s n)) (sym behind_offset));
        within = behind_within;
        forth = omega (arith, behind_offset);
      }

  pub stops_at : is_white c ≡ false → next is_white (chars_at s p.offset) ≡ false
  unfolding next
  stops_at e = ap (next is_white) r.chars ∙ e

pub stops_end : (cs : Text) → cs ≡ [] → next is_white cs ≡ false
unfolding next
stops_end cs e = ap (next is_white) e

pub gap_white : (s : List ℕ) (p q : Position) → Gap s p q → next is_white (chars_at s q.offset) ≡ false → WhiteAt s p q
gap_white s p q g e = record { yields = g.yields; stops = e; within = g.within; forth = g.forth }

pub white_is_gap : (s : List ℕ) (p q : Position) → WhiteAt s p q → Gap s p q
white_is_gap s p q w = record { yields = w.yields; within = w.within; forth = w.forth }

-- ── Blanks ──

pub blank_low : Low 11 (exactly 32)
blank_low = low_is 11 32 (omega arith) (omega arith)

-- From `p` nothing is yielded where the part `a` of a text is taken.
abbrev Passed : Position → Text → Part → Type 0
Passed p cs a = left (Outside p) cs ≡ left (Outside (advances p a.taken)) a.left

blanks_passed : (p : Position) (cs : Text) → Passed p cs (run (exactly 32) cs)
unfolding run advances
blanks_passed p [] = refl
blanks_passed p (c ∷ cs) = go (c is 32) refl (blanks_passed (advance p c) cs)
  where
    go : (b : Bool) → (c is 32) ≡ b → Passed (advance p c) cs (run (exactly 32) cs)
        → Passed p (c ∷ cs) (if b then takes c (run (exactly 32) cs) else nothing (c ∷ cs))
    go true e y =
        let x = eqb-true c 32 e in
        skips_white p c cs (white_alone c (inl x)) ∙ (ap (λ (q : Position). left (Outside q) cs) (sym (skip_other p c (λ z. omega arith))) ∙ y)
    go false e y = refl

module _ (s : List ℕ) (f p : Position) (g : Gap s f p) (to : ℕ) (q : Position) (k : Cut s p.offset (run (exactly 32) (chars_at s p.offset)) to)
    (x : q ≡ onward p (to - p.offset)) where
  -- Past the blanks at `p`.
  pub gap_blanks : Gap s f q
  gap_blanks =
      let (r, l) = cut_onward s p (run (exactly 32) (chars_at s p.offset)) to q g.within k x in
      gap_join s f p q g (record {
        yields = blanks_passed p (chars_at s p.offset) ∙ ap₂ (λ (z : Position) (t : Text). left (Outside z) t) (sym r.moved) (sym l);
        within = r.within;
        forth = omega (arith, k.forth, ap (λ (z : Position). z.offset) x);
      })

  pub blanks_place : q.offset ≡ to
  blanks_place = let f₁ = k.forth in ap (λ (z : Position). z.offset) x ∙ omega arith

  -- Where none stands behind them.
  pub blanks_end : next is_white (chars_at s q.offset) ≡ false → WhiteAt s f q
  blanks_end e = gap_white s f q gap_blanks e

-- ── White space of one byte, and beyond ASCII ──

pub some_gap : (s : List ℕ) (p q : Position) → SomeWhite s p q → Gap s p q
some_gap s p q x = record { yields = x.yields; within = x.within; forth = x.forth }

pub gap_some : (s : List ℕ) (p q : Position) → Gap s p q → (q.offset ≡ p.offset → next is_white (chars_at s p.offset) ≡ false) → SomeWhite s p q
gap_some s p q g e = record { yields = g.yields; stops = e; within = g.within; forth = g.forth }

white_zero : (c : ℕ) → c ≡ 0 → is_white c ≡ false
unfolding is_white within
white_zero c e = rw e

module _ (s : List ℕ) (p : Position) (w : Within s p) (l : get_or s p.offset 0 ≤ 0x7F) where
  abbrev byte : ℕ
  byte = get_or s p.offset 0

  end_none : length s ≤ p.offset → is_white byte ≡ false
  end_none h = white_zero byte (get_or-eq_default s 0 h)

  pub byte_none : is_white byte ≡ false → next is_white (chars_at s p.offset) ≡ false
  unfolding next
  byte_none e =
      ⊎_elim (λ h. ap (next is_white) (chars_past_lem s p.offset h)) (λ h. ap (next is_white) (chars_ascii s p.offset h l) ∙ e)
      (le_or_lt (length s) p.offset)

  pub byte_reach : (q : Position) → is_white byte ≡ true → q ≡ advance p byte → Reach s p (byte ∷ []) q × (p.offset < q.offset)
  byte_reach q t m =
      ⊎_elim (λ h. absurd (false≢true (sym (end_none h) ∙ t)))
      (λ h. next_char s p q byte 1 w (decode_ascii s p.offset h l) m)
      (le_or_lt (length s) p.offset)

module _ (s : List ℕ) (p q : Position) (c : ℕ) (r : Reach s p (c ∷ []) q) (l : 0x80 ≤ get_or s p.offset 0) where
  wide_feed : c ≡ LF → ⊥
  unfolding next
  wide_feed e =
      let n : next (exactly LF) (chars_at s p.offset) ≡ true = ap (next (exactly LF)) r.chars ∙ eq-eqb c LF e in
      let b : get_or s p.offset 0 ≡ LF = eqb-true (get_or s p.offset 0) LF (next_test (exactly LF) (low_is 1 LF (omega arith) (omega arith)) s p.offset true n) in
      omega arith

  pub wide_gap : is_white c ≡ true → p.offset < q.offset → Gap s p q
  wide_gap t h = subst (Gap s p) (sym (moved_is s p q c r ∙ skip_other p c wide_feed)) (white_gap s p q c r t h)

-- ── Comments ──

module _ (s : List ℕ) (p : Position) (c : Closing) (x : PastComment s p c) where
  abbrev rest : Lexed
  rest = left (Outside c.at) (chars_at s c.at.offset)

  -- The error where the text ran out.
  abbrev open_error : Bool → List TokenizeError
  open_error closed = unclosed closed UnterminatedBlockComment p c.at

  comment_yields : left (Outside p) (chars_at s p.offset) ≡ and_then [] (open_error c.found) (not c.found) rest
  unfolding is_space tokens_of
  comment_yields =
      segment_yields s p c.at (ap is_space x.sort) x.reach
      ∙ ap (λ (ts : List Token). and_then ts (errors_at s p) (segment_at s p).open_end rest) (ap (tokens_of p (segment_at s p)) x.tokens)
      ∙ ap (λ (es : List TokenizeError). and_then [] es (segment_at s p).open_end rest) x.errors
      ∙ ap (λ (o : Bool). and_then [] (open_error c.found) o rest) x.open_end

  -- By whether it is closed.
  pub comment_yields_by : (b : Bool) → c.found ≡ b → left (Outside p) (chars_at s p.offset) ≡ and_then [] (open_error b) (not b) rest
  comment_yields_by b e = comment_yields ∙ ap (λ (d : Bool). and_then [] (open_error d) (not d) rest) e

  pub comment_gap : c.found ≡ true → Gap s p c.at
  comment_gap e =
      let h = x.forth in
      record {
        yields = comment_yields_by true e
            ∙ ap (λ (es : List TokenizeError). and_then [] es false rest) (closed_none true UnterminatedBlockComment p c.at refl);
        within = x.reach.within;
        forth = omega arith;
      }

-- ── What skipping answers ──

-- No more is skipped.
pub skipped_all : (s : List ℕ) (p q : Position) (old b : List ℕ) (used : ℕ) → Gap s p q → next is_white (chars_at s q.offset) ≡ false
    → opens_line (chars_at s q.offset) ≡ false → opens_block (chars_at s q.offset) ≡ false → b ≡ old
    → SkippedAt s p old b used (record { at = q; errors = used; ran_out = false })
skipped_all s p q old b used g w l k f =
    record {
      recorded = [];
      yields = g.yields;
      written = subst (λ (l : List ℕ). Put l b used (error_bytes []) used) f (put_no b used);
      stops = stops_here (chars_at s q.offset) w l k;
      all = λ e. absurd (false≢true e);
      within = g.within;
      forth = g.forth;
      few = omega arith;
    }

empty_stops : (cs : Text) → cs ≡ [] → is_skipped cs ≡ false
unfolding is_skipped
empty_stops cs e = ap is_skipped e

-- The text ran out in a comment.
pub skipped_open : (s : List ℕ) (p q : Position) (c : Closing) (old b new : List ℕ) (used r : ℕ) → Gap s p q → PastComment s q c
    → c.found ≡ false → b ≡ old → Put b new used (error_bytes (unclosed false UnterminatedBlockComment q c.at)) r
    → SkippedAt s p old new used (record { at = c.at; errors = r; ran_out = true })
skipped_open s p q c old b new used r g x e f w =
    let n = x.all e in
    let h = x.forth in
    let k = g.forth in
    record {
      recorded = unclosed false UnterminatedBlockComment q c.at;
      yields = g.yields ∙ comment_yields_by s q c x false e;
      written = subst (λ (l : List ℕ). Put l new used (error_bytes (unclosed false UnterminatedBlockComment q c.at)) r) f w;
      stops = empty_stops (chars_at s c.at.offset) n;
      all = λ _. n;
      within = x.reach.within;
      forth = omega arith;
      few = omega (arith, w.place, unclosed_size false UnterminatedBlockComment q c.at);
    }
