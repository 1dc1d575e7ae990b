-- Laws of the walk over the lines of a doc comment. Assumes nothing.
use Rattle.std.specs.Prelude.{Option, Some, None, is_some}
use mathlib.Core.Path.{◌≡◌, refl, sym, ◌∙◌, ap, ap₂, subst}
use mathlib.Core.Bool.{Bool, true, false, false≢true}
use mathlib.Core.List.{List, [], ◌∷◌, ◌++◌}
use Prim.Native.Nat.{ℕ, suc, ◌+◌, ◌-◌, ◌≤◌, ◌<◌}
use native.Mathlib.Omega.{arith}
use borrow.Author.Tests.{eq-eqb, ne_eqb, eqb-true, eqb-false}
use lib.ListN.{length, replicate, drop, length-append}
use lib.Seq.{slice, slice_empty, length-slice}
use Rattle.characters.specs.Choice.{◌is◌}
use Rattle.characters.specs.Utf8.{encode_char, encode, chars_at, chars_of, bytes}
use Rattle.characters.proofs.Widths.{encode_one}
use Rattle.characters.proofs.Characters.{chars_start}
use Rattle.characters.proofs.Texts.{encode_length, text_front}
use Rattle.rules.specs.Text.{Text, LF}
use Rattle.rules.specs.Docs.{clean_line, clean_doc}
use Rattle.rules.proofs.Sizes.{cleaner_bytes}
use Rattle.doc_lines.specs.Lines.{LineAt}
use Rattle.doc_lines.specs.declared.Line.{Line}
use Rattle.docs.specs.Texts.{line_text, feeds_after, lines_text, lines_from}
use Rattle.docs.proofs.Joining.{clean_lines, clean_text}
use Rattle.docs.proofs.Cleaning.{empty_slice, feeds_one, feeds_none, feeds_more, line_bytes_lem}
use Rattle.text_parts.specs.Lines.{line_left, lines_behind, text_left, left_size, GoodLine, GoodCursor, at_line, Passed, Begun, BehindLine, GoesOn}
use Rattle.text_parts.specs.declared.Part.TheVariants as part
use Rattle.text_parts.specs.declared.lines.Cursor.{Cursor}
use Rattle.text_parts.proofs.Feedless.{line_feedless, nothing_feedless}

-- The bytes of the lines from a place on, behind so many line feeds.
abbrev ahead : List ℕ → ℕ → ℕ → List ℕ
ahead s k at = encode (lines_text k (clean_lines (chars_at s at)))

-- ── What is left ──

module _ (s : List ℕ) (c : Cursor) where
  line_none : c.from ≡ c.to → line_left s c ≡ []
  unfolding line_left
  line_none e = rw (eq-eqb c.from c.to e)

  line_some : c.from < c.to → line_left s c ≡ replicate c.feeds LF ++ slice c.from c.to s
  unfolding line_left
  line_some h = rw (ne_eqb c.from c.to (λ e. omega arith))

  behind_none : c.next ≡ None → lines_behind s c ≡ []
  unfolding lines_behind lines_text encode
  behind_none e = rw e

  behind_full : (n : ℕ) → c.next ≡ Some n → c.from < c.to → lines_behind s c ≡ ahead s 1 n
  unfolding lines_behind
  behind_full n e h =
      rw e (ap (λ (k : ℕ). ahead s k n) (sym (feeds_one c.feeds c.from c.to (λ e. omega arith))))

  behind_empty : (n : ℕ) → c.next ≡ Some n → c.from ≡ c.to → lines_behind s c ≡ ahead s (feeds_after c.feeds true) n
  unfolding lines_behind
  behind_empty n e h = rw (e, eq-eqb c.from c.to h)

  left_is : text_left s c ≡ line_left s c ++ lines_behind s c
  unfolding text_left
  left_is = refl

  -- Where the cursor stands at the end, nothing is left.
  pub left_over : GoodCursor s c → c.from ≡ c.to → text_left s c ≡ []
  left_over g e = go c.next refl
    where
      go : (next : Option ℕ) → c.next ≡ next → text_left s c ≡ []
      go None f = left_is ∙ ap₂ (λ (a b : List ℕ). a ++ b) (line_none e) (behind_none f)
      go (Some n) f = let h = g.full n f in absurd (omega arith)

-- ── A line ──

module _ (s : List ℕ) (at : ℕ) (l : Line) (k : ℕ) (a : LineAt clean_line true s at l) where
  at_good : k ≤ l.to → GoodLine s (at_line l k)
  at_good h =
      record {
        forth = a.forth;
        inside = a.inside;
        goes = a.goes;
        within = a.within;
        few = h;
        plain = line_feedless s at l a;
      }

  line_text_lem : line_text k (slice l.from l.to s) ≡ line_left s (at_line l k)
  unfolding line_text line_left
  line_text_lem = rw (empty_slice s l.from l.to a.forth a.inside)

  rest_text : encode (lines_text (feeds_after k (l.from is l.to)) (lines_from s l.next)) ≡ lines_behind s (at_line l k)
  unfolding lines_behind
  rest_text = refl

  at_left : text_left s (at_line l k) ≡ ahead s k at
  at_left = left_is s (at_line l k) ∙ sym (line_bytes_lem s at l a k ∙ ap₂ (λ (x y : List ℕ). x ++ y) line_text_lem rest_text)

-- ── Past empty lines ──

-- From the cursor `c` to `d`, past empty lines: the same is left.
pub record Passing (s : List ℕ) (c d : Cursor) : Type 0 where
  pub good : GoodLine s d
  pub same : text_left s d ≡ text_left s c
  pub none : c.feeds ≡ 0 → d.feeds ≡ 0
  pub some : 0 < c.feeds → 0 < d.feeds

pub pass_start : (s : List ℕ) (c : Cursor) → GoodLine s c → Passing s c c
pass_start s c g = record { good = g; same = refl; none = λ e. e; some = λ h. h }

module _ (s : List ℕ) (c d : Cursor) (p : Passing s c d) where
  -- One empty line more.
  pub pass_more : d.to ≤ d.from → (n : ℕ) → d.next ≡ Some n → (l : Line) (k : ℕ) (e : Cursor) → LineAt clean_line true s n l
      → k ≡ feeds_after d.feeds true → e ≡ at_line l k → Passing s c e
  pass_more h n f l k e a v q =
      let g = p.good in
      let x : d.from ≡ d.to = omega (arith, g.forth) in
      let few : k ≤ d.feeds + 1 = feeds_most (d.feeds is 0) refl in
      subst (Passing s c) (sym q) (record {
        good = at_good s n l k a (omega (arith, few, g.few, g.goes n f, a.begins, a.forth));
        same =
            at_left s n l k a ∙ ap (λ (m : ℕ). ahead s m n) v ∙ sym (behind_empty s d n f x)
            ∙ sym (left_is s d ∙ ap (λ (b : List ℕ). b ++ lines_behind s d) (line_none s d x))
            ∙ p.same;
        none = λ z. v ∙ sym (feeds_none d.feeds 0 0 refl (p.none z));
        some = λ z. let y = p.some z in omega (arith, v, feeds_more d.feeds 0 0 refl (λ w. omega arith));
      })
    where
      feeds_most : (b : Bool) → (d.feeds is 0) ≡ b → k ≤ d.feeds + 1
      feeds_most true w = omega (arith, v, feeds_none d.feeds 0 0 refl (eqb-true d.feeds 0 w))
      feeds_most false w = omega (arith, v, feeds_more d.feeds 0 0 refl (eqb-false d.feeds 0 w))

  -- A line that is not empty, or the last one.
  pub pass_end : ((n : ℕ) → d.next ≡ Some n → d.from < d.to) → Passed s c d
  pass_end f = record { good = record { line = p.good; full = f }; same = p.same; none = p.none; some = p.some }

-- ── The beginning ──

pub begin_good : (s : List ℕ) (l : Line) (c : Cursor) → LineAt clean_line true s 0 l → c ≡ at_line l 0 → GoodLine s c
begin_good s l c a e = subst (GoodLine s) (sym e) (at_good s 0 l 0 a (omega arith))

pub begin_at_lem : (s : List ℕ) (l : Line) (c r : Cursor) → LineAt clean_line true s 0 l → c ≡ at_line l 0 → Passed s c r → Begun s r
begin_at_lem s l c r a e p =
    record {
      good = p.good;
      text =
          p.same ∙ ap (text_left s) e ∙ at_left s 0 l 0 a
          ∙ sym (ap encode (clean_text (chars_of s) ∙ ap (λ (t : Text). lines_text 0 (clean_lines t)) (sym (chars_start s))));
      none = p.none (ap (λ (d : Cursor). d.feeds) e);
    }

-- It has no more bytes than the part.
pub begin_small : (s : List ℕ) (r : Cursor) → Begun s r → left_size s r ≤ length s
begin_small s r b =
    let cs = chars_of s in
    let x = ap length b.text ∙ encode_length (clean_doc cs) in
    let y = ap length (text_front s) ∙ length-append (encode cs) (drop (bytes cs) s) in
    omega (arith, x, y, encode_length cs, cleaner_bytes cs)

-- ── Behind a line ──

module _ (s : List ℕ) (c : Cursor) (g : GoodCursor s c) where
  abbrev stopped : Cursor
  stopped = record c { from = c.to; feeds = 0 }

  pub behind_last : c.next ≡ None → BehindLine s c stopped
  behind_last e =
      let i = g.line in
      let good : GoodCursor s stopped
      = record {
        line =
            record {
              forth = omega arith;
              inside = i.inside;
              goes = λ n f. absurd (false≢true (ap is_some (sym e ∙ f)));
              within = i.within;
              few = omega arith;
              plain = rw (slice_empty c.to s) nothing_feedless;
            };
        full = λ n f. absurd (false≢true (ap is_some (sym e ∙ f)));
      } in
      record {
        good = good;
        text = left_over s stopped good refl ∙ sym (behind_none s c e);
        waits = λ h. absurd (omega arith);
      }

  pub behind_more : (n : ℕ) → c.next ≡ Some n → (l : Line) (d r : Cursor) → LineAt clean_line true s n l → d ≡ at_line l 1 → Passed s d r
      → BehindLine s c r
  behind_more n f l d r a e p =
      record {
        good = p.good;
        text = p.same ∙ ap (text_left s) e ∙ at_left s n l 1 a ∙ sym (behind_full s c n f (g.full n f));
        waits = λ _. p.some (omega (arith, ap (λ (d : Cursor). d.feeds) e));
      }

  -- There is a place for the line feed before it.
  pub behind_good : (n : ℕ) → c.next ≡ Some n → (l : Line) (d : Cursor) → LineAt clean_line true s n l → d ≡ at_line l 1 → GoodLine s d
  behind_good n f l d a e =
      subst (GoodLine s) (sym e) (at_good s n l 1 a (omega (arith, g.line.goes n f, a.begins, a.forth)))

  -- ── The next part ──

  full : (c.from ≡ c.to → ⊥) → c.from < c.to
  full n = let h = g.line.forth in omega arith

  -- What is left is longer than what is left behind it.
  shorter : (x : List ℕ) (d : Cursor) → text_left s c ≡ x ++ text_left s d → 1 ≤ length x → left_size s d < left_size s c
  shorter x d e h = omega (arith, ap length e ∙ length-append x (text_left s d))

  abbrev fewer : Cursor
  fewer = record c { feeds = c.feeds - 1 }

  -- A line feed that waits.
  pub next_feed : (c.from ≡ c.to → ⊥) → 0 < c.feeds → GoesOn s c (part.Char LF) fewer
  next_feed n h =
      let i = g.line in
      let k = full n in
      let m : c.feeds ≡ suc (c.feeds - 1) = omega arith in
      let t : text_left s c ≡ encode_char LF ++ text_left s fewer
      = left_is s c
      ∙ ap₂ (λ (x y : List ℕ). x ++ y)
      (line_some s c k ∙ ap (λ (n : ℕ). replicate n LF ++ slice c.from c.to s) m ∙ ap (λ (l : List ℕ). LF ∷ l) (sym (line_some s fewer k)))
      (same_behind k c.next refl)
      ∙ sym (ap₂ (λ (x y : List ℕ). x ++ y) (encode_one LF (omega arith)) (left_is s fewer)) in
      record {
        here = k;
        text = t;
        good =
            record {
              line =
                  record {
                    forth = i.forth;
                    inside = i.inside;
                    goes = i.goes;
                    within = i.within;
                    few = omega (arith, i.few);
                    plain = i.plain;
                  };
              full = g.full;
            };
        inside = omega arith;
        kind = (refl, k);
        feed = λ _. refl;
        line = λ e. absurd (omega arith);
        less = shorter (encode_char LF) fewer t (omega (arith, ap length (encode_one LF (omega arith))));
      }
    where
      same_behind : c.from < c.to → (next : Option ℕ) → c.next ≡ next → lines_behind s c ≡ lines_behind s fewer
      same_behind k None e = behind_none s c e ∙ sym (behind_none s fewer e)
      same_behind k (Some n) e = behind_full s c n e k ∙ sym (behind_full s fewer n e k)

  -- The line.
  pub next_line : (c.from ≡ c.to → ⊥) → c.feeds ≤ 0 → (d : Cursor) → BehindLine s c d
      → GoesOn s c (part.Bytes c.from c.to) d
  next_line n h d b =
      let i = g.line in
      let k = full n in
      let z : c.feeds ≡ 0 = omega arith in
      let t : text_left s c ≡ slice c.from c.to s ++ text_left s d
      = left_is s c
      ∙ ap₂ (λ (x y : List ℕ). x ++ y)
      (line_some s c k ∙ ap (λ (n : ℕ). replicate n LF ++ slice c.from c.to s) z) (sym b.text) in
      record {
        here = k;
        text = t;
        good = b.good;
        inside = (k, i.inside);
        kind = (i.plain, b.waits);
        feed = λ e. absurd (omega arith);
        line = λ _. refl;
        less = shorter (slice c.from c.to s) d t (omega (arith, length-slice c.from c.to s i.inside));
      }
