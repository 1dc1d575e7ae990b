-- Walks over the characters of a part, by places. Assumes nothing.
use Rattle.std.specs.Prelude.{if◌then◌else◌, Option, Some, None, is_some}
use mathlib.Core.Path.{◌≡◌, refl, sym, ◌∙◌, ap}
use mathlib.Core.Bool.{Bool, true, false, ◌&&◌, not, and-false, and-true, true≢false, false≢true}
use mathlib.Core.List.{List, [], ◌∷◌, ◌++◌, append-nil, append_assoc}
use Prim.Native.Nat.{ℕ, ◌+◌, ◌≤◌, ◌<◌}
use native.Mathlib.Nat.{add-zero}
use native.Mathlib.Omega.{arith}
use borrow.Author.Tests.{eqb-true, ne_eqb}
use lib.ListN.{length, get_or}
use lib.Seq.{slice, slice_empty}
use Rattle.characters.specs.Choice.{◌is◌}
use Rattle.characters.specs.Space.{is_white}
use Rattle.characters.specs.Utf8.{bytes, encode, chars_at, chars_of, decode_at}
use Rattle.characters.specs.declared.Decoded.TheVariants.{Code}
use Rattle.characters.proofs.Choice.{and_both}
use Rattle.characters.proofs.Widths.{width_bounds}
use Rattle.characters.proofs.Decoding.{placed_code, decode_ascii}
use Rattle.characters.proofs.Characters.{chars_code, chars_start}
use Rattle.characters.proofs.Texts.{bytes_append, chars_slice}
use Rattle.rules.specs.Text.{Char, Text, LF}
use Rattle.rules.specs.Scan.{Part, takes, nothing, run}
use Rattle.rules.specs.Docs.{trim_end, trim, clean_line}
use Rattle.doc_lines.specs.Lines.{CharAt, Skipped, is_star, in_line, is_blank, LineAt}
use Rattle.doc_lines.specs.declared.Line.{Line}
use Rattle.doc_lines.proofs.Trimming.{start_run, end_white, end_solid, clean_run}

-- ── One character ──

pub char_here : (s : List ℕ) (at v n : ℕ) → decode_at s at ≡ Code v n → CharAt s at v (at + n)
char_here s at v n e =
    let p = placed_code s at v n e in
    record {
      chars = chars_code s at v n e;
      place = ap (λ (m : ℕ). at + m) p.width_is;
      inside = p.inside;
    }

pub byte_here : (s : List ℕ) (at : ℕ) → at < length s → get_or s at 0 < 0x80 → CharAt s at (get_or s at 0) (at + 1)
byte_here s at h l = char_here s at (get_or s at 0) 1 (decode_ascii s at h (omega arith))

-- The tests of a character.
pub ends_feed : (c : Char) → c is LF ≡ not (in_line true c)
unfolding in_line
ends_feed c = sym (not_not (c is LF))
  where
    not_not : (b : Bool) → not (not b) ≡ b
    not_not true = refl
    not_not false = refl

pub ends_never : (c : Char) → false ≡ not (in_line false c)
unfolding in_line
ends_never c = refl

-- What a test says that says whether a character ends the line.
pub in_line_lem : (b x : Bool) → x ≡ not b → x ≡ false → b ≡ true
in_line_lem true x e f = refl
in_line_lem false x e f = absurd (false≢true (sym f ∙ e))

pub out_of_line : (b x : Bool) → x ≡ not b → x ≡ true → b ≡ false
out_of_line true x e f = absurd (true≢false (sym f ∙ e))
out_of_line false x e f = refl

pub blank_ends : (split : Bool) (c : Char) → in_line split c ≡ false → false ≡ is_blank split c
unfolding is_blank
blank_ends split c e = rw e (sym (and-false (is_white c)))

pub blank_white : (split : Bool) (c : Char) (w : Bool) → in_line split c ≡ true → w ≡ is_white c → w ≡ is_blank split c
unfolding is_blank
blank_white split c w e f = f ∙ sym (rw e (and-true (is_white c)))

-- ── A run of characters ──

run_yes : (p : Char → Bool) (c : Char) (cs : Text) → p c ≡ true → run p (c ∷ cs) ≡ takes c (run p cs)
unfolding run
run_yes p c cs e = rw e

run_no : (p : Char → Bool) (c : Char) (cs : Text) → p c ≡ false → run p (c ∷ cs) ≡ nothing (c ∷ cs)
unfolding run
run_no p c cs e = rw e

run_none : (p : Char → Bool) → run p [] ≡ nothing []
unfolding run
run_none p = refl

-- ── Past the characters that pass a test ──

-- What is passed from here on is passed from the start on.
pub record Skipping (p : Char → Bool) (s : List ℕ) (from at : ℕ) : Type 0 where
  pub same : (run p (chars_at s from)).left ≡ (run p (chars_at s at)).left
  pub forth : from ≤ at
  pub inside : at ≤ length s

module _ (p : Char → Bool) (s : List ℕ) (from : ℕ) where
  pub skip_start : from ≤ length s → Skipping p s from from
  skip_start h = record { same = refl; forth = omega arith; inside = h }

  module _ (at : ℕ) (k : Skipping p s from at) where
    pub skip_end : chars_at s at ≡ [] → Skipped p s from at
    skip_end e =
        record {
          rest = e ∙ sym (k.same ∙ ap (λ (t : Text). (run p t).left) e ∙ ap (λ (x : Part). x.left) (run_none p));
          forth = k.forth;
          inside = k.inside;
        }

    module _ (c n : ℕ) (a : CharAt s at c n) where
      pub skip_stop : p c ≡ false → Skipped p s from at
      skip_stop e =
          record {
            rest =
                a.chars
                ∙ sym (k.same ∙ ap (λ (t : Text). (run p t).left) a.chars ∙ ap (λ (x : Part). x.left) (run_no p c (chars_at s n) e));
            forth = k.forth;
            inside = k.inside;
          }

      pub skip_more : p c ≡ true → Skipping p s from n
      skip_more e =
          record {
            same = k.same ∙ ap (λ (t : Text). (run p t).left) a.chars ∙ ap (λ (x : Part). x.left) (run_yes p c (chars_at s n) e);
            forth = omega (arith, k.forth, a.place);
            inside = a.inside;
          }

-- ── The line from a place on ──

-- The place of the next line.
same_place : (m n : ℕ) → Some m ≡ Some n → m ≡ n
same_place m n e = ap (place m) e
  where
    place : ℕ → Option ℕ → ℕ
    place n None = n
    place n (Some m) = m

-- Only a line feed ends a line.
not_in : (b : Bool) → not b ≡ false → b ≡ true
not_in true e = refl
not_in false e = absurd (true≢false e)

line_feed : (split : Bool) (c : Char) → in_line split c ≡ false → c ≡ LF
unfolding in_line
line_feed split c e = eqb-true c LF (and_both split (c is LF) (not_in (split && c is LF) e)).1

-- Past the characters `t`, to the place `at`; `to` is where the last of them that is no white space ends.
pub record Ending (q : Char → Bool) (s : List ℕ) (from at to : ℕ) : Type 0 where
  pub passed : Text
  pub chars : chars_at s from ≡ passed ++ chars_at s at
  pub place : at ≡ from + bytes passed
  pub taken : (run q (chars_at s from)).taken ≡ passed ++ (run q (chars_at s at)).taken
  pub left : (run q (chars_at s from)).left ≡ (run q (chars_at s at)).left
  pub kept : slice from to s ≡ encode (trim_end passed)
  pub forth : from ≤ to
  pub behind : to ≤ at
  pub inside : at ≤ length s

module _ (split : Bool) (s : List ℕ) (from : ℕ) where
  pub ending_start : from ≤ length s → Ending (in_line split) s from from from
  unfolding bytes encode trim_end
  ending_start h =
      record {
        passed = [];
        chars = refl;
        place = sym (add-zero from);
        taken = refl;
        left = refl;
        kept = slice_empty from s;
        forth = omega arith;
        behind = omega arith;
        inside = h;
      }

  module _ (at to : ℕ) (k : Ending (in_line split) s from at to) where
    -- Where nothing more is taken, the line is what was passed.
    ended_taken : {cs : Text} → run (in_line split) (chars_at s at) ≡ nothing cs → (run (in_line split) (chars_at s from)).taken ≡ k.passed
    ended_taken e = k.taken ∙ ap (λ (x : Part). k.passed ++ x.taken) e ∙ append-nil k.passed

    -- No character is left.
    at_none : chars_at s at ≡ [] → run (in_line split) (chars_at s at) ≡ nothing []
    at_none e = ap (run (in_line split)) e ∙ run_none (in_line split)

    pub ending_end : chars_at s at ≡ [] → LineAt trim_end split s from (record { from = from; to = to; next = None })
    ending_end e =
        record {
          text = k.kept ∙ ap (λ (t : Text). encode (trim_end t)) (sym (ended_taken (at_none e)));
          left = k.left ∙ ap (λ (x : Part). x.left) (at_none e);
          begins = omega arith;
          forth = k.forth;
          inside = omega (arith, k.behind, k.inside);
          goes = λ n h. absurd (false≢true (ap is_some h));
          within = λ n h. absurd (false≢true (ap is_some h));
        }

    module _ (c n : ℕ) (a : CharAt s at c n) where
      -- What it means for the line that this character ends it, or that it goes on with it.
      at_stop : in_line split c ≡ false → run (in_line split) (chars_at s at) ≡ nothing (c ∷ chars_at s n)
      at_stop e = ap (run (in_line split)) a.chars ∙ run_no (in_line split) c (chars_at s n) e

      at_more : in_line split c ≡ true → run (in_line split) (chars_at s at) ≡ takes c (run (in_line split) (chars_at s n))
      at_more e = ap (run (in_line split)) a.chars ∙ run_yes (in_line split) c (chars_at s n) e

      -- A line feed.
      pub ending_feed : in_line split c ≡ false → LineAt trim_end split s from (record { from = from; to = to; next = Some n })
      ending_feed e =
          record {
            text = k.kept ∙ ap (λ (t : Text). encode (trim_end t)) (sym (ended_taken (at_stop e)));
            left = k.left ∙ ap (λ (x : Part). x.left) (at_stop e) ∙ ap (λ (d : Char). d ∷ chars_at s n) (line_feed split c e);
            begins = omega arith;
            forth = k.forth;
            inside = omega (arith, k.behind, k.inside);
            goes = λ m h. omega (arith, k.behind, a.place, width_bounds c, same_place n m h);
            within = λ m h. omega (arith, a.inside, same_place n m h);
          }

      -- A character of the line.
      longer : Text
      longer = k.passed ++ (c ∷ [])

      longer_chars : chars_at s from ≡ longer ++ chars_at s n
      unfolding longer
      longer_chars =
          k.chars ∙ ap (λ (t : Text). k.passed ++ t) a.chars ∙ sym (append_assoc k.passed (c ∷ []) (chars_at s n))

      longer_place : n ≡ from + bytes longer
      unfolding longer bytes
      longer_place = omega (arith, k.place, a.place, bytes_append k.passed (c ∷ []))

      longer_kept : (w : Bool) → is_white c ≡ w → slice from (if w then to else n) s ≡ encode (trim_end longer)
      unfolding longer
      longer_kept true e = k.kept ∙ ap encode (sym (end_white k.passed c e))
      longer_kept false e =
          ap (λ (m : ℕ). slice from m s) longer_place
          ∙ chars_slice s from longer (chars_at s n) (omega (arith, k.forth, k.behind, k.inside)) longer_chars
          ∙ ap encode (sym (end_solid k.passed c e))

      longer_to : (w : Bool) → (from ≤ (if w then to else n)) × ((if w then to else n) ≤ n)
      longer_to true = (k.forth, omega (arith, k.behind, a.place))
      longer_to false = (omega (arith, k.forth, k.behind, a.place), omega arith)

      pub ending_more : (to' : ℕ) → to' ≡ (if is_white c then to else n) → in_line split c ≡ true → Ending (in_line split) s from n to'
      unfolding longer
      ending_more to' f e =
          let q = in_line split in
          record {
            passed = longer;
            chars = longer_chars;
            place = longer_place;
            taken =
                k.taken
                ∙ ap (λ (x : Part). k.passed ++ x.taken) (at_more e)
                ∙ sym (append_assoc k.passed (c ∷ []) (run q (chars_at s n)).taken);
            left = k.left ∙ ap (λ (x : Part). x.left) (at_more e);
            kept = rw f (longer_kept (is_white c) refl);
            forth = rw f (longer_to (is_white c)).0;
            behind = rw f (longer_to (is_white c)).1;
            inside = a.inside;
          }

-- ── A line behind what was passed in front of it ──

-- The code's test `b` passes what the rule's test `p` passes in a line, whose characters pass `q`: passing a run by `b` in front of a
-- line leaves the line without its run by `p`, and the same behind the line.
module _ (b p q : Char → Bool) (same : (c : Char) → b c ≡ p c && q c) where
  abbrev Behind : Text → Type 0
  Behind cs = ((run q (run b cs).left).taken ≡ (run p (run q cs).taken).left) × ((run q (run b cs).left).left ≡ (run q cs).left)

  line_skip : (cs : Text) → Behind cs
  line_skip [] = rw (run_none b, run_none q) (sym (ap (λ (x : Part). x.left) (run_none p)), refl)
  line_skip (c ∷ cs) = go (p c) (q c) refl refl (same c) (line_skip cs)
    where
      go : (x y : Bool) → p c ≡ x → q c ≡ y → b c ≡ p c && q c → Behind cs → Behind (c ∷ cs)
      go true true e f g h = rw (run_yes b c cs (g ∙ rw (e, f)), run_yes q c cs f, run_yes p c (run q cs).taken e) h
      go false true e f g h = rw (run_no b c cs (g ∙ rw e), run_yes q c cs f, run_no p c (run q cs).taken e) (refl, refl)
      go x false e f g h = rw (run_no b c cs (g ∙ rw f (and-false (p c))), run_no q c cs f, run_none p) (refl, refl)

module _ (b p : Char → Bool) (clean : Text → Text) (split : Bool) (s : List ℕ) (from mid : ℕ) (l : Line) where
  pub line_then : ((c : Char) → b c ≡ p c && in_line split c) → Skipped b s from mid → LineAt clean split s mid l
      → LineAt (λ t. clean (run p t).left) split s from l
  line_then same k e =
      let q = in_line split in
      let x = line_skip b p q same (chars_at s from) in
      record {
        text = e.text ∙ ap (λ (t : Text). encode (clean t)) (ap (λ (t : Text). (run q t).taken) k.rest ∙ x.0);
        left = sym (ap (λ (t : Text). (run q t).left) k.rest ∙ x.1) ∙ e.left;
        begins = omega (arith, k.forth, e.begins);
        forth = e.forth;
        inside = e.inside;
        goes = e.goes;
        within = e.within;
      }

blank_same : (split : Bool) (c : Char) → is_blank split c ≡ is_white c && in_line split c
unfolding is_blank
blank_same split c = refl

white_same : (c : Char) → is_white c ≡ is_white c && in_line false c
unfolding in_line
white_same c = sym (and-true (is_white c))

-- A star is no line feed.
star_same : (split : Bool) (c : Char) → is_star c ≡ is_star c && in_line split c
unfolding in_line is_star
star_same split c = go (c is 42) refl
  where
    go : (b : Bool) → c is 42 ≡ b → b ≡ b && not (split && c is 10)
    go true e = let n : c ≡ 10 → ⊥ = λ f. omega (arith, eqb-true c 42 e) in rw (ne_eqb c 10 n, and-false split)
    go false e = refl

-- White space, stars and white space in front, and the end trimmed: the line is cleaned.
abbrev unstarred : Text → Text
unstarred t = trim_end (run is_white (run is_star t).left).left

pub line_clean : (s : List ℕ) (at x y z : ℕ) (l : Line) → Skipped (is_blank true) s at x → Skipped is_star s x y
    → Skipped (is_blank true) s y z → LineAt trim_end true s z l → LineAt clean_line true s at l
line_clean s at x y z l f g h e =
    let u = line_then (is_blank true) is_white trim_end true s y z l (blank_same true) h e in
    let v = line_then is_star is_star (λ t. trim_end (run is_white t).left) true s x y l (star_same true) g u in
    let w = line_then (is_blank true) is_white unstarred true s at x l (blank_same true) f v in
    record {
      text = w.text ∙ ap encode (sym (clean_run (run (in_line true) (chars_at s at)).taken));
      left = w.left;
      begins = w.begins;
      forth = w.forth;
      inside = w.inside;
      goes = w.goes;
      within = w.within;
    }

-- Where lines are not looked at apart, the first is the whole text.
pub whole_line : (cs : Text) → (run (in_line false) cs).taken ≡ cs
unfolding run in_line
whole_line [] = refl
whole_line (c ∷ cs) = ap (λ (t : Text). c ∷ t) (whole_line cs)

-- White space in front, and the end trimmed: the part is trimmed.
pub part_trim : (s : List ℕ) (from : ℕ) (l : Line) → Skipped is_white s 0 from → LineAt trim_end false s from l
    → slice l.from l.to s ≡ encode (trim (chars_of s))
unfolding trim
part_trim s from l f e =
    (line_then is_white is_white trim_end false s 0 from l white_same f e).text
    ∙ ap (λ (t : Text). encode (trim_end (run is_white t).left)) (whole_line (chars_at s 0) ∙ chars_start s)
    ∙ ap (λ (t : Text). encode (trim_end t)) (sym (start_run (chars_of s)))
