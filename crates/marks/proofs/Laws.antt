-- Laws of the table of marks: what `parse_mark` finds, by the classes of the first and the next character. Assumes nothing.
use Rattle.std.specs.Prelude.{Some, None, if◌then◌else◌}
use mathlib.Core.Path.{◌≡◌, refl, sym, ◌∙◌, ap, subst}
use mathlib.Core.Bool.{Bool, true, false, ◌&&◌, not, false≢true, true≢false}
use mathlib.Core.Logic.{⊎_elim}
use mathlib.Core.List.{List, [], ◌∷◌}
use mathlib.Core.Option.{Option, none, some}
use Prim.Native.Nat.{ℕ, suc, ◌+◌, ◌-◌, ◌≤◌, ◌<◌}
use lib.Dec.{leb}
use lib.ListN.{length, get_or}
use native.Mathlib.Omega.{arith}
use borrow.Author.Tests.{le-leb, lt-leb, leb-true, eqb-true, eq-eqb, not-true}
use Rattle.characters.specs.Choice.{◌is◌, within}
use Rattle.characters.specs.Space.{is_white}
use Rattle.characters.specs.Utf8.{chars_at}
use Rattle.characters.proofs.Decoding.{octet_there}
use Rattle.characters.proofs.Choice.{and_both, if_all, within_yes, within_bounds, le_or_lt}
use Rattle.rules.specs.Text.{Char, Text, text, one_of, is_digit, is_letter, is_ident_start}
use Rattle.rules.specs.Scan.{next, Part, nothing, takes}
use Rattle.rules.specs.Tables.{DoubleColonT, Row, MARKS, THIRDS, lookup}
use Rattle.rules.specs.Segment.{Segment, word_token}
use Rattle.rules.specs.Marks.{unexpected, spelling, two_marks, mark_with, mark_in, parse_mark}
use Rattle.bridge.specs.Bridge.{Low, Letter, exactly, Cut}
use Rattle.bridge.proofs.Tests.{low_weak, low_is, low_one_of, all_low}
use Rattle.bridge.proofs.Bytes.{byte_cons, byte_next, next_cons, starts_one}
use Rattle.bridge.proofs.Cuts.{cut_nothing, cut_cons}
use Rattle.bridge.proofs.Values.{value_some, value_none}
use Rattle.lexemes.specs.Words.{word_text, WordAt}
use Rattle.lexemes.proofs.Lists.{rows_at, all_below, below}
use Rattle.lexemes.proofs.Words.{word_of, text_plain, end_word}
use Rattle.classes.specs.Classes.{OTHER, mark_chars, place_from, class_of}
use Rattle.classes.proofs.Laws.{class_low, class_high}
use Rattle.marks.specs.Marks.{found_or, char_of, column_of, kind_in, pair_kind, third_kind, mark_table}

-- ── Look-ups ──

-- A test passes at each row of a table.
unfoldable all_rows : {A : Type 0} → (ℕ → A → Bool) → List (ℕ × A) → Bool
all_rows f [] = true
all_rows f (row ∷ rows) = f row.0 row.1 && all_rows f rows

-- So it passes at what a look-up finds.
lookup_step : {A : Type 0} (f : ℕ → A → Bool) (row : ℕ × A) (c : ℕ) (x : A) (o : Option A) (b : Bool) → f row.0 row.1 ≡ true
    → (o ≡ some x → f c x ≡ true) → (c is row.0) ≡ b → (if b then some row.1 else o) ≡ some x → f c x ≡ true
lookup_step f row c x o true p q i e =
    let y = eqb-true c row.0 i in
    let z : row.1 ≡ x = cc in
    rw (y, ← z) p
lookup_step f row c x o false p q i e = q e

lookup_all : {A : Type 0} (f : ℕ → A → Bool) (rows : List (ℕ × A)) → all_rows f rows ≡ true → (c : ℕ) (x : A)
    → lookup c rows ≡ some x → f c x ≡ true
unfolding all_rows lookup
lookup_all f [] h c x e = let z : ◌≡◌ {A = ℕ} 0 1 = cc in absurd (omega arith)
lookup_all f (row ∷ rows) h c x e =
    let p = and_both (f row.0 row.1) (all_rows f rows) h in
    lookup_step f row c x (lookup c rows) (c is row.0) p.0 (lookup_all f rows p.1 c x) refl e

-- ── The rows ──

-- The marks that can be second.
unfoldable seconds : Text
seconds = text "=+-><|&:.?!"

second_low : Low 11 (one_of seconds)
unfolding seconds all_low within
second_low = low_one_of 11 seconds refl

-- A first mark is a flat character, its kind is none with a spelling of its own, and each of its columns is one of the second
-- marks, with another kind.
unfoldable good_row : ℕ → Row → Bool
good_row c r =
    within 11 0x7F c && not (r.alone is DoubleColonT) && all_rows (λ d k. one_of seconds d && not (k is r.alone)) r.columns

marks_good : all_rows good_row MARKS ≡ true
unfolding all_rows good_row MARKS one_of seconds within
marks_good = refl

-- The kinds of two and of three marks have no spelling of their own.
unfoldable good_third : ℕ → ℕ → Bool
good_third k t = not (k is DoubleColonT) && not (t is DoubleColonT)

thirds_good : all_rows good_third THIRDS ≡ true
unfolding all_rows good_third THIRDS
thirds_good = refl

record Marked (c : ℕ) (r : Row) : Type 0 where
  low : 11 ≤ c
  high : c ≤ 0x7F
  plain : (r.alone is DoubleColonT) ≡ false
  column : (d k : ℕ) → lookup d r.columns ≡ some k → (one_of seconds d ≡ true) × ((k is r.alone) ≡ false)

row_marked : (c : ℕ) (r : Row) → lookup c MARKS ≡ some r → Marked c r
unfolding good_row
row_marked c r e =
    let g = lookup_all good_row MARKS marks_good c r e in
    let cols : ℕ → ℕ → Bool = λ d k. one_of seconds d && not (k is r.alone) in
    let p = and_both (within 11 0x7F c && not (r.alone is DoubleColonT)) (all_rows cols r.columns) g in
    let q = and_both (within 11 0x7F c) (not (r.alone is DoubleColonT)) p.0 in
    let b = within_bounds 11 0x7F c q.0 in
    record {
      low = b.0;
      high = b.1;
      plain = not-true (r.alone is DoubleColonT) q.1;
      column =
          λ d k f.
          let x = and_both (one_of seconds d) (not (k is r.alone)) (lookup_all cols r.columns p.1 d k f) in
          (x.0, not-true (k is r.alone) x.1);
    }

-- No column for what can't be second.
no_column : (c : ℕ) (r : Row) → Marked c r → (d : ℕ) → one_of seconds d ≡ false → lookup d r.columns ≡ none
no_column c r m d h = go (lookup d r.columns) refl
  where
    go : (o : Option ℕ) → lookup d r.columns ≡ o → o ≡ none
    go none e = refl
    go (some k) e = absurd (true≢false (sym (m.column d k e).0 ∙ h))

-- ── Classes and marks ──

is_some : Option Row → Bool
is_some none = false
is_some (some r) = true

-- The class of a mark is that of its row, and the class of a second mark that of its column.
first_test : ℕ → Bool
first_test b = if within 1 25 (class_of b) then (char_of (class_of b) is b) && is_some (lookup b MARKS) else true

first_test_lem : all_below first_test 128 ≡ true
unfolding first_test all_below is_some lookup MARKS char_of class_of is_white is_digit is_ident_start is_letter place_from mark_chars within
first_test_lem = refl

second_test : ℕ → Bool
second_test d = char_of (column_of (class_of d)) is (if one_of seconds d then d else 0)

second_test_lem : all_below second_test 128 ≡ true
unfolding second_test all_below one_of seconds column_of char_of class_of is_white is_digit is_ident_start is_letter place_from mark_chars within
second_test_lem = refl

first_facts : (b : ℕ) → 1 ≤ class_of b → class_of b ≤ 25 → (char_of (class_of b) ≡ b) × (is_some (lookup b MARKS) ≡ true)
unfolding first_test
first_facts b h l =
    let t = below first_test 128 first_test_lem b (class_low b h) in
    let p = and_both (char_of (class_of b) is b) (is_some (lookup b MARKS)) (rw (within_yes 1 25 (class_of b) h l) at t) in
    (eqb-true (char_of (class_of b)) b p.0, p.1)

second_char : (d : ℕ) → char_of (column_of (class_of d)) ≡ (if one_of seconds d then d else 0)
unfolding second_test column_of char_of
second_char d = ⊎_elim high low (le_or_lt 128 d)
  where
    none_high : 128 ≤ d → (b : Bool) → one_of seconds d ≡ b → b ≡ false
    none_high h false e = refl
    none_high h true e = absurd (omega (arith, (second_low d e).1))

    high : 128 ≤ d → char_of (column_of (class_of d)) ≡ (if one_of seconds d then d else 0)
    high h = rw (class_high d h, none_high h (one_of seconds d) refl) refl

    low : d < 128 → char_of (column_of (class_of d)) ≡ (if one_of seconds d then d else 0)
    low h = eqb-true (char_of (column_of (class_of d))) (if one_of seconds d then d else 0) (below second_test 128 second_test_lem d h)

-- ── Characters that begin no mark ──

is_none : Option Row → Bool
is_none none = true
is_none (some r) = false

none_is : (o : Option Row) → is_none o ≡ true → o ≡ none
unfolding is_none
none_is none e = refl
none_is (some r) e = absurd (false≢true e)

other_test : ℕ → Bool
other_test b = if class_of b is OTHER then is_none (lookup b MARKS) else true

other_test_lem : all_below other_test 128 ≡ true
unfolding other_test all_below is_none lookup MARKS class_of is_white is_digit is_ident_start is_letter place_from mark_chars within
other_test_lem = refl

-- An ASCII character of the class OTHER, and a character beyond ASCII.
pub other_mark : (b : ℕ) (cs : Text) → b < 128 → class_of b ≡ OTHER → parse_mark b cs ≡ unexpected b
unfolding other_test parse_mark mark_in
other_mark b cs h e =
    let q = below other_test 128 other_test_lem b h in
    rw (none_is (lookup b MARKS) (rw (eq-eqb (class_of b) OTHER e) at q))

pub wide_mark : (c : ℕ) (cs : Text) → 0x7F < c → parse_mark c cs ≡ unexpected c
unfolding parse_mark mark_in
wide_mark c cs h = go (lookup c MARKS) refl
  where
    go : (o : Option Row) → lookup c MARKS ≡ o → mark_in o c cs ≡ unexpected c
    go none e = refl
    go (some r) e = absurd (omega (arith, (row_marked c r e).high))

-- ── What stands at a place ──

-- What a row's columns have for a next byte `d`.
found_by : Row → ℕ → Bool → Option ℕ
found_by r d b = if b then lookup d r.columns else none

-- The segment of a first mark `c` with the row `r` before `d` and `cs`.
mark_found : Row → Char → Char → Option ℕ → Text → Segment
mark_found r c d none cs = word_token r.alone (c ∷ [])
mark_found r c d (some k) cs = two_marks k (lookup k THIRDS) c d cs

module _ (s : List ℕ) (at : ℕ) (r : Row) (e : lookup (get_or s at 0) MARKS ≡ some r) where
  abbrev c : ℕ
  c = get_or s at 0

  abbrev d : ℕ
  d = get_or s (at + 1) 0

  abbrev found : Option ℕ
  found = found_by r d (one_of seconds d)

  abbrev rest : Text
  rest = chars_at s (at + 1)

  -- A next character that can't be second.
  mark_alone : (cs : Text) → next (one_of seconds) cs ≡ false → mark_in (some r) c cs ≡ word_token r.alone (c ∷ [])
  unfolding next mark_in mark_with
  mark_alone [] n = refl
  mark_alone (x ∷ cs) n = rw (no_column c r (row_marked c r e) x n)

  mark_with_lem : (o : Option ℕ) → mark_with r.alone c o d (chars_at s (at + 1 + 1)) ≡ mark_found r c d o (chars_at s (at + 1 + 1))
  unfolding mark_with mark_found
  mark_with_lem none = refl
  mark_with_lem (some k) = refl

  mark_by : (b : Bool) → one_of seconds d ≡ b → mark_in (some r) c rest ≡ mark_found r c d (found_by r d b) (chars_at s (at + 1 + 1))
  unfolding mark_in found_by mark_found
  mark_by true n =
      let q = byte_cons (one_of seconds) (low_weak (one_of seconds) second_low) s (at + 1) n in
      rw q.1 (mark_with_lem (lookup d r.columns))
  mark_by false n = mark_alone rest (byte_next (one_of seconds) (low_weak (one_of seconds) second_low) s (at + 1) ∙ n)

  mark_is : parse_mark c rest ≡ mark_found r c d found (chars_at s (at + 2))
  unfolding parse_mark
  mark_is =
      let n : at + 1 + 1 ≡ at + 2 = omega arith in
      rw e (mark_by (one_of seconds d) refl ∙ rw n)

  -- The kinds that the table gives.
  zero_column : lookup 0 r.columns ≡ none
  unfolding one_of seconds
  zero_column = no_column c r (row_marked c r e) 0 refl

  lone_kind : pair_kind c 0 ≡ r.alone
  unfolding pair_kind kind_in found_or
  lone_kind = rw (e, zero_column)

  kind_by : (b : Bool) → pair_kind c (if b then d else 0) ≡ found_or r.alone (found_by r d b)
  unfolding pair_kind kind_in found_by found_or
  kind_by true = rw e
  kind_by false = lone_kind

  next_kind : pair_kind c (char_of (column_of (class_of d))) ≡ found_or r.alone found
  next_kind = rw (second_char d) (kind_by (one_of seconds d))

  found_column : (b : Bool) (k : ℕ) → found_by r d b ≡ some k → (b ≡ true) × (lookup d r.columns ≡ some k)
  unfolding found_by
  found_column true k q = (refl, q)
  found_column false k q = let z : ◌≡◌ {A = ℕ} 0 1 = cc in absurd (omega arith)

  -- A kind that is not the first mark's own is that of two marks.
  found_none : found_or r.alone found ≡ r.alone → found ≡ none
  unfolding found_or
  found_none h = go found refl h
    where
      go : (o : Option ℕ) → found ≡ o → found_or r.alone o ≡ r.alone → o ≡ none
      go none q h = refl
      go (some k) q h =
          let x = found_column (one_of seconds d) k q in
          let y = ((row_marked c r e).column d k x.1).1 in
          absurd (true≢false (sym (eq-eqb k r.alone h) ∙ y))

  found_some : (k : ℕ) → found_or r.alone found ≡ k → (k ≡ r.alone → ⊥) → found ≡ some k
  unfolding found_or
  found_some k h n = go found refl h
    where
      go : (o : Option ℕ) → found ≡ o → found_or r.alone o ≡ k → o ≡ some k
      go none q h = absurd (n (sym h))
      go (some x) q h = ap some h

  -- The one, two or three characters of a mark.
  first_cut : (a : Part) (to : ℕ) → Cut s (at + 1) a to → Cut s at (takes c a) to
  first_cut a to x =
      let m = row_marked c r e in
      let h = octet_there s at (omega (arith, m.low)) in
      cut_cons s at a to h m.low m.high x

  there : at + 1 ≤ length s
  there = let m = row_marked c r e in let h = octet_there s at (omega (arith, m.low)) in omega arith

  one_cut : Cut s at (takes c (nothing rest)) (at + 1)
  one_cut = first_cut (nothing rest) (at + 1) (cut_nothing s (at + 1) there)

  alone_word : found ≡ none → WordAt s at (parse_mark c rest) r.alone 1 0
  unfolding mark_found
  alone_word f =
      let p = (row_marked c r e).plain in
      word_of s at r.alone 1 0 (takes c (nothing rest)) (parse_mark c rest) one_cut (omega arith) (omega arith)
      (mark_is ∙ rw (f, text_plain r.alone (c ∷ []) p, end_word (c ∷ [])))

  module _ (k : ℕ) (f : found ≡ some k) where
    second : (11 ≤ d) × (d ≤ 0x7F) × (at + 1 < length s)
    second =
        let n = (found_column (one_of seconds d) k f).0 in
        let q = second_low d n in
        (q.0, q.1, octet_there s (at + 1) (omega (arith, q.0)))

    two_cut : (a : Part) (to : ℕ) → Cut s (at + 2) a to → Cut s at (takes c (takes d a)) to
    two_cut a to x =
        let q = second in
        let n : at + 2 ≡ at + 1 + 1 = omega arith in
        first_cut (takes d a) to (cut_cons s (at + 1) a to q.2 q.0 q.1 (subst (λ (m : ℕ). Cut s m a to) n x))

    pair_cut : Cut s at (takes c (takes d (nothing (chars_at s (at + 2))))) (at + 2)
    pair_cut = let h = second.2 in two_cut (nothing (chars_at s (at + 2))) (at + 2) (cut_nothing s (at + 2) (omega arith))

    two_kinds : (o : Option ℕ) → lookup k THIRDS ≡ o → parse_mark c rest ≡ two_marks k o c d (chars_at s (at + 2))
    unfolding mark_found
    two_kinds o q = mark_is ∙ rw (f, q)

    pair_word : lookup k THIRDS ≡ none → WordAt s at (parse_mark c rest) k 2 2
    unfolding two_marks spelling word_text
    pair_word q =
        word_of s at k 2 2 (takes c (takes d (nothing (chars_at s (at + 2))))) (parse_mark c rest) pair_cut (omega arith) (omega arith)
        (two_kinds none q)

    module _ (t : ℕ) (q : lookup k THIRDS ≡ some t) where
      plains : ((k is DoubleColonT) ≡ false) × ((t is DoubleColonT) ≡ false)
      unfolding good_third
      plains =
          let x = and_both (not (k is DoubleColonT)) (not (t is DoubleColonT)) (lookup_all good_third THIRDS thirds_good k t q) in
          (not-true (k is DoubleColonT) x.0, not-true (t is DoubleColonT) x.1)

      short_word : next (exactly d) (chars_at s (at + 2)) ≡ false → WordAt s at (parse_mark c rest) k 2 2
      unfolding two_marks
      short_word n =
          word_of s at k 2 2 (takes c (takes d (nothing (chars_at s (at + 2))))) (parse_mark c rest) pair_cut (omega arith) (omega arith)
          (two_kinds (some t) q ∙ rw (starts_one d (chars_at s (at + 2)), n, text_plain k (c ∷ d ∷ []) plains.0))

      three_cut : next (exactly d) (chars_at s (at + 2)) ≡ true
          → Cut s at (takes c (takes d (takes d (nothing (chars_at s (at + 3)))))) (at + 3)
      three_cut n =
          let b = second in
          let x = next_cons (exactly d) (low_is 1 d (omega arith) b.1) s (at + 2) n in
          let y : get_or s (at + 2) 0 ≡ d = eqb-true (get_or s (at + 2) 0) d x.2 in
          let h = x.0 in
          let m : at + 2 + 1 ≡ at + 3 = omega arith in
          let z : Cut s (at + 2) (takes (get_or s (at + 2) 0) (nothing (chars_at s (at + 2 + 1)))) (at + 2 + 1) =
          cut_cons s (at + 2) (nothing (chars_at s (at + 2 + 1))) (at + 2 + 1) h (omega arith) (omega arith)
          (cut_nothing s (at + 2 + 1) (omega arith)) in
          let w : Cut s (at + 2) (takes d (nothing (chars_at s (at + 3)))) (at + 3) = rw (y, m) at z in
          two_cut (takes d (nothing (chars_at s (at + 3)))) (at + 3) w

      three_word : next (exactly d) (chars_at s (at + 2)) ≡ true → WordAt s at (parse_mark c rest) t 3 3
      unfolding two_marks
      three_word n =
          word_of s at t 3 3 (takes c (takes d (takes d (nothing (chars_at s (at + 3)))))) (parse_mark c rest) (three_cut n)
          (omega arith) (omega arith)
          (two_kinds (some t) q ∙ rw (starts_one d (chars_at s (at + 2)), n, text_plain t (c ∷ d ∷ d ∷ []) plains.1))

-- ── The mark at a place, by the kinds that the table gives ──

some_row : (o : Option Row) → is_some o ≡ true → (r : Row) × (o ≡ some r)
unfolding is_some
some_row none e = absurd (false≢true e)
some_row (some r) e = (r, refl)

third_none : (k : ℕ) → None ≡ third_kind k → lookup k THIRDS ≡ none
unfolding third_kind
third_none k e = value_none (lookup k THIRDS) (sym e)

third_some : (k t : ℕ) → Some t ≡ third_kind k → lookup k THIRDS ≡ some t
unfolding third_kind
third_some k t e = value_some (lookup k THIRDS) t (sym e)

-- `x` is the next byte's class.
module _ (s : List ℕ) (at first lone x kind : ℕ) (q : first ≡ class_of (get_or s at 0)) (h : 1 ≤ first) (l : first ≤ 25)
    (a : lone ≡ pair_kind (char_of first) (char_of (column_of 0))) (y : x ≡ class_of (get_or s (at + 1) 0))
    (b : kind ≡ pair_kind (char_of first) (char_of (column_of x))) where
  abbrev At : ℕ → ℕ → ℕ → Type 0
  At k n e = WordAt s at (parse_mark (get_or s at 0) (chars_at s (at + 1))) k n e

  facts : (char_of (class_of (get_or s at 0)) ≡ get_or s at 0) × (is_some (lookup (get_or s at 0) MARKS) ≡ true)
  facts = first_facts (get_or s at 0) (omega arith) (omega arith)

  its_row : (r : Row) × (lookup (get_or s at 0) MARKS ≡ some r)
  its_row = some_row (lookup (get_or s at 0) MARKS) facts.1

  abbrev R : Row
  R = its_row.0

  first_is : char_of first ≡ get_or s at 0
  first_is = ap char_of q ∙ facts.0

  lone_is : lone ≡ R.alone
  unfolding column_of char_of
  lone_is = a ∙ (ap (λ (c : ℕ). pair_kind c 0) first_is ∙ lone_kind s at R its_row.1)

  kind_is : kind ≡ found_or R.alone (found s at R its_row.1)
  kind_is =
      b
      ∙ (ap (λ (c : ℕ). pair_kind c (char_of (column_of x))) first_is
      ∙ (ap (λ (k : ℕ). pair_kind (get_or s at 0) (char_of (column_of k))) y ∙ next_kind s at R its_row.1))

  pub lone_word : kind ≡ lone → At kind 1 0
  lone_word e =
      subst (λ (k : ℕ). At k 1 0) (sym (e ∙ lone_is))
      (alone_word s at R its_row.1 (found_none s at R its_row.1 (sym kind_is ∙ (e ∙ lone_is))))

  module _ (n : kind ≡ lone → ⊥) where
    two_found : found s at R its_row.1 ≡ some kind
    two_found = found_some s at R its_row.1 kind (sym kind_is) (λ e. n (e ∙ sym lone_is))

    pub two_word : None ≡ third_kind kind → At kind 2 2
    two_word e = pair_word s at R its_row.1 kind two_found (third_none kind e)

    -- `z` is the next byte.
    module _ (z : ℕ) (w : z ≡ get_or s (at + 1) 0) where
      pub second_letter : Letter z
      second_letter = let v = second s at R its_row.1 kind two_found in (omega arith, omega arith)

      module _ (t : ℕ) (e : Some t ≡ third_kind kind) where
        looked : (v : Bool) → next (exactly z) (chars_at s (at + 2)) ≡ v → next (exactly (get_or s (at + 1) 0)) (chars_at s (at + 2)) ≡ v
        looked v u = ap (λ (c : ℕ). next (exactly c) (chars_at s (at + 2))) (sym w) ∙ u

        pub third_word : next (exactly z) (chars_at s (at + 2)) ≡ true → At t 3 3
        third_word u = three_word s at R its_row.1 kind two_found t (third_some kind t e) (looked true u)

        pub third_not : next (exactly z) (chars_at s (at + 2)) ≡ false → At kind 2 2
        third_not u = short_word s at R its_row.1 kind two_found t (third_some kind t e) (looked false u)

-- ── Marks that stand alone, whatever follows ──

-- A column of a row has the kind of column 0.
unfoldable alone : ℕ → ℕ → Bool
alone first column = pair_kind (char_of first) (char_of column) is pair_kind (char_of first) 0

-- From the class 15 on every column has.
delimiter_test : all_below (λ i. all_below (alone (15 + i)) 12) 11 ≡ true
unfolding all_below alone pair_kind kind_in lookup MARKS char_of mark_chars found_or
delimiter_test = refl

column_low : (k : ℕ) → column_of k < 12
unfolding column_of
column_low k =
    if_all (λ (n : ℕ). n < 12) (leb k 11) (λ e. let h = leb-true k 11 e in omega arith) (λ _. omega arith)

delimiter_kind : (first x : ℕ) → 15 ≤ first → first ≤ 25
    → pair_kind (char_of first) (char_of (column_of x)) ≡ pair_kind (char_of first) 0
unfolding alone
delimiter_kind first x h l =
    let e : 15 + (first - 15) ≡ first = omega arith in
    let row : all_below (alone (15 + (first - 15))) 12 ≡ true = below (λ i. all_below (alone (15 + i)) 12) 11 delimiter_test (first - 15) (omega arith) in
    let row' : all_below (alone first) 12 ≡ true = rw e at row in
    eqb-true (pair_kind (char_of first) (char_of (column_of x))) (pair_kind (char_of first) 0) (below (alone first) 12 row' (column_of x) (column_low x))

pub delimiter_word : (s : List ℕ) (at first lone : ℕ) → first ≡ class_of (get_or s at 0) → 15 ≤ first → first ≤ 25
    → lone ≡ pair_kind (char_of first) (char_of (column_of 0))
    → WordAt s at (parse_mark (get_or s at 0) (chars_at s (at + 1))) lone 1 0
unfolding column_of char_of
delimiter_word s at first lone q h l a =
    let x = class_of (get_or s (at + 1) 0) in
    lone_word s at first lone x lone q (omega arith) l a refl (a ∙ sym (delimiter_kind first x h l)) refl

-- ── The functions of the table ──

pub mark_entry : (first column : ℕ) → 1 ≤ first → first ≤ 25 → column ≤ 11
    → get_or (get_or mark_table (first - 1) []) column 0 ≡ pair_kind (char_of first) (char_of column)
unfolding mark_table
mark_entry first column h l m =
    let n : suc (first - 1) ≡ first = omega arith in
    rows_at (λ i j. pair_kind (char_of (suc i)) (char_of j)) 12 25 (first - 1) column (omega arith) (omega arith) ∙ rw n

pub column_own : (k : ℕ) → k ≤ 11 → k ≡ column_of k
unfolding column_of
column_own k h = rw (le-leb k 11 h)

pub column_none : (k : ℕ) → 11 < k → 0 ≡ column_of k
unfolding column_of
column_none k h = rw (lt-leb k 11 h)
