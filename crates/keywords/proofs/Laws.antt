-- Laws of the tables of keywords: a name's slot leads to the one keyword that it can be. Assumes nothing.
use mathlib.Core.Path.{◌≡◌, refl, sym, ◌∙◌, ap, subst}
use mathlib.Core.Bool.{Bool, true, false, ◌&&◌, ◌||◌, not, false≢true, true≢false}
use mathlib.Core.Logic.{⊎_elim}
use mathlib.Core.List.{List, [], ◌∷◌}
use Prim.Native.Nat.{ℕ, zero, suc, ◌+◌, ◌-◌, ◌≤◌, ◌<◌}
use lib.Dec.{leb, ltb}
use lib.ListN.{length, get_or}
use lib.Seq.{ext_get_or}
use native.Mathlib.Omega.{arith}
use native.Mathlib.Numerals.{add-one}
use borrow.Author.Tests.{leb-true, lt-ltb, le-ltb, eqb-true, eq-eqb, ne_eqb, not-true, ltb-true}
use Rattle.characters.specs.Choice.{◌is◌}
use Rattle.characters.proofs.Choice.{if_all, and_both, or_either}
use Rattle.rules.specs.Text.{Text, same_text}
use Rattle.rules.specs.Tables.{Ident, DoubleColonT, KEYWORDS, keyword_in, lookup_keyword}
use Rattle.lexemes.proofs.Lists.{table_at, rows_at, all_below, below}
use Rattle.keyword_tables.specs.Keywords.{keywords_of, keyword_rows, letters_of, kind_of, slot_of, row_from, row_of, slot_table, keyword_entry, keyword_table}
use Rattle.keywords.specs.Keywords.{pick}

-- ── Equal texts ──

pub same_refl : (t : Text) → same_text t t ≡ true
unfolding same_text
same_refl [] = refl
same_refl (c ∷ t) = rw (eq-eqb c c refl) (same_refl t)

pub same_eq : (t u : Text) → same_text t u ≡ true → t ≡ u
unfolding same_text
same_eq [] [] e = refl
same_eq [] (d ∷ u) e = absurd (false≢true e)
same_eq (c ∷ t) [] e = absurd (false≢true e)
same_eq (c ∷ t) (d ∷ u) e =
    let p = and_both (c is d) (same_text t u) e in
    let a = eqb-true c d p.0 in
    let b = same_eq t u p.1 in
    cc

pub not_same : (t u : Text) → (t ≡ u → ⊥) → same_text t u ≡ false
not_same t u n = go (same_text t u) refl
  where
    go : (b : Bool) → same_text t u ≡ b → b ≡ false
    go true e = absurd (n (same_eq t u e))
    go false e = refl

-- ── The tables ──

pub keyword_entry_lem : (row column : ℕ) → row < 60 → column < 11 → get_or (get_or keyword_table row []) column 0 ≡ keyword_entry row column
unfolding keyword_table
keyword_entry_lem row column h k = rows_at keyword_entry 11 60 row column h k

pub slot_entry : (slot : ℕ) → slot < 256 → get_or slot_table slot 0 ≡ row_of slot
unfolding slot_table
slot_entry slot h = table_at row_of 256 slot h

from_bound : (i : ℕ) (rows : List (Text × ℕ)) (slot : ℕ) → 1 ≤ i → row_from i rows slot < i + length rows
unfolding row_from
from_bound i [] slot h = omega arith
from_bound i (row ∷ rows) slot h =
    let p = from_bound (suc i) rows slot (omega arith) in
    if_all (λ (x : ℕ). x < i + suc (length rows)) (slot_of row.0 is slot) (λ _. omega arith) (λ _. omega arith)

pub row_bound : (slot : ℕ) → row_of slot < 60
unfolding row_of keywords_of KEYWORDS
row_bound slot = from_bound 1 (keywords_of KEYWORDS) slot (omega arith)

pub entry_length : (row : ℕ) → keyword_entry row 0 ≡ length (letters_of row)
unfolding keyword_entry
entry_length row = refl

pub entry_kind : (row : ℕ) → keyword_entry row 10 ≡ kind_of row
unfolding keyword_entry
entry_kind row = refl

entry_letter : (row k : ℕ) → k < 9 → keyword_entry row (k + 1) ≡ get_or (letters_of row) k 0
unfolding keyword_entry
entry_letter row k h =
    let n : k + 1 - 1 ≡ k = omega arith in
    rw (ne_eqb (k + 1) 0 (λ e. omega arith), ne_eqb (k + 1) 10 (λ e. omega arith), n)

-- ── Tests of the rows ──

-- Each row's word has at most nine letters, is looked up to the row's kind, and that is none with a spelling of its own.
row_test : ℕ → Bool
row_test row =
    leb (length (letters_of row)) 9 && lookup_keyword (letters_of row) is kind_of row && not (kind_of row is DoubleColonT)

row_test_lem : all_below row_test 60 ≡ true
unfolding row_test all_below letters_of kind_of keyword_rows keywords_of lookup_keyword keyword_in KEYWORDS same_text
row_test_lem = refl

module _ (row : ℕ) (h : row < 60) where
  row_facts : (length (letters_of row) ≤ 9) × (lookup_keyword (letters_of row) ≡ kind_of row) × ((kind_of row is DoubleColonT) ≡ false)
  unfolding row_test
  row_facts =
      let a = leb (length (letters_of row)) 9 in
      let b = lookup_keyword (letters_of row) is kind_of row in
      let p = and_both (a && b) (not (kind_of row is DoubleColonT)) (below row_test 60 row_test_lem row h) in
      let q = and_both a b p.0 in (
        leb-true (length (letters_of row)) 9 q.0,
        eqb-true (lookup_keyword (letters_of row)) (kind_of row) q.1,
        not-true (kind_of row is DoubleColonT) p.1,
      )

  pub letters_short : length (letters_of row) ≤ 9
  letters_short = row_facts.0

-- The word that a text's slot leads to.
abbrev pub word_by : Text → Text
word_by t = letters_of (row_of (slot_of t))

-- Each keyword's slot leads to it.
unfoldable all_lead : List (Text × ℕ) → Bool
all_lead [] = true
all_lead (row ∷ rows) = (row.1 is Ident || same_text row.0 (word_by row.0)) && all_lead rows

keywords_lead : all_lead KEYWORDS ≡ true
unfolding all_lead KEYWORDS keywords_of keyword_rows letters_of row_of row_from slot_of same_text
keywords_lead = refl

-- So what its slot does not lead to is no keyword.
led_row : (row : Text × ℕ) (t : Text) → (row.1 is Ident || same_text row.0 (word_by row.0)) ≡ true → same_text t (word_by t) ≡ false
    → same_text t row.0 ≡ true → row.1 ≡ Ident
led_row row t h n e =
    let q = same_eq t row.0 e in
    ⊎_elim
    (λ x. eqb-true row.1 Ident x)
    (λ x. absurd (true≢false (sym (subst (λ (u : Text). same_text u (word_by u) ≡ true) (sym q) x) ∙ n)))
    (or_either (row.1 is Ident) (same_text row.0 (word_by row.0)) h)

no_keyword : (rows : List (Text × ℕ)) (t : Text) → all_lead rows ≡ true → same_text t (word_by t) ≡ false → keyword_in rows t ≡ Ident
unfolding all_lead keyword_in
no_keyword [] t h n = refl
no_keyword (row ∷ rows) t h n =
    let p = and_both (row.1 is Ident || same_text row.0 (word_by row.0)) (all_lead rows) h in
    if_all (λ (k : ℕ). k ≡ Ident) (same_text t row.0) (led_row row t p.0 n) (λ _. no_keyword rows t p.1 n)

pub kind_none : (t : Text) → same_text t (word_by t) ≡ false → lookup_keyword t ≡ Ident
unfolding lookup_keyword
kind_none t n = no_keyword KEYWORDS t keywords_lead n

pub kind_same : (t : Text) → same_text t (word_by t) ≡ true → lookup_keyword t ≡ kind_of (row_of (slot_of t))
kind_same t e = ap lookup_keyword (same_eq t (word_by t) e) ∙ (row_facts (row_of (slot_of t)) (row_bound (slot_of t))).1

-- No name has the kind that has a spelling of its own.
pub kind_plain : (t : Text) → (lookup_keyword t is DoubleColonT) ≡ false
kind_plain t = go (same_text t (word_by t)) refl
  where
    go : (b : Bool) → same_text t (word_by t) ≡ b → (lookup_keyword t is DoubleColonT) ≡ false
    go true e = rw (kind_same t e) (row_facts (row_of (slot_of t)) (row_bound (slot_of t))).2
    go false e = rw (kind_none t e)

-- ── The comparison with a row ──

pub pick_in : (i n : ℕ) → i < n → i ≡ pick i n
unfolding pick
pick_in i n h = rw (lt-ltb i n h)

pub pick_out : (i n : ℕ) → n ≤ i → 0 ≡ pick i n
unfolding pick
pick_out i n h = rw (le-ltb i n h)

pub pick_less : (i n : ℕ) → 1 ≤ n → pick i n < n
unfolding pick
pick_less i n h = if_all (λ (x : ℕ). x < n) (ltb i n) (λ e. ltb-true i n e) (λ _. h)

all_below_lem : (f : ℕ → Bool) (n : ℕ) → ((k : ℕ) → k < n → f k ≡ true) → all_below f n ≡ true
unfolding all_below
all_below_lem f zero h = refl
all_below_lem f (suc n) h = rw (h n (omega arith)) (all_below_lem f n (λ k l. h k (omega arith)))

-- The comparison at one place.
unfoldable pub same_at : Text → ℕ → ℕ → Bool
same_at t row i = get_or t (pick i (length t)) 0 is keyword_entry row (pick i (length t) + 1)

module _ (t : Text) (row : ℕ) (h : row < 60) (some : 0 < length t) (l : length (letters_of row) ≡ length t) where
  letter : (k : ℕ) → k < length t → keyword_entry row (k + 1) ≡ get_or (letters_of row) k 0
  letter k g = let b = letters_short row h in entry_letter row k (omega arith)

  all_same : t ≡ letters_of row → (i : ℕ) → same_at t row i ≡ true
  unfolding same_at
  all_same e i =
      let p = pick_less i (length t) some in
      eq-eqb (get_or t (pick i (length t)) 0) (keyword_entry row (pick i (length t) + 1))
      (ap (λ (u : Text). get_or u (pick i (length t)) 0) e ∙ sym (letter (pick i (length t)) p))

  same_all : ((k : ℕ) → k < 9 → same_at t row k ≡ true) → t ≡ letters_of row
  unfolding same_at
  same_all f = ext_get_or 0 t (letters_of row) (sym l) each
    where
      each : (k : ℕ) → k < length t → get_or t k 0 ≡ get_or (letters_of row) k 0
      each k g =
          let b = letters_short row h in
          let q = eqb-true (get_or t (pick k (length t)) 0) (keyword_entry row (pick k (length t) + 1)) (f k (omega arith)) in
          (rw (← (pick_in k (length t) g)) at q) ∙ letter k g

  pub same_is : all_below (same_at t row) 9 ≡ same_text t (letters_of row)
  same_is = go (all_below (same_at t row) 9) refl
    where
      go : (b : Bool) → all_below (same_at t row) 9 ≡ b → b ≡ same_text t (letters_of row)
      go true e = sym (rw (same_all (below (same_at t row) 9 e)) (same_refl (letters_of row)))
      go false e =
          sym (not_same t (letters_of row)
          (λ q. absurd (false≢true (sym e ∙ all_below_lem (same_at t row) 9 (λ k _. all_same q k)))))

-- One place more.
pub same_step : (t : Text) (row i k v : ℕ) (b : Bool) → b ≡ all_below (same_at t row) i → k ≡ pick i (length t)
    → v ≡ keyword_entry row (k + 1) → (get_or t k 0 is v && b) ≡ all_below (same_at t row) (i + 1)
unfolding all_below same_at
same_step t row i k v b e p q = rw (add-one i, e, q, p)

-- ── The kind of a name, by the row that its slot leads to ──

pub slot_less : (t : Text) → slot_of t < 256
unfolding slot_of
slot_less t = omega arith

module _ (t : Text) (row : ℕ) (q : row ≡ row_of (slot_of t)) where
  pub row_less : row < 60
  row_less = rw q (row_bound (slot_of t))

  -- A word of another length.
  pub kind_other : (length (letters_of row) ≡ length t → ⊥) → Ident ≡ lookup_keyword t
  kind_other n =
      sym (kind_none t (not_same t (word_by t) (λ e. n (ap (λ (r : ℕ). length (letters_of r)) q ∙ sym (ap length e)))))

  pub kind_long : 9 < length t → Ident ≡ lookup_keyword t
  kind_long h =
      let b = letters_short row row_less in
      kind_other (λ e. omega arith)

  pub kind_found : same_text t (letters_of row) ≡ true → kind_of row ≡ lookup_keyword t
  kind_found e = ap kind_of q ∙ sym (kind_same t (rw q at e))

  pub kind_missed : same_text t (letters_of row) ≡ false → Ident ≡ lookup_keyword t
  kind_missed e = sym (kind_none t (rw q at e))
