-- Cleaned lines joined by line feeds and trimmed are the cleaned text line by line. Assumes nothing.
use Rattle.std.specs.Prelude.{if◌then◌else◌}
use mathlib.Core.Path.{◌≡◌, refl, sym, ◌∙◌, ap}
use mathlib.Core.Bool.{Bool, true, false, not}
use mathlib.Core.List.{List, [], ◌∷◌, ◌++◌, map, append-nil, append_assoc}
use Prim.Native.Nat.{ℕ, zero, suc}
use native.Mathlib.Numerals.{add-one}
use native.Mathlib.Omega.{arith}
use borrow.Author.Tests.{ne_eqb}
use lib.ListN.{replicate}
use Rattle.characters.specs.Choice.{◌is◌, within}
use Rattle.characters.specs.Space.{is_white}
use Rattle.rules.specs.Text.{Char, Text, LF, is_empty}
use Rattle.rules.specs.Scan.{next, takes, nothing, run}
use Rattle.rules.specs.Docs.{trim_start, trim_end, trim, add_to_first, lines, join_lines, clean_line, clean_doc}
use Rattle.doc_lines.specs.Lines.{in_line}
use Rattle.docs.specs.Texts.{line_text, feeds_after, lines_text}
use Rattle.doc_lines.proofs.Trimming.{end_append, end_behind, Tight, clean_tight}

-- ── The first line of a text ──

-- The lines behind the first, by what stands where it ends.
abbrev pub more_lines : Text → List Text
more_lines [] = []
more_lines (c ∷ cs) = lines cs

pub lines_first : (cs : Text) → lines cs ≡ (run (in_line true) cs).taken ∷ more_lines (run (in_line true) cs).left
unfolding lines run in_line add_to_first
lines_first [] = refl
lines_first (c ∷ cs) = go (c is LF) (lines_first cs)
  where
    go : (b : Bool) → lines cs ≡ (run (in_line true) cs).taken ∷ more_lines (run (in_line true) cs).left
        → (if b then [] ∷ lines cs else add_to_first c (lines cs))
        ≡ (if not b then takes c (run (in_line true) cs) else nothing (c ∷ cs)).taken
        ∷ more_lines (if not b then takes c (run (in_line true) cs) else nothing (c ∷ cs)).left
    go true e = refl
    go false e = rw e

-- ── Line feeds ──

pub feed_white : is_white LF ≡ true
unfolding is_white within
feed_white = refl

feeds_end : (k : ℕ) → trim_end (replicate k LF) ≡ []
unfolding trim_end is_empty
feeds_end zero = refl
feeds_end (suc k) = rw (feeds_end k, feed_white)

feeds_more : (k : ℕ) (t : Text) → replicate k LF ++ (LF ∷ t) ≡ LF ∷ (replicate k LF ++ t)
feeds_more zero t = refl
feeds_more (suc k) t = ap (λ (r : Text). LF ∷ r) (feeds_more k t)

-- ── Lines that neither begin nor end with white space ──

abbrev pub AllTight : List Text → Type 0
AllTight [] = Unit
AllTight (l ∷ ls) = Tight l × AllTight ls

-- What stands behind the first line when lines are joined.
abbrev behind : List Text → Text
behind [] = []
behind (l ∷ ls) = LF ∷ (l ++ behind ls)

join_behind : (l : Text) (ls : List Text) → join_lines (l ∷ ls) ≡ l ++ behind ls
unfolding join_lines
join_behind l [] = sym (append-nil l)
join_behind l (m ∷ ms) = ap (λ (t : Text). l ++ (LF ∷ t)) (join_behind m ms)

-- One line feed waits behind a line that is not empty, and one more behind an empty one.
feeds_one : (k : ℕ) → feeds_after k false ≡ 1
unfolding feeds_after
feeds_one k = refl

feeds_suc : (k : ℕ) → feeds_after (suc k) true ≡ suc (suc k)
unfolding feeds_after
feeds_suc k = let n : suc k ≡ 0 → ⊥ = λ e. omega arith in rw (ne_eqb (suc k) 0 n) (add-one (suc k))

-- Behind a line that is not empty, with `k` line feeds that wait and one more.
behind_text : (k : ℕ) (ls : List Text) → AllTight ls → trim_end (replicate k LF ++ behind ls) ≡ lines_text (suc k) ls
unfolding lines_text line_text is_empty
behind_text k [] h = ap trim_end (append-nil (replicate k LF)) ∙ feeds_end k
behind_text k ([] ∷ ms) h =
    ap trim_end (feeds_more k (behind ms)) ∙ behind_text (suc k) ms h.1 ∙ ap (λ (n : ℕ). lines_text n ms) (sym (feeds_suc k))
behind_text k ((c ∷ m) ∷ ms) h =
    let x = LF ∷ (replicate k LF ++ (c ∷ m)) in
    ap trim_end
    (feeds_more k ((c ∷ m) ++ behind ms) ∙ ap (λ (t : Text). LF ∷ t) (sym (append_assoc (replicate k LF) (c ∷ m) (behind ms))))
    ∙ end_behind x (behind ms) refl (solid k c m h.0.ends)
    ∙ ap (λ (t : Text). x ++ t) (behind_text zero ms h.1 ∙ ap (λ (n : ℕ). lines_text n ms) (sym (feeds_one (suc k))))
  where
    solid : (k : ℕ) (c : Char) (m : Text) → trim_end (c ∷ m) ≡ c ∷ m
        → trim_end (LF ∷ (replicate k LF ++ (c ∷ m))) ≡ LF ∷ (replicate k LF ++ (c ∷ m))
    solid k c m e = end_append (LF ∷ replicate k LF) (c ∷ m) ∙ rw e

-- The whole, trimmed.
first_solid : (c : Char) (t : Text) → is_white c ≡ false → trim_start (c ∷ t) ≡ c ∷ t
unfolding trim_start
first_solid c t e = rw e

first_feed : (t : Text) → trim_start (LF ∷ t) ≡ trim_start t
unfolding trim_start
first_feed t = rw feed_white

pub join_text : (ls : List Text) → AllTight ls → trim (join_lines ls) ≡ lines_text 0 ls
unfolding trim trim_start trim_end join_lines lines_text line_text feeds_after is_empty next
join_text [] h = refl
join_text ([] ∷ []) h = refl
join_text ([] ∷ m ∷ ms) h = ap trim_end (first_feed (join_lines (m ∷ ms))) ∙ join_text (m ∷ ms) h.1
join_text ((c ∷ l) ∷ ls) h =
    ap (λ (t : Text). trim_end (trim_start t)) (join_behind (c ∷ l) ls)
    ∙ ap trim_end (first_solid c (l ++ behind ls) h.0.begins)
    ∙ end_behind (c ∷ l) (behind ls) refl h.0.ends
    ∙ ap (λ (t : Text). (c ∷ l) ++ t) (behind_text zero ls h.1)

-- ── The cleaned text ──

clean_all : (ls : List Text) → AllTight (map clean_line ls)
clean_all [] = tt
clean_all (l ∷ ls) = (clean_tight l, clean_all ls)

-- The cleaned lines of a text.
abbrev pub clean_lines : Text → List Text
clean_lines cs = map clean_line (lines cs)

pub clean_text : (cs : Text) → clean_doc cs ≡ lines_text 0 (clean_lines cs)
unfolding clean_doc
clean_text cs = join_text (clean_lines cs) (clean_all (lines cs))
