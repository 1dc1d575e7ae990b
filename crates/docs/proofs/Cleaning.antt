-- The cleaned text written line by line. Assumes nothing.
use Rattle.std.specs.Prelude.{Option, Some, None}
use mathlib.Core.Path.{◌≡◌, refl, sym, ◌∙◌, ap, subst}
use mathlib.Core.Bool.{Bool, true, false}
use mathlib.Core.List.{List, [], ◌∷◌, ◌++◌, map}
use Prim.Native.Nat.{ℕ, zero, suc, ◌+◌, ◌-◌, ◌≤◌, ◌<◌}
use native.Mathlib.Nat.{sub-zero}
use native.Mathlib.Omega.{arith}
use borrow.Author.Tests.{eqb-true, eqb-false, ne_eqb, eq-eqb}
use lib.ListN.{length, take, drop, replicate, length-replicate, length-append}
use lib.Seq.{slice, length-slice}
use Rattle.std.proofs.lemmas.Slice.{between_is}
use Rattle.characters.specs.Choice.{◌is◌}
use Rattle.characters.specs.Utf8.{encode_char, encode, chars_at, chars_of}
use Rattle.characters.proofs.Choice.{if_all, if_both}
use Rattle.characters.proofs.Widths.{width_bounds, char_length, encode_one}
use Rattle.characters.proofs.Characters.{chars_start}
use Rattle.characters.proofs.Texts.{encode_append}
use Rattle.rules.specs.Text.{Text, LF, is_empty}
use Rattle.rules.specs.Scan.{run}
use Rattle.rules.specs.Docs.{clean_line, clean_doc}
use Rattle.output.specs.Writing.{Put}
use Rattle.output.proofs.Buffers.{put_length, put_none, put_then, Writing, write_start, write_more, write_end}
use Rattle.doc_lines.specs.Lines.{in_line, behind_line, LineAt}
use Rattle.docs.specs.Texts.{line_text, feeds_after, lines_text, lines_from, Written}
use Rattle.doc_lines.specs.declared.Line.{Line}
use Rattle.docs.proofs.Joining.{more_lines, lines_first, clean_lines, clean_text}

-- ── The octets of a line ──

feeds_encode : (k : ℕ) → encode (replicate k LF) ≡ replicate k LF
unfolding encode
feeds_encode zero = refl
feeds_encode (suc k) = rw (feeds_encode k, encode_one LF (omega arith))

empty_append : (a b : List ℕ) → 1 ≤ length a → is_empty (a ++ b) ≡ false
unfolding is_empty
empty_append [] b h = absurd (omega arith)
empty_append (x ∷ a) b h = refl

empty_encode : (t : Text) → is_empty (encode t) ≡ is_empty t
unfolding encode is_empty
empty_encode [] = refl
empty_encode (c ∷ t) = empty_append (encode_char c) (encode t) (omega (arith, char_length c, width_bounds c))

line_encode : (k : ℕ) (t : Text) → encode (line_text k t) ≡ line_text k (encode t)
unfolding line_text encode
line_encode k t =
    rw (empty_encode t)
    (if_both (λ (x y : List ℕ). encode x ≡ y) (is_empty t) (λ _. refl)
    (λ _. encode_append (replicate k LF) t ∙ ap (λ (l : List ℕ). l ++ encode t) (feeds_encode k)))

-- A part is empty where it ends where it begins.
empty_length : (l : List ℕ) → is_empty l ≡ (length l is 0)
unfolding is_empty
empty_length [] = refl
empty_length (x ∷ l) = sym (ne_eqb (suc (length l)) 0 (λ e. omega arith))

pub empty_slice : (s : List ℕ) (from to : ℕ) → from ≤ to → to ≤ length s → is_empty (slice from to s) ≡ (from is to)
empty_slice s from to h k =
    empty_length (slice from to s) ∙ ap (λ (n : ℕ). n is 0) (length-slice from to s k) ∙ go (from is to) refl
  where
    go : (b : Bool) → (from is to) ≡ b → (to - from is 0) ≡ (from is to)
    go true e = let f = eqb-true from to e in rw e (eq-eqb (to - from) 0 (omega arith))
    go false e = let f = eqb-false from to e in rw e (ne_eqb (to - from) 0 (λ g. f (omega arith)))

-- ── Line feeds ──

-- None of `n` is written.
pub feed_start : (b : List ℕ) (at n : ℕ) → Writing b b at at (replicate (n - 0) LF) (replicate n LF)
feed_start b at n = rw (sub-zero n) (write_start b at (replicate n LF))

-- One more of `n`, where `i` are written.
pub feed_more : (old b c : List ℕ) (at n i p r : ℕ) → i < n → Writing old b at p (replicate (n - i) LF) (replicate n LF) → Put b c p (LF ∷ []) r
    → Writing old c at r (replicate (n - (i + 1)) LF) (replicate n LF)
feed_more old b c at n i p r h w q =
    let e : n - i ≡ suc (n - (i + 1)) = omega arith in
    write_more old b c at p r (LF ∷ []) (replicate (n - (i + 1)) LF) (replicate n LF)
    (subst (λ (m : ℕ). Writing old b at p (replicate m LF) (replicate n LF)) e w) q

-- All are written.
pub feed_end : (old b : List ℕ) (at n i p : ℕ) → n ≤ i → Writing old b at p (replicate (n - i) LF) (replicate n LF) → Put old b at (replicate n LF) p
feed_end old b at n i p h w =
    let e : n - i ≡ 0 = omega arith in
    write_end old b at p (replicate n LF) (subst (λ (m : ℕ). Writing old b at p (replicate m LF) (replicate n LF)) e w)

-- The line feeds that wait after a line.
module _ (k from to : ℕ) where
  pub feeds_one : (from ≡ to → ⊥) → 1 ≡ feeds_after k (from is to)
  unfolding feeds_after
  feeds_one h = rw (ne_eqb from to h)

  pub feeds_none : from ≡ to → k ≡ 0 → 0 ≡ feeds_after k (from is to)
  unfolding feeds_after
  feeds_none h e = rw (eq-eqb from to h, eq-eqb k 0 e)

  pub feeds_more : from ≡ to → (k ≡ 0 → ⊥) → k + 1 ≡ feeds_after k (from is to)
  unfolding feeds_after
  feeds_more h e = rw (eq-eqb from to h, ne_eqb k 0 e)

feeds_most : (k : ℕ) → feeds_after k true ≤ k + 1
unfolding feeds_after
feeds_most k = if_all (λ (n : ℕ). n ≤ k + 1) (k is 0) (λ _. omega arith) (λ _. omega arith)

-- ── What a line adds ──

module _ (k : ℕ) where
  pub put_empty : (l b : List ℕ) (at : ℕ) → length l ≡ 0 → Put b b at (line_text k l) at
  unfolding line_text is_empty
  put_empty [] b at e = put_none b at
  put_empty (x ∷ l) b at e = absurd (omega arith)

  pub put_full : (l a b c : List ℕ) (at m r : ℕ) → (length l ≡ 0 → ⊥) → Put a b at (replicate k LF) m → Put b c m l r → Put a c at (line_text k l) r
  unfolding line_text is_empty
  put_full [] a b c at m r e p q = absurd (e refl)
  put_full (x ∷ l) a b c at m r e p q = put_then a b c at m r (replicate k LF) (x ∷ l) p q

-- The line's bytes, as the code lends them.
pub line_slice : (s : List ℕ) (from to k : ℕ) {old new : List ℕ} {at r : ℕ} → Put old new at (line_text k (take (to - from) (drop from s))) r
    → Put old new at (line_text k (slice from to s)) r
line_slice s from to k p = rw (← between_is s from to) p

module _ (s : List ℕ) (from to k : ℕ) (h : from ≤ to) (i : to ≤ length s) where
  line_none : from ≡ to → line_text k (slice from to s) ≡ []
  unfolding line_text
  line_none e = rw (empty_slice s from to h i, eq-eqb from to e)

  line_some : (from ≡ to → ⊥) → line_text k (slice from to s) ≡ replicate k LF ++ slice from to s
  unfolding line_text
  line_some e = rw (empty_slice s from to h i, ne_eqb from to e)

  -- How much it can be.
  pub line_small : length (line_text k (slice from to s)) ≤ k + (to - from)
  line_small = go (from is to) refl
    where
      go : (b : Bool) → (from is to) ≡ b → length (line_text k (slice from to s)) ≤ k + (to - from)
      go true e = rw (line_none (eqb-true from to e)) (omega arith)
      go false e =
          rw (line_some (eqb-false from to e))
          (omega (arith, length-append (replicate k LF) (slice from to s), length-replicate k LF, length-slice from to s i))

  -- With the line feeds that wait after it.
  pub line_room : length (line_text k (slice from to s)) + feeds_after k (from is to) ≤ k + (to - from) + 1
  line_room = go (from is to) refl
    where
      go : (b : Bool) → (from is to) ≡ b → length (line_text k (slice from to s)) + feeds_after k (from is to) ≤ k + (to - from) + 1
      go true e = rw (line_none (eqb-true from to e), e) (omega (arith, feeds_most k))
      go false e = omega (arith, line_small, sym (feeds_one k from to (eqb-false from to e)))

-- ── A part as it stands ──

pub part_written : (s old new : List ℕ) (from to at r : ℕ) (t : Text) → from ≤ to → to ≤ length s → slice from to s ≡ encode t
    → Put old new at (slice from to s) r → Written s old new at t r
part_written s old new from to at r t h i e p =
    record {
      put = subst (λ (l : List ℕ). Put old new at l r) e p;
      small = omega (arith, p.place, length-slice from to s i);
    }

-- ── Line by line ──

-- The lines from a place on, of which the first is known.
module _ (s : List ℕ) (at : ℕ) (l : Line) (a : LineAt clean_line true s at l) where
  line : Text
  line = clean_line (run (in_line true) (chars_at s at)).taken

  abbrev rest : List Text
  rest = lines_from s l.next

  rest_lines : map clean_line (more_lines (run (in_line true) (chars_at s at)).left) ≡ rest
  rest_lines = ap (λ (t : Text). map clean_line (more_lines t)) a.left ∙ go l.next
    where
      go : (next : Option ℕ) → map clean_line (more_lines (behind_line s next)) ≡ lines_from s next
      go None = refl
      go (Some n) = refl

  line_empty : is_empty line ≡ (l.from is l.to)
  unfolding line
  line_empty =
      sym (empty_encode line) ∙ ap is_empty (sym a.text) ∙ empty_slice s l.from l.to a.forth a.inside

  pub line_bytes_lem : (k : ℕ) → encode (lines_text k (clean_lines (chars_at s at)))
      ≡ line_text k (slice l.from l.to s) ++ encode (lines_text (feeds_after k (l.from is l.to)) rest)
  unfolding line lines_text
  line_bytes_lem k =
      ap (λ (ls : List Text). encode (lines_text k (map clean_line ls))) (lines_first (chars_at s at))
      ∙ ap (λ (ls : List Text). encode (line_text k line ++ lines_text (feeds_after k (is_empty line)) ls)) rest_lines
      ∙ ap (λ (b : Bool). encode (line_text k line ++ lines_text (feeds_after k b) rest)) line_empty
      ∙ encode_append (line_text k line) (lines_text (feeds_after k (l.from is l.to)) rest)
      ∙ ap (λ (x : List ℕ). x ++ encode (lines_text (feeds_after k (l.from is l.to)) rest))
      (line_encode k line ∙ ap (line_text k) (sym a.text))

-- The octets of the cleaned text, and of lines with the line feeds that wait before them.
abbrev whole : List ℕ → List ℕ
whole s = encode (clean_doc (chars_of s))

abbrev ahead : ℕ → List Text → List ℕ
ahead k ls = encode (lines_text k ls)

-- The lines from a place on are still to be written; `k` line feeds wait.
pub record Cleaning (s old b : List ℕ) (at place k end : ℕ) : Type 0 where
  pub writing : Writing old b at end (ahead k (clean_lines (chars_at s place))) (whole s)
  pub small : end + k ≤ at + place
  pub inside : place ≤ length s

pub clean_start : (s b : List ℕ) (at : ℕ) → Cleaning s b b at 0 0 at
clean_start s b at =
    let e = clean_text (chars_of s) ∙ ap (λ (t : Text). lines_text 0 (clean_lines t)) (sym (chars_start s)) in
    record {
      writing = subst (λ (t : Text). Writing b b at at (encode t) (whole s)) e (write_start b at (whole s));
      small = omega arith;
      inside = omega arith;
    }

module _ (s old b : List ℕ) (at place k end : ℕ) (w : Cleaning s old b at place k end) (l : Line) (a : LineAt clean_line true s place l)
    (c : List ℕ) (r : ℕ) (p : Put b c end (line_text k (slice l.from l.to s)) r) where
  next_writing : Writing old c at r (ahead (feeds_after k (l.from is l.to)) (rest s place l a)) (whole s)
  next_writing =
      write_more old b c at end r (line_text k (slice l.from l.to s))
      (ahead (feeds_after k (l.from is l.to)) (rest s place l a)) (whole s)
      (subst (λ (x : List ℕ). Writing old b at end x (whole s)) (line_bytes_lem s place l a k) w.writing)
      p

  pub clean_size : length c ≡ length old
  clean_size = put_length b c end r (line_text k (slice l.from l.to s)) p ∙ w.writing.size

  -- The last line is written.
  pub clean_last : l.next ≡ None → Written s old c at (clean_doc (chars_of s)) r
  unfolding lines_text encode
  clean_last e =
      let q = w.small in
      let f : rest s place l a ≡ [] = ap (lines_from s) e in
      record {
        put =
            write_end old c at r (whole s)
            (subst (λ (ls : List Text). Writing old c at r (ahead (feeds_after k (l.from is l.to)) ls) (whole s)) f next_writing);
        small = omega (arith, p.place, a.begins, a.forth, a.inside, line_small s l.from l.to k a.forth a.inside);
      }

  -- One line more is written.
  pub clean_more : (n k' : ℕ) → l.next ≡ Some n → k' ≡ feeds_after k (l.from is l.to) → Cleaning s old c at n k' r
  clean_more n k' e f =
      let q = w.small in
      let g : rest s place l a ≡ clean_lines (chars_at s n) = ap (lines_from s) e in
      record {
        writing =
            rw f
            (subst (λ (ls : List Text). Writing old c at r (ahead (feeds_after k (l.from is l.to)) ls) (whole s)) g next_writing);
        small = omega (arith, f, p.place, a.begins, a.forth, a.goes n e, line_room s l.from l.to k a.forth a.inside);
        inside = a.within n e;
      }
