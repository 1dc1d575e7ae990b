-- Doc texts written: one of one line at once, a longer one part by part. Assumes nothing.
use mathlib.Core.Path.{◌≡◌, sym, ◌∙◌, ap, subst}
use mathlib.Core.Bool.{true, false, ◌||◌, or-true}
use mathlib.Core.List.{List, [], ◌∷◌, ◌++◌, append-nil, append_assoc}
use Prim.Native.Nat.{ℕ, ◌+◌, ◌*◌, ◌≤◌}
use native.Mathlib.Omega.{arith}
use lib.ListN.{length, take, drop, take-append-drop}
use lib.Seq.{slice}
use Rattle.characters.specs.Utf8.{encode_char, encode, chars_of}
use Rattle.characters.proofs.Widths.{encode_one}
use Rattle.rules.specs.Text.{Text, text, LF, one_of}
use Rattle.rules.specs.Docs.{clean_doc}
use Rattle.output.specs.Writing.{Put}
use Rattle.output.proofs.Buffers.{put_none, put_then, Writing, write_start, write_more, write_end}
use Rattle.prints.specs.Print.{doc}
use Rattle.prints.specs.Writing.{starred}
use Rattle.prints.proofs.Stepwise.{doc_starred}
use Rattle.print_escapes.proofs.Bare.{put_same}
use Rattle.text_parts.specs.Parts.{part_bytes, PartWithin}
use Rattle.text_parts.specs.Lines.{text_left, left_size, GoodCursor, Begun, PartBefore, GoesOn}
use Rattle.text_parts.specs.declared.Part.{Part}
use Rattle.text_parts.specs.declared.Part.TheVariants as part
use Rattle.text_parts.specs.declared.lines.Cursor.{Cursor}
use Rattle.text_parts.proofs.Walking.{begin_small}
use Rattle.print_docs.specs.Docs.{LinePart}
use Rattle.print_docs.proofs.Starred.{feed_append, feedless_part, starred_append, starred_plain, starred_feed, starred_none, starred_small}

-- ── A whole doc text ──

module _ (t : Text) (a b c d : List ℕ) (at m n r : ℕ) where
  doc_short : one_of t LF ≡ false → doc t ≡ text "/// " ++ t
  doc_short e = doc_starred t ∙ rw e

  doc_long : one_of t LF ≡ true → doc t ≡ text "/**\n* " ++ (starred t ++ text "\n*/")
  doc_long e = doc_starred t ∙ rw e

  pub short_put : one_of t LF ≡ false → Put a b at (text "/// ") m → Put b c m t n → Put c d n (LF ∷ []) r → Put a d at (doc t ++ (LF ∷ [])) r
  short_put e p q w =
      put_same a d at r (doc t ++ (LF ∷ [])) (text "/// " ++ (t ++ (LF ∷ [])))
      (ap (λ (l : Text). l ++ (LF ∷ [])) (doc_short e))
      (put_then a b d at m r (text "/// ") (t ++ (LF ∷ [])) p (put_then b c d m n r t (LF ∷ []) q w))

  pub long_put : one_of t LF ≡ true → Put a b at (text "/**\n* ") m → Put b c m (starred t) n → Put c d n (text "\n*/\n") r
      → Put a d at (doc t ++ (LF ∷ [])) r
  long_put e p q w =
      put_same a d at r (doc t ++ (LF ∷ [])) (text "/**\n* " ++ (starred t ++ text "\n*/\n"))
      (ap (λ (l : Text). l ++ (LF ∷ [])) (doc_long e) ∙ ap (λ (l : Text). text "/**\n* " ++ l) (append_assoc (starred t) (text "\n*/") (LF ∷ [])))
      (put_then a b d at m r (text "/**\n* ") (starred t ++ text "\n*/\n") p (put_then b c d m n r (starred t) (text "\n*/\n") q w))

-- A part of a slice without line feeds has none.
pub slice_feedless : (s : List ℕ) (from to : ℕ) → one_of s LF ≡ false → one_of (slice from to s) LF ≡ false
slice_feedless s from to e =
    let f : one_of (take to s) LF ≡ false = (feedless_part (take to s) (drop to s) (ap (λ (l : Text). one_of l LF) (take-append-drop to s) ∙ e)).0 in
    (feedless_part (take from (take to s)) (slice from to s) (ap (λ (l : Text). one_of l LF) (take-append-drop from (take to s)) ∙ f)).1

-- ── One part ──

module _ (s a b : List ℕ) (x : Part) (at r : ℕ) where
  pub bytes_put : (from to : ℕ) → x ≡ part.Bytes from to → LinePart s x → Put a b at (slice from to s) r → Put a b at (starred (part_bytes s x)) r
  bytes_put from to e l p =
      let f : LinePart s (part.Bytes from to) = subst (LinePart s) e l in
      put_same a b at r (starred (part_bytes s x)) (slice from to s)
      (ap (λ (y : Part). starred (part_bytes s y)) e ∙ starred_plain (slice from to s) f.2) p

  pub feed_put : (c : ℕ) → x ≡ part.Char c → LinePart s x → Put a b at (text "\n* ") r → Put a b at (starred (part_bytes s x)) r
  feed_put c e l p =
      let f : LinePart s (part.Char c) = subst (LinePart s) e l in
      put_same a b at r (starred (part_bytes s x)) (text "\n* ")
      (ap (λ (y : Part). starred (part_bytes s y)) e ∙ (ap (λ (d : ℕ). starred (encode_char d)) f ∙ (ap starred (encode_one LF (omega arith)) ∙ starred_feed))) p

pub nothing_put : (s a : List ℕ) (x : Part) (at : ℕ) → x ≡ part.Nothing → Put a a at (starred (part_bytes s x)) at
nothing_put s a x at e =
    put_same a a at at (starred (part_bytes s x)) [] (ap (λ (y : Part). starred (part_bytes s y)) e ∙ starred_none) (put_none a at)

-- ── Part by part ──

-- What the cursor `d` still gives is still to be written, from the place `p` on.
pub record Lining (s old b : List ℕ) (at : ℕ) (c d : Cursor) (p : ℕ) : Type 0 where
  pub good : GoodCursor s d
  pub writing : Writing old b at p (starred (text_left s d)) (starred (text_left s c))

pub line_start : (s b : List ℕ) (at : ℕ) (c : Cursor) → GoodCursor s c → Lining s b b at c c at
line_start s b at c g = record { good = g; writing = write_start b at (starred (text_left s c)) }

line_part : (s : List ℕ) (d : Cursor) (x : Part) → PartWithin s x → PartBefore s d x → LinePart s x
line_part s d (part.Bytes from to) (h, i) (e, w) = (omega arith, i, e)
line_part s d (part.Char c) h (e, w) = e
line_part s d part.Nothing h k = tt

pub goes_part : (s : List ℕ) (c : Cursor) (x : Part) (d : Cursor) → GoesOn s c x d → LinePart s x
goes_part s c x d g = line_part s d x g.inside g.kind

module _ (s old b : List ℕ) (at : ℕ) (c d : Cursor) (p : ℕ) (w : Lining s old b at c d p) where
  -- No place is far behind the first.
  pub line_small : p ≤ at + 3 * left_size s c
  line_small = omega (arith, w.writing.used, starred_small (text_left s c))

  pub line_more : (x : Part) (f : Cursor) (e : List ℕ) (r : ℕ) → GoesOn s d x f → Put b e p (starred (part_bytes s x)) r
      → Lining s old e at c f r
  line_more x f e r g q =
      let k = ap starred g.text ∙ starred_append (part_bytes s x) (text_left s f) in
      record {
        good = g.good;
        writing =
            write_more old b e at p r (starred (part_bytes s x)) (starred (text_left s f)) (starred (text_left s c))
            (subst (λ (l : List ℕ). Writing old b at p l (starred (text_left s c))) k w.writing)
            q;
      }

  pub line_end : text_left s d ≡ [] → Put old b at (starred (text_left s c)) p
  line_end e =
      write_end old b at p (starred (text_left s c))
      (subst (λ (l : List ℕ). Writing old b at p l (starred (text_left s c))) (ap starred e ∙ starred_none) w.writing)

-- ── The text of a block, by its first two parts ──

module _ (s : List ℕ) (c : Cursor) (b : Begun s c) where
  abbrev whole : Text
  whole = encode (clean_doc (chars_of s))

  pub block_small : left_size s c ≤ length s
  block_small = begin_small s c b

  pub block_put : (x y : List ℕ) (at r : ℕ) (t : Text) → text_left s c ≡ t → Put x y at (doc t ++ (LF ∷ [])) r
      → Put x y at (doc whole ++ (LF ∷ [])) r
  block_put x y at r t e p =
      put_same x y at r (doc whole ++ (LF ∷ [])) (doc t ++ (LF ∷ [])) (ap (λ (l : Text). doc l ++ (LF ∷ [])) (sym b.text ∙ e)) p

  module _ (x : Part) (d : Cursor) (g : GoesOn s c x d) where
    first_line_lem : x ≡ part.Bytes c.from c.to
    first_line_lem = g.line b.none

    behind_first : text_left s c ≡ slice c.from c.to s ++ text_left s d
    behind_first = g.text ∙ ap (λ (y : Part). part_bytes s y ++ text_left s d) first_line_lem

    kind : PartBefore s d (part.Bytes c.from c.to)
    kind = subst (PartBefore s d) first_line_lem g.kind

    pub one_line : text_left s d ≡ [] → text_left s c ≡ slice c.from c.to s
    one_line e = behind_first ∙ (ap (λ (l : Text). slice c.from c.to s ++ l) e ∙ append-nil (slice c.from c.to s))

    pub line_feedless : one_of (slice c.from c.to s) LF ≡ false
    line_feedless = kind.0

    pub more_lines_lem : (y : Part) (e : Cursor) → GoesOn s d y e → one_of (text_left s c) LF ≡ true
    unfolding one_of
    more_lines_lem y e h =
        let f : text_left s d ≡ LF ∷ text_left s e
        = h.text ∙ (ap (λ (z : Part). part_bytes s z ++ text_left s e) (h.feed (kind.1 h.here))
        ∙ ap (λ (l : Text). l ++ text_left s e) (encode_one LF (omega arith))) in
        ap (λ (l : Text). one_of l LF) behind_first
        ∙ (feed_append (slice c.from c.to s) (text_left s d)
        ∙ (ap (λ (l : Text). one_of (slice c.from c.to s) LF || one_of l LF) f ∙ or-true (one_of (slice c.from c.to s) LF)))
