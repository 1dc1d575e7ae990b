-- `${..}` outside of strings and doc comments, printed. Assumes nothing.
use mathlib.Core.Path.{◌≡◌, refl, sym, ◌∙◌, ap, subst}
use mathlib.Core.Bool.{true, false, not, true≢false}
use mathlib.Core.List.{List, [], ◌∷◌, ◌++◌}
use Prim.Native.Nat.{ℕ, ◌+◌, ◌-◌, ◌≤◌}
use native.Mathlib.Omega.{arith}
use borrow.Author.Tests.{not-true, eq-eqb}
use lib.ListN.{length, take, drop, length-take, length-drop}
use lib.Seq.{slice, take-add, drop_at, length-take-le}
use Rattle.characters.specs.Choice.{◌is◌}
use Rattle.characters.specs.Utf8.{chars_at, chars_of, encode_char, encode}
use Rattle.characters.proofs.Choice.{if_all, and_both}
use Rattle.spans.specs.declared.Position.{Position}
use Rattle.rules.specs.Text.{Char, Text, ch, text, LF, one_of}
use Rattle.rules.specs.Bounds.{Every}
use Rattle.rules.specs.Scan.{next, starts_with, Part, run}
use Rattle.rules.specs.Script.{LIMIT}
use Rattle.rules.specs.Tables.{StringInterpStart, DocComment}
use Rattle.rules.specs.Comments.{not_lf}
use Rattle.rules.specs.Docs.{trim, clean_doc}
use Rattle.rules.proofs.Ahead.{is_not}
use Rattle.bridge.specs.Bridge.{placed, Within, exactly}
use Rattle.bridge.proofs.Bytes.{starts_first}
use Rattle.output.specs.Writing.{Put}
use Rattle.walks.specs.Segments.{errors_at, OneToken}
use Rattle.walks.specs.Openings.{opens_doc}
use Rattle.multiline.specs.Tokens.{dollar_brace, slashes, BracesAt, DocLineAt, DocBlockAt}
use Rattle.multiline.specs.declared.Filled.{Filled}
use Rattle.multiline.specs.declared.DocLine.{DocLine}
use Rattle.multiline.specs.declared.DocBlock.{DocBlock}
use Rattle.prints.specs.Print.{doc, is_doc}
use Rattle.prints.specs.Writing.{begun}
use Rattle.prints.proofs.Stepwise.{begun_braces, begun_doc}
use Rattle.prints.proofs.Bytewise.{BytesOf, low, high, bytes_of_char}
use Rattle.print_escapes.proofs.Bare.{put_same}
use Rattle.print_docs.proofs.Starred.{feed_append}
use Rattle.print_docs.proofs.Sizes.{doc_small}
use Rattle.print_places.specs.Places.{Emits}
use Rattle.print_places.proofs.Elements.{word_of, alone_emits}
use Rattle.print_tokens.proofs.Faults.{token_right, quote_is}
use Rattle.print_tokens.proofs.Sizes.{token_small}

-- ── Braces ──

pub braces_placed : (s : List ℕ) (from : ℕ) (p : Position) (texts texts' : List ℕ) (m : Filled) → p ≡ placed from
    → BracesAt s p texts texts' 0 m → BracesAt s (placed from) texts texts' 0 m
braces_placed s from p texts texts' m e i = subst (λ (x : Position). BracesAt s x texts texts' 0 m) e i

pub braces_emits : (s : List ℕ) (from : ℕ) (texts texts' : List ℕ) (m : Filled) → starts_with dollar_brace (chars_at s from) ≡ true
    → BracesAt s (placed from) texts texts' 0 m → (a b : List ℕ) (at r : ℕ) → Put a b at (text "${}") r
    → Emits true s from a b at (record { at = m.at.offset; out = r })
unfolding is_doc
braces_emits s from texts texts' m e i a b at r p =
    let w = word_of StringInterpStart (text "${...}") in
    alone_emits s from StringInterpStart (text "${...}") m.at i.one i.errors refl
    a b at (record { at = m.at.offset; out = r }) refl (omega (arith, p.place, i.one.forth))
    (quote_is s from (ch "$") (omega arith) (omega arith) (starts_first (ch "$") (text "{") (chars_at s from) e))
    (put_same a b at r (begun false w) (text "${}") (begun_braces w refl) p)

-- ── Doc comments ──

module _ (s : List ℕ) (from : ℕ) (t : Text) (q : Position) (one : OneToken s (placed from) DocComment t q q)
    (e : next (exactly (ch "/")) (chars_at s from) ≡ true) where
  doc_emits : errors_at s (placed from) ≡ [] → (a b : List ℕ) (at r : ℕ) → Put a b at (doc (encode t) ++ (LF ∷ [])) r
      → Emits false s from a b at (record { at = q.offset; out = r })
  unfolding is_doc
  doc_emits n a b at r p =
      let w = word_of DocComment t in
      alone_emits s from DocComment t q one n refl a b at (record { at = q.offset; out = r }) refl
      (omega (arith, p.place, doc_small (encode t), token_small s (placed from) DocComment t q q one, one.forth))
      (quote_is s from (ch "/") (omega arith) (omega arith) e)
      (put_same a b at r (begun false w) (doc (encode t) ++ (LF ∷ [])) (begun_doc w refl) p)

-- The code's part of a text.
pub part_slice : (s : List ℕ) (m t : ℕ) → m ≤ t → t ≤ length s → take (t - m) (drop m s) ≡ slice m t s
part_slice s m t h k =
    let e : m + (t - m) ≡ t = omega arith in
    let w : length (take m s) ≡ m = length-take-le m s (omega arith) in
    let x : take t s ≡ take m s ++ take (t - m) (drop m s) = ap (λ (n : ℕ). take n s) (sym e) ∙ take-add m (t - m) s in
    sym (ap (drop m) x ∙ drop_at (take m s) (take (t - m) (drop m s)) m w)

pub part_small : (s : List ℕ) (p : Position) (m t : ℕ) → Within s p → length (take (t - m) (drop m s)) ≤ LIMIT
part_small s p m t w = omega (arith, length-take (t - m) (drop m s), length-drop m s, w.size)

-- ── No line feed stands in a line ──

none_cons : (c : Char) (t : Text) → (c is LF) ≡ false → one_of t LF ≡ false → one_of (c ∷ t) LF ≡ false
unfolding one_of
none_cons c t e h = rw (is_not LF c (λ q. true≢false (sym (eq-eqb c LF (sym q)) ∙ e)), h)

none_high : (t : Text) → Every (λ (c : ℕ). 0x80 ≤ c) t → one_of t LF ≡ false
none_high [] h = unfold one_of in refl
none_high (c ∷ t) h = none_cons c t (is_not c LF (λ e. let k = h.0 in omega arith)) (none_high t h.1)

none_char : (c : Char) → (c is LF) ≡ false → one_of (encode_char c) LF ≡ false
none_char c e = go (bytes_of_char c)
  where
    go : BytesOf c → one_of (encode_char c) LF ≡ false
    go (low l f) = rw f (none_cons c [] e (unfold one_of in refl))
    go (high l b bs f g gs) = rw f (none_high (b ∷ bs) (g, gs))

line_feedless : (cs : Text) → one_of (encode (run not_lf cs).taken) LF ≡ false
unfolding run encode
line_feedless [] = unfold one_of in refl
line_feedless (c ∷ cs) =
    if_all (λ (x : Part). one_of (encode x.taken) LF ≡ false) (not (c is LF))
    (λ e. feed_append (encode_char c) (encode (run not_lf cs).taken) ∙ rw (none_char c (not-true (c is LF) e), line_feedless cs))
    (λ _. (unfold one_of in refl))

-- ── The two sorts ──

module _ (s : List ℕ) (from : ℕ) (e : starts_with slashes (chars_at s from) ≡ true) (d : DocLine) (i : DocLineAt s (placed from) d) where
  pub part_feedless : one_of (take (d.to - d.from) (drop d.from s)) LF ≡ false
  part_feedless =
      ap (λ (l : Text). one_of l LF) (part_slice s d.from d.to i.forth i.inside ∙ i.part)
      ∙ line_feedless (drop 3 (chars_at s from))

  pub line_emits : (a b : List ℕ) (at r : ℕ) → Put a b at (doc (encode (trim (chars_of (take (d.to - d.from) (drop d.from s))))) ++ (LF ∷ [])) r
      → Emits false s from a b at (record { at = d.at.offset; out = r })
  line_emits a b at r p =
      doc_emits s from (trim (chars_of (slice d.from d.to s))) d.at i.one (starts_first (ch "/") (text "//") (chars_at s from) e) i.errors a b at r
      (subst (λ (l : List ℕ). Put a b at (doc (encode (trim (chars_of l))) ++ (LF ∷ [])) r) (part_slice s d.from d.to i.forth i.inside) p)

pub block_placed : (s : List ℕ) (from : ℕ) (p : Position) (errors errors' : List ℕ) (d : DocBlock) → p ≡ placed from
    → DocBlockAt s p errors errors' 0 d → DocBlockAt s (placed from) errors errors' 0 d
block_placed s from p errors errors' d e i = subst (λ (x : Position). DocBlockAt s x errors errors' 0 d) e i

module _ (s : List ℕ) (from : ℕ) (e : opens_doc (chars_at s from) ≡ true) (errors errors' : List ℕ) (d : DocBlock)
    (i : DocBlockAt s (placed from) errors errors' 0 d) where
  opening : next (exactly (ch "/")) (chars_at s from) ≡ true
  unfolding opens_doc
  opening =
      starts_first (ch "/") (text "**") (chars_at s from)
      (and_both (starts_with (text "/**") (chars_at s from)) (not (starts_with (text "/**/") (chars_at s from))) e).0

  pub block_emits : d.errors ≤ 0 → (a b : List ℕ) (at r : ℕ)
      → Put a b at (doc (encode (clean_doc (chars_of (take (d.to - d.from) (drop d.from s))))) ++ (LF ∷ [])) r
      → Emits false s from a b at (record { at = d.at.offset; out = r })
  block_emits h a b at r p =
      let t = clean_doc (chars_of (slice d.from d.to s)) in
      doc_emits s from t d.at i.one opening (token_right s from DocComment t d.at i.one errors errors' d.errors i.written h) a b at r
      (subst (λ (l : List ℕ). Put a b at (doc (encode (clean_doc (chars_of l))) ++ (LF ∷ [])) r) (part_slice s d.from d.to i.forth i.inside) p)
