-- Where a token's text comes from, by its kind: it is made, or it is its segment's characters, or it is the kind's fixed spelling.
-- Which kinds these are, and the spellings, are parameters: one computed test of the tables says that they suit. Assumes nothing.
use Rattle.std.specs.Prelude.{if◌then◌else◌}
use mathlib.Core.Path.{◌≡◌, refl, sym, ap, ap₂, ◌∙◌}
use mathlib.Core.Bool.{Bool, true, false, ◌&&◌, ◌||◌, not, true≢false, false≢true}
use mathlib.Core.List.{List, [], ◌∷◌}
use mathlib.Core.Option.{Option, none, some}
use Prim.Native.Nat.{ℕ, zero, suc}
use Rattle.characters.specs.Choice.{◌is◌}
use Rattle.characters.specs.Space.{is_white}
use Rattle.characters.proofs.Choice.{if_all}
use Rattle.rules.specs.Text.{Char, Text, ch, text, LF, same_text, is_digit, is_ident_start, is_ident_part, is_empty}
use Rattle.rules.specs.Scan.{next, starts_with, run, ◌and_then◌}
use Rattle.rules.specs.Tables.{IntLiteral, FloatLiteral, StringLiteral, CharLiteral, Ident, StringInterpStart, DocComment, Error, KEYWORDS, keyword_in, lookup_keyword, Row, MARKS, THIRDS, lookup}
use Rattle.rules.specs.Segment.{Piece, piece, Fault, Segment}
use Rattle.rules.specs.Comments.{white_space, line_comment, block_comment}
use Rattle.rules.specs.Numbers.{maybe_suffix, whole_part, fraction, exponent, radix, decimal_kind, decimal, zero_then, parse_number}
use Rattle.rules.specs.Names.{parse_identifier_or_keyword}
use Rattle.rules.specs.Marks.{unexpected, spelling, two_marks, mark_with, mark_in, parse_mark}
use Rattle.rules.specs.Strings.{parse_raw_string, string_ran_out, string_broken, string_ended, Turn, stop, on, flush, string_escape, brace_interp, name_interp, is_interp_start, string_dollar, turn, follow, string_from, parse_string_tokens, parse_quote}
use Rattle.rules.specs.Characters.{close_char, char_escape, parse_char}
use Rattle.rules.specs.Docs.{line_doc, block_doc, parse_slash_or_comment}
use Rattle.rules.specs.Lexer.{dollar_braces, parse_dollar, segment}
use Rattle.rules.specs.Bounds.{Every}
use Rattle.rules.proofs.Ahead.{and_left, and_right, is_eq}
use Rattle.rules.proofs.Every.{every_append, every_weaken}

-- ── Texts that are the same ──

pub same_text_lem : (a b : Text) → same_text a b ≡ true → a ≡ b
unfolding same_text
same_text_lem [] [] e = refl
same_text_lem [] (d ∷ ds) e = absurd (false≢true e)
same_text_lem (c ∷ cs) [] e = absurd (false≢true e)
same_text_lem (c ∷ cs) (d ∷ ds) e =
    ap₂ (λ x y. x ∷ y) (is_eq c d (and_left (c is d) (same_text cs ds) e)) (same_text_lem cs ds (and_right (c is d) (same_text cs ds) e))

-- ── Tables ──

-- A test that holds of every row of a table holds of the row that is found.
unfoldable pub all_rows {ℓ} : {A : Type ℓ} → (ℕ → A → Bool) → List (ℕ × A) → Bool
all_rows ok [] = true
all_rows ok (x ∷ xs) = ok x.0 x.1 && all_rows ok xs

pub found_right : {A : Type 0} (ok : ℕ → A → Bool) (c : ℕ) (rows : List (ℕ × A)) (v : A)
    → all_rows ok rows ≡ true → lookup c rows ≡ some v → ok c v ≡ true
unfolding lookup all_rows
found_right ok c [] v t e = cc
found_right ok c (x ∷ xs) v t e = go (c is x.0) refl (found_right ok c xs v (and_right (ok x.0 x.1) (all_rows ok xs) t)) e
  where
    go : (b : Bool) → (c is x.0) ≡ b → (lookup c xs ≡ some v → ok c v ≡ true) → (if b then some x.1 else lookup c xs) ≡ some v → ok c v ≡ true
    go true q ih e' =
        let w : x.1 ≡ v = cc in
        rw (is_eq c x.0 q, ← w) (and_left (ok x.0 x.1) (all_rows ok xs) t)
    go false q ih e' = ih e'

-- `made` and `script` are the kinds whose text is made and whose text is a part of the script; `fits` is what else is asked of a
-- kind; `spelled` are the spellings of the other kinds.
pub record Kinds : Type 0 where
  pub made : ℕ → Bool
  pub script : ℕ → Bool
  pub fits : ℕ → Bool
  pub spelled : ℕ → Text

-- ── The test of the tables ──

-- A kind whose text is made, and a kind whose text is `t`, all its segment's characters.
unfoldable pub made_right : Kinds → ℕ → Bool
made_right K k = K.made k && K.fits k

unfoldable pub whole_right : Kinds → Text → ℕ → Bool
whole_right K t k = not (K.made k) && (K.script k || same_text t (K.spelled k)) && K.fits k

-- A kind whose text `t` is not its segment's characters, or need not be.
unfoldable pub fixed_right : Kinds → Text → ℕ → Bool
fixed_right K t k = not (K.made k) && not (K.script k) && same_text t (K.spelled k) && K.fits k

-- A kind whose text is a part of the script.
unfoldable pub part_right : Kinds → ℕ → Bool
part_right K k = not (K.made k) && K.script k && K.fits k

unfoldable pub keywords_right : Kinds → List (Text × ℕ) → Bool
keywords_right K [] = true
keywords_right K (r ∷ rs) = whole_right K r.0 r.1 && keywords_right K rs

-- Two marks are spelled as their kind says, and three as theirs.
unfoldable pub pair_right : Kinds → Char → Char → ℕ → Option ℕ → Bool
pair_right K c d k none = fixed_right K (spelling k c d) k
pair_right K c d k (some third) = whole_right K (c ∷ d ∷ d ∷ []) third && whole_right K (c ∷ d ∷ []) k

unfoldable pub column_right : Kinds → Char → Char → ℕ → Bool
column_right K c d k = pair_right K c d k (lookup k THIRDS)

unfoldable pub mark_right : Kinds → Char → Row → Bool
mark_right K c r = whole_right K (c ∷ []) r.alone && all_rows (column_right K c) r.columns

-- What the kinds and the spellings have to pass.
pub record Suits (K : Kinds) : Type 0 where
  pub string_made : made_right K StringLiteral ≡ true
  pub char_made : made_right K CharLiteral ≡ true
  pub interp_made : made_right K StringInterpStart ≡ true
  pub doc_made : made_right K DocComment ≡ true
  pub int_part : part_right K IntLiteral ≡ true
  pub float_part : part_right K FloatLiteral ≡ true
  pub name_part : part_right K Ident ≡ true
  pub error_part : part_right K Error ≡ true
  pub keywords : keywords_right K KEYWORDS ≡ true
  pub marks : all_rows (mark_right K) MARKS ≡ true

-- ── A token's text ──

pub record Sourced (K : Kinds) (chars : Text) (x : Piece) : Type 0 where
  pub part : K.made x.kind ≡ false → K.script x.kind ≡ true → x.text ≡ chars
  pub fixed : K.made x.kind ≡ false → K.script x.kind ≡ false → x.text ≡ K.spelled x.kind
  pub fits : K.fits x.kind ≡ true

module _ (K : Kinds) where
  abbrev pub SegmentSourced : Segment → Type 0
  SegmentSourced s = Every (Sourced K s.chars) s.pieces

  made_sourced : (chars t : Text) (k e : ℕ) → made_right K k ≡ true → Sourced K chars (piece k t e)
  unfolding made_right
  made_sourced chars t k e h =
      let m = and_left (K.made k) (K.fits k) h in
      record {
        part = λ n s. absurd (true≢false (sym m ∙ n));
        fixed = λ n s. absurd (true≢false (sym m ∙ n));
        fits = and_right (K.made k) (K.fits k) h;
      }

  part_sourced : (t : Text) (k e : ℕ) → part_right K k ≡ true → Sourced K t (piece k t e)
  unfolding part_right
  part_sourced t k e h =
      let a = not (K.made k) && K.script k in
      let s = and_right (not (K.made k)) (K.script k) (and_left a (K.fits k) h) in
      record { part = λ n s. refl; fixed = λ n s'. absurd (true≢false (sym s ∙ s')); fits = and_right a (K.fits k) h }

  whole_sourced : (t : Text) (k e : ℕ) → whole_right K t k ≡ true → Sourced K t (piece k t e)
  unfolding whole_right
  whole_sourced t k e h =
      let b = K.script k || same_text t (K.spelled k) in
      let a = not (K.made k) && b in
      let s = and_right (not (K.made k)) b (and_left a (K.fits k) h) in
      record {
        part = λ n s. refl;
        fixed = λ n s'. same_text_lem t (K.spelled k) (sym (ap (λ (x : Bool). x || same_text t (K.spelled k)) s') ∙ s);
        fits = and_right a (K.fits k) h;
      }

  fixed_sourced : (chars t : Text) (k e : ℕ) → fixed_right K t k ≡ true → Sourced K chars (piece k t e)
  unfolding fixed_right
  fixed_sourced chars t k e h =
      let c = not (K.made k) && not (K.script k) in
      let b = c && same_text t (K.spelled k) in
      let g = and_left b (K.fits k) h in
      let n : not (K.script k) ≡ true = and_right (not (K.made k)) (not (K.script k)) (and_left c (same_text t (K.spelled k)) g) in
      record {
        part = λ _ s. absurd (false≢true (sym (ap not s) ∙ n));
        fixed = λ _ _. same_text_lem t (K.spelled k) (and_right c (same_text t (K.spelled k)) g);
        fits = and_right b (K.fits k) h;
      }

-- ── Every segment ──

module _ (K : Kinds) (S : Suits K) where
  -- Names.
  keyword_sourced : (rows : List (Text × ℕ)) (t : Text) (e : ℕ) → keywords_right K rows ≡ true → Sourced K t (piece (keyword_in rows t) t e)
  unfolding keyword_in keywords_right
  keyword_sourced [] t e h = part_sourced K t Ident e S.name_part
  keyword_sourced (r ∷ rs) t e h =
      if_all (λ (k : ℕ). Sourced K t (piece k t e)) (same_text t r.0)
      (λ q. whole_sourced K t r.1 e (ap (λ (w : Text). whole_right K w r.1) (same_text_lem t r.0 q) ∙ and_left (whole_right K r.0 r.1) (keywords_right K rs) h))
      (λ _. keyword_sourced rs t e (and_right (whole_right K r.0 r.1) (keywords_right K rs) h))

  name_sourced : (cs : Text) → SegmentSourced K (parse_identifier_or_keyword cs)
  unfolding parse_identifier_or_keyword lookup_keyword
  name_sourced cs = (keyword_sourced KEYWORDS (run is_ident_part cs).taken _ S.keywords, tt)

  -- Numbers.
  kind_sourced : (t cs : Text) (e : ℕ) → Sourced K t (piece (decimal_kind cs) t e)
  unfolding decimal_kind
  kind_sourced t cs e =
      if_all (λ (k : ℕ). Sourced K t (piece k t e)) (is_empty ((fraction and_then exponent) (whole_part cs).left).taken)
      (λ _. part_sourced K t IntLiteral e S.int_part) (λ _. part_sourced K t FloatLiteral e S.float_part)

  decimal_sourced : (cs : Text) → SegmentSourced K (decimal cs)
  unfolding decimal
  decimal_sourced cs = (kind_sourced ((whole_part and_then fraction and_then exponent and_then maybe_suffix) cs).taken cs _, tt)

  radix_sourced : (p : Char → Bool) (cs : Text) → SegmentSourced K (radix p cs)
  unfolding radix
  radix_sourced p cs = (part_sourced K _ IntLiteral _ S.int_part, tt)

  number_sourced : (cs : Text) → SegmentSourced K (parse_number cs)
  unfolding parse_number
  number_sourced cs =
      if_all (SegmentSourced K) (zero_then (text "xX") cs) (λ _. radix_sourced _ cs)
      (λ _. if_all (SegmentSourced K) (zero_then (text "bB") cs) (λ _. radix_sourced _ cs) (λ _. decimal_sourced cs))

  -- Marks.
  two_sourced : (k : ℕ) (o : Option ℕ) (c d : Char) (cs : Text) → pair_right K c d k o ≡ true → SegmentSourced K (two_marks k o c d cs)
  unfolding two_marks pair_right
  two_sourced k none c d cs h = (fixed_sourced K (c ∷ d ∷ []) (spelling k c d) k 2 h, tt)
  two_sourced k (some third) c d cs h =
      if_all (SegmentSourced K) (starts_with (d ∷ []) cs)
      (λ _. (whole_sourced K (c ∷ d ∷ d ∷ []) third _ (and_left _ (whole_right K (c ∷ d ∷ []) k) h), tt))
      (λ _. (whole_sourced K (c ∷ d ∷ []) k _ (and_right (whole_right K (c ∷ d ∷ d ∷ []) third) _ h), tt))

  mark_sourced : (c : Char) (cs : Text) → SegmentSourced K (parse_mark c cs)
  unfolding parse_mark mark_in mark_with unexpected mark_right column_right
  mark_sourced c cs = row (lookup c MARKS) refl cs
    where
      alone : (r : Row) → mark_right K c r ≡ true → whole_right K (c ∷ []) r.alone ≡ true
      alone r h = and_left (whole_right K (c ∷ []) r.alone) (all_rows (column_right K c) r.columns) h

      column : (r : Row) → mark_right K c r ≡ true → (o : Option ℕ) (d : Char) (cs : Text) → lookup d r.columns ≡ o
          → SegmentSourced K (mark_with r.alone c o d cs)
      column r h none d cs e = (whole_sourced K (c ∷ []) r.alone _ (alone r h), tt)
      column r h (some k) d cs e =
          two_sourced k (lookup k THIRDS) c d cs
          (found_right (column_right K c) d r.columns k (and_right (whole_right K (c ∷ []) r.alone) (all_rows (column_right K c) r.columns) h) e)

      row : (o : Option Row) → lookup c MARKS ≡ o → (cs : Text) → SegmentSourced K (mark_in o c cs)
      row none e cs = (part_sourced K (c ∷ []) Error 1 S.error_part, tt)
      row (some r) e [] = (whole_sourced K (c ∷ []) r.alone _ (alone r (found_right (mark_right K) c MARKS r S.marks e)), tt)
      row (some r) e (d ∷ cs) = column r (found_right (mark_right K) c MARKS r S.marks e) (lookup d r.columns) d cs refl

  -- Strings, characters, comments: their texts are made.
  abbrev Built : List Piece → Type 0
  Built = Every (λ (x : Piece). made_right K x.kind ≡ true)

  built_sourced : (s : Segment) → Built s.pieces → SegmentSourced K s
  built_sourced s h = every_weaken _ _ (λ (x : Piece) q. made_sourced K s.chars x.text x.kind x.end q) s.pieces h

  flush_built : (i : ℕ) (buf : Text) → Built (flush i buf)
  unfolding flush
  flush_built i buf = if_all Built (is_empty buf) (λ _. tt) (λ _. (S.string_made, tt))

  abbrev TurnBuilt : Turn → Type 0
  TurnBuilt (stop s) = Built s.pieces
  TurnBuilt (on ps fs o k b x) = Built ps

  turn_built : (i : ℕ) (buf : Text) (interp : Bool) (c : Char) (cs : Text) → TurnBuilt (turn i buf interp c cs)
  unfolding turn string_broken string_ended string_escape string_dollar brace_interp name_interp
  turn_built i buf interp c cs =
      if_all TurnBuilt (c is LF) (λ _. (S.string_made, tt))
      (λ _. if_all TurnBuilt (c is ch "\"") (λ _. if_all Built (is_empty buf && interp) (λ _. tt) (λ _. (S.string_made, tt)))
      (λ _. if_all TurnBuilt (c is ch "\\") (λ _. esc cs)
      (λ _. if_all TurnBuilt (c is ch "$")
      (λ _. if_all TurnBuilt (next is_interp_start cs)
      (λ _. if_all TurnBuilt (starts_with (text "{") cs)
      (λ _. every_append _ (flush i buf) _ (flush_built i buf) (S.interp_made, tt)) (λ _. every_append _ (flush i buf) _ (flush_built i buf) (S.interp_made, tt)))
      (λ _. tt))
      (λ _. tt))))
    where
      esc : (cs : Text) → TurnBuilt (string_escape i buf interp cs)
      esc [] = tt
      esc (e ∷ cs) = tt

  follow_built : (c : Char) (t : Turn) (go : ℕ → Text → Bool → Segment) → TurnBuilt t → ((k : ℕ) (b : Text) (x : Bool) → Built (go k b x).pieces)
      → Built (follow c t go).pieces
  follow_built c (stop s) go h hg = h
  follow_built c (on ps fs o k b x) go h hg = every_append _ ps (go k b x).pieces h (hg k b x)

  string_built : (k i : ℕ) (buf : Text) (interp : Bool) (cs : Text) → Built (string_from k i buf interp cs).pieces
  unfolding string_from string_ran_out
  string_built k i buf interp [] = (S.string_made, tt)
  string_built (suc k) i buf interp (c ∷ cs) = string_built k (suc i) buf interp cs
  string_built zero i buf interp (c ∷ cs) =
      follow_built c (turn i buf interp c cs) _ (turn_built i buf interp c cs) (λ k b x. string_built k (suc i) b x cs)

  abbrev AllBuilt : Segment → Type 0
  AllBuilt s = Built s.pieces

  quote_built : (cs : Text) → AllBuilt (parse_quote cs)
  unfolding parse_quote parse_raw_string parse_string_tokens
  quote_built cs = if_all AllBuilt (starts_with (text "\"\"") cs) (λ _. (S.string_made, tt)) (λ _. string_built 0 1 [] false cs)

  close_char_built : (taken t : Text) (fs : List Fault) (cs : Text) → AllBuilt (close_char taken t fs cs)
  unfolding close_char
  close_char_built taken t fs cs = if_all AllBuilt (starts_with (text "'") cs) (λ _. (S.char_made, tt)) (λ _. (S.char_made, tt))

  char_escape_built : (cs : Text) → AllBuilt (char_escape cs)
  unfolding char_escape
  char_escape_built [] = (S.char_made, tt)
  char_escape_built (e ∷ cs) = close_char_built _ _ _ _

  char_built : (cs : Text) → AllBuilt (parse_char cs)
  unfolding parse_char
  char_built [] = (S.char_made, tt)
  char_built (c ∷ cs) = if_all AllBuilt (c is ch "\\") (λ _. char_escape_built cs) (λ _. close_char_built _ _ _ _)

  slash_sourced : (cs : Text) → SegmentSourced K (parse_slash_or_comment cs)
  unfolding parse_slash_or_comment line_doc line_comment block_doc block_comment
  slash_sourced cs =
      if_all (SegmentSourced K) (starts_with (text "//") cs) (λ _. (made_sourced K _ _ DocComment _ S.doc_made, tt))
      (λ _. if_all (SegmentSourced K) (starts_with (text "/") cs) (λ _. tt)
      (λ _. if_all (SegmentSourced K) (starts_with (text "**") cs && not (starts_with (text "**/") cs)) (λ _. (made_sourced K _ _ DocComment _ S.doc_made, tt))
      (λ _. if_all (SegmentSourced K) (starts_with (text "*") cs) (λ _. tt) (λ _. mark_sourced (ch "/") cs))))

  dollar_sourced : (cs : Text) → SegmentSourced K (parse_dollar cs)
  unfolding parse_dollar dollar_braces
  dollar_sourced cs =
      if_all (SegmentSourced K) (starts_with (text "{") cs) (λ _. (made_sourced K _ _ StringInterpStart _ S.interp_made, tt))
      (λ _. (part_sourced K (ch "$" ∷ []) Ident _ S.name_part, tt))

  pub segment_sourced : (cs : Text) → SegmentSourced K (segment cs)
  unfolding segment white_space
  segment_sourced [] = tt
  segment_sourced (c ∷ cs) =
      if_all (SegmentSourced K) (is_white c) (λ _. tt)
      (λ _. if_all (SegmentSourced K) (c is ch "/") (λ _. slash_sourced cs)
      (λ _. if_all (SegmentSourced K) (c is ch "$") (λ _. dollar_sourced cs)
      (λ _. if_all (SegmentSourced K) (c is ch "\"") (λ _. built_sourced (parse_quote cs) (quote_built cs))
      (λ _. if_all (SegmentSourced K) (c is ch "'") (λ _. built_sourced (parse_char cs) (char_built cs))
      (λ _. if_all (SegmentSourced K) (is_digit c) (λ _. number_sourced (c ∷ cs))
      (λ _. if_all (SegmentSourced K) (is_ident_start c) (λ _. name_sourced (c ∷ cs)) (λ _. mark_sourced c cs)))))))
