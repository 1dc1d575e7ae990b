-- Tokens that are printed as their own characters: numbers, names, marks and `$`. Before a space or the text's end they are lexed as
-- they were. Assumes nothing.
use mathlib.Core.Path.{◌≡◌, refl, sym, ap, ◌∙◌}
use mathlib.Core.Bool.{Bool, true, false, ◌&&◌, ◌||◌, not, true≢false, false≢true}
use mathlib.Core.List.{List, [], ◌∷◌, ◌++◌, map}
use mathlib.Core.Option.{Option, none, some}
use Prim.Native.Nat.{ℕ}
use native.Mathlib.Omega.{arith}
use borrow.Author.Tests.{not-true}
use Rattle.characters.specs.Choice.{◌is◌}
use Rattle.characters.proofs.Choice.{if_all}
use Rattle.rules.specs.Text.{Char, Text, ch, text, one_of, is_digit, is_ident_part, is_empty, same_text, is_ident_start}
use Rattle.rules.specs.Scan.{next, starts_with, run, ◌and_then◌}
use Rattle.rules.specs.Tables.{Ident, KEYWORDS, keyword_in, lookup_keyword, Row, MARKS, THIRDS, lookup, IntLiteral, CharLiteral, DoubleColonT, StringInterpStart, DocComment}
use Rattle.rules.specs.Segment.{Segment, word_token}
use Rattle.rules.specs.Numbers.{fraction, exponent, decimal, radix, parse_number, whole_part, decimal_kind, zero_then}
use Rattle.rules.specs.Names.{parse_identifier_or_keyword}
use Rattle.rules.specs.Marks.{unexpected, spelling, two_marks, mark_with, mark_in, parse_mark}
use Rattle.rules.specs.Docs.{parse_slash_or_comment}
use Rattle.rules.specs.Lexer.{parse_dollar}
use Rattle.rules.proofs.Ahead.{or_left, or_right, and_left, and_right}
use Rattle.rules.proofs.Front.{number_takes, mark_takes, Takes, name_takes, start_part}
use Rattle.rules.proofs.Sources.{all_rows, found_right, same_text_lem}
use Rattle.prints.specs.Elements.{Word, lone, word}
use Rattle.prints.specs.Print.{emitted, is_doc}
use Rattle.prints.proofs.Facts.{is_same}
use Rattle.prints.proofs.Laid.{Follows, space, end}
use Rattle.prints.proofs.Again.{follow_next, follow_starts, next_keeps, number_again, name_again}

-- The segment (`s`, ∷ that) begins with `c`, is one token and printed as its own characters; `again` lexes what is behind `c`.
pub record Plain (c : Char) (s : Segment) (again : Text → Segment) : Type 0 where
  pub more : Text
  pub took : s.chars ≡ c ∷ more
  pub same : (Y : Text) → Follows false Y → again (more ++ Y) ≡ s
  pub token : Word
  pub only : map word s.pieces ≡ token ∷ []
  pub spelled : emitted (lone token) ≡ s.chars
  pub no_doc : is_doc (lone token) ≡ false
  pub right : s.faults ≡ []
  pub shut : s.open_end ≡ false

-- The kinds that are printed as their texts.
unfoldable pub plain_kind : ℕ → Bool
plain_kind k = not (one_of (CharLiteral ∷ DoubleColonT ∷ StringInterpStart ∷ DocComment ∷ []) k)

-- The four tests that fail.
record FourNot (k : ℕ) : Type 0 where
  three : (k is CharLiteral) ≡ false
  assign : (k is DoubleColonT) ≡ false
  dollar : (k is StringInterpStart) ≡ false
  doc : (k is DocComment) ≡ false

four_not : (k : ℕ) → plain_kind k ≡ true → FourNot k
unfolding plain_kind one_of
four_not k e =
    let q : (k is CharLiteral || (k is DoubleColonT || (k is StringInterpStart || (k is DocComment || false)))) ≡ false = not-true _ e in
    let q₁ = or_right (k is CharLiteral) _ q in
    let q₂ = or_right (k is DoubleColonT) _ q₁ in
    record { three = or_left (k is CharLiteral) _ q; assign = or_left (k is DoubleColonT) _ q₁; dollar = or_left (k is StringInterpStart) _ q₂; doc = or_left (k is DocComment) false (or_right (k is StringInterpStart) _ q₂) }

pub emitted_plain : (w : Word) → plain_kind w.kind ≡ true → emitted (lone w) ≡ w.text
unfolding emitted
emitted_plain w e = let f = four_not w.kind e in rw (f.three, f.assign, f.dollar, f.doc)

pub plain_no_doc : (w : Word) → plain_kind w.kind ≡ true → is_doc (lone w) ≡ false
unfolding is_doc
plain_no_doc w e = (four_not w.kind e).doc

-- ── Names and numbers ──

plain_rows : List (Text × ℕ) → Bool
plain_rows [] = true
plain_rows (r ∷ rs) = plain_kind r.1 && plain_rows rs

keyword_plain : (rows : List (Text × ℕ)) (t : Text) → plain_rows rows ≡ true → plain_kind (keyword_in rows t) ≡ true
unfolding keyword_in plain_rows plain_kind one_of
keyword_plain [] t h = refl
keyword_plain (r ∷ rs) t h =
    if_all (λ k. plain_kind k ≡ true) (same_text t r.0) (λ _. and_left (plain_kind r.1) (plain_rows rs) h)
    (λ _. keyword_plain rs t (and_right (plain_kind r.1) (plain_rows rs) h))

name_kind : (t : Text) → plain_kind (lookup_keyword t) ≡ true
unfolding lookup_keyword KEYWORDS plain_rows plain_kind one_of
name_kind t = keyword_plain KEYWORDS t refl

-- One token of a plain kind whose text is the segment's characters, without an error.
abbrev pub Whole : Segment → Type 0
Whole s = (k : ℕ) × (plain_kind k ≡ true) × (map word s.pieces ≡ record { kind = k; text = s.chars } ∷ []) × (s.faults ≡ []) × (s.open_end ≡ false)

decimal_whole : (cs : Text) → Whole (decimal cs)
unfolding decimal plain_kind one_of
decimal_whole cs = (decimal_kind cs, kind_plain cs, refl, refl, refl)
  where
    kind_plain : (cs : Text) → plain_kind (decimal_kind cs) ≡ true
    kind_plain cs =
        unfold decimal_kind in
        (if_all (λ k. plain_kind k ≡ true) (is_empty ((fraction and_then exponent) (whole_part cs).left).taken) (λ _. refl) (λ _. refl))

pub number_whole : (cs : Text) → Whole (parse_number cs)
unfolding parse_number radix plain_kind one_of
number_whole cs =
    if_all Whole (zero_then (text "xX") cs) (λ _. (IntLiteral, refl, refl, refl, refl))
    (λ _. if_all Whole (zero_then (text "bB") cs) (λ _. (IntLiteral, refl, refl, refl, refl)) (λ _. decimal_whole cs))

pub name_whole : (cs : Text) → Whole (parse_identifier_or_keyword cs)
unfolding parse_identifier_or_keyword
name_whole cs = (lookup_keyword (run is_ident_part cs).taken, name_kind (run is_ident_part cs).taken, refl, refl, refl)

-- What `f` finds at `c ∷ cs` is such a token, and is found again in its own characters.
whole_plain : (f : Text → Segment) (c : Char) (cs : Text) → Takes c cs (f (c ∷ cs)) → Whole (f (c ∷ cs))
    → ((Y : Text) → Follows false Y → f ((f (c ∷ cs)).chars ++ Y) ≡ f (c ∷ cs)) → Plain c (f (c ∷ cs)) (λ t. f (c ∷ t))
whole_plain f c cs t h again =
    let w : Word = record { kind = h.0; text = (f (c ∷ cs)).chars } in
    record {
      more = t.more;
      took = t.took;
      same = λ Y g. ap (λ x. f (x ++ Y)) (sym t.took) ∙ again Y g;
      token = w;
      only = h.2;
      spelled = emitted_plain w h.1;
      no_doc = plain_no_doc w h.1;
      right = h.3;
      shut = h.4;
    }

pub number_plain : (c : Char) (cs : Text) → is_digit c ≡ true → Plain c (parse_number (c ∷ cs)) (λ t. parse_number (c ∷ t))
number_plain c cs d = whole_plain parse_number c cs (number_takes c cs d) (number_whole (c ∷ cs)) (number_again c cs d)

pub name_plain : (c : Char) (cs : Text) → is_ident_start c ≡ true
    → Plain c (parse_identifier_or_keyword (c ∷ cs)) (λ t. parse_identifier_or_keyword (c ∷ t))
name_plain c cs e =
    whole_plain parse_identifier_or_keyword c cs (name_takes c cs (start_part c e)) (name_whole (c ∷ cs)) (name_again (c ∷ cs))

-- ── Marks ──

lone_plain : (k : ℕ) (c : Char) (again : Text → Segment) → plain_kind k ≡ true → ((Y : Text) → Follows false Y → again Y ≡ word_token k (c ∷ [])) → Plain c (word_token k (c ∷ [])) again
lone_plain k c again e f =
    record { more = []; took = refl; same = f; token = record { kind = k; text = c ∷ [] }; only = refl; spelled = emitted_plain _ e; no_doc = plain_no_doc _ e; right = refl; shut = refl }

-- Two marks are printed as they are, and so are three.
pair_plain : Char → Char → ℕ → Option ℕ → Bool
pair_plain c d k none = same_text (emitted (lone (record { kind = k; text = spelling k c d }))) (c ∷ d ∷ []) && not (is_doc (lone (record { kind = k; text = [] })))
pair_plain c d k (some third) = plain_kind third && plain_kind k

column_plain : Char → Char → ℕ → Bool
column_plain c d k = not (ch " " is d) && pair_plain c d k (lookup k THIRDS)

is_none {ℓ} : {A : Type ℓ} → Option A → Bool
is_none none = true
is_none (some a) = false

mark_plain : Char → Row → Bool
mark_plain c r = plain_kind r.alone && (is_none (lookup (ch " ") r.columns) && all_rows (column_plain c) r.columns)

starts_same_mark : (d : Char) (Y : Text) → starts_with (d ∷ []) (d ∷ Y) ≡ true
unfolding starts_with
starts_same_mark d Y = rw (is_same d)

two_plain : (k : ℕ) (o : Option ℕ) (c d : Char) (cs : Text) (again : Text → Segment) → ((t : Text) → again (d ∷ t) ≡ two_marks k o c d t)
    → pair_plain c d k o ≡ true → (ch " " is d) ≡ false → Plain c (two_marks k o c d cs) again
unfolding two_marks pair_plain is_doc
two_plain k none c d cs again f e n =
    let w : Word = record { kind = k; text = spelling k c d } in
    record {
      more = d ∷ [];
      took = refl;
      same = λ Y h. f Y;
      token = w;
      only = refl;
      spelled = same_text_lem (emitted (lone w)) (c ∷ d ∷ []) (and_left (same_text (emitted (lone w)) (c ∷ d ∷ [])) (not (k is DocComment)) e);
      no_doc = not-true (k is DocComment) (and_right (same_text (emitted (lone w)) (c ∷ d ∷ [])) (not (k is DocComment)) e);
      right = refl;
      shut = refl;
    }
two_plain k (some third) c d cs again f e n =
    let w₂ : Word = record { kind = k; text = c ∷ d ∷ [] } in
    let w₃ : Word = record { kind = third; text = c ∷ d ∷ d ∷ [] } in
    if_all (λ s. Plain c s again) (starts_with (d ∷ []) cs)
    (λ _. record {
      more = d ∷ d ∷ [];
      took = refl;
      same = λ Y h. f (d ∷ Y) ∙ rw (starts_same_mark d Y);
      token = w₃;
      only = refl;
      spelled = emitted_plain w₃ (and_left (plain_kind third) (plain_kind k) e);
      no_doc = plain_no_doc w₃ (and_left (plain_kind third) (plain_kind k) e);
      right = refl;
      shut = refl;
    })
    (λ _. record {
      more = d ∷ [];
      took = refl;
      same = λ Y h. f Y ∙ rw (follow_starts d [] n h);
      token = w₂;
      only = refl;
      spelled = emitted_plain w₂ (and_right (plain_kind third) (plain_kind k) e);
      no_doc = plain_no_doc w₂ (and_right (plain_kind third) (plain_kind k) e);
      right = refl;
      shut = refl;
    })

is_none_lem : {A : Type 0} (o : Option A) → is_none o ≡ true → o ≡ none
unfolding is_none
is_none_lem none e = refl
is_none_lem (some a) e = absurd (false≢true e)

mark_found_lem : (c : Char) (r : Row) → lookup c MARKS ≡ some r → mark_plain c r ≡ true
unfolding MARKS THIRDS all_rows mark_plain column_plain pair_plain is_none plain_kind one_of spelling emitted is_doc lookup same_text
mark_found_lem c r e = found_right mark_plain c MARKS r refl e

mark_alone : (c : Char) (r : Row) → lookup c MARKS ≡ some r → mark_plain c r ≡ true → {Y : Text} → Follows false Y → parse_mark c Y ≡ word_token r.alone (c ∷ [])
unfolding parse_mark mark_in mark_with mark_plain
mark_alone c r e h end = rw e
mark_alone c r e h (space B) =
    let n : lookup (ch " ") r.columns ≡ none = is_none_lem _ (and_left (is_none (lookup (ch " ") r.columns)) _ (and_right (plain_kind r.alone) _ h)) in
    rw (e, n)

mark_column : (c : Char) (r : Row) (d : Char) (k : ℕ) → lookup c MARKS ≡ some r → lookup d r.columns ≡ some k → (t : Text)
    → parse_mark c (d ∷ t) ≡ two_marks k (lookup k THIRDS) c d t
unfolding parse_mark mark_in mark_with
mark_column c r d k e l t = rw (e, l)

pub mark_plain_lem : (c : Char) (cs : Text) → (parse_mark c cs).faults ≡ [] → Plain c (parse_mark c cs) (parse_mark c)
unfolding parse_mark mark_in mark_with mark_plain column_plain unexpected
mark_plain_lem c cs q = row (lookup c MARKS) refl cs q
  where
    alone : (r : Row) → lookup c MARKS ≡ some r → mark_plain c r ≡ true → Plain c (word_token r.alone (c ∷ [])) (parse_mark c)
    alone r e h = lone_plain r.alone c (parse_mark c) (and_left (plain_kind r.alone) _ h) (λ Y f. mark_alone c r e h f)

    column : (r : Row) → lookup c MARKS ≡ some r → mark_plain c r ≡ true → (o : Option ℕ) (d : Char) (cs : Text) → lookup d r.columns ≡ o
        → Plain c (mark_with r.alone c o d cs) (parse_mark c)
    column r e h none d cs l = alone r e h
    column r e h (some k) d cs l =
        let rows : all_rows (column_plain c) r.columns ≡ true = and_right (is_none (lookup (ch " ") r.columns)) _ (and_right (plain_kind r.alone) _ h) in
        let ok : column_plain c d k ≡ true = found_right (column_plain c) d r.columns k rows l in
        two_plain k (lookup k THIRDS) c d cs (parse_mark c) (mark_column c r d k e l) (and_right (not (ch " " is d)) _ ok) (not-true (ch " " is d) (and_left (not (ch " " is d)) (pair_plain c d k (lookup k THIRDS)) ok))

    row : (o : Option Row) → lookup c MARKS ≡ o → (cs : Text) → (mark_in o c cs).faults ≡ [] → Plain c (mark_in o c cs) (parse_mark c)
    row none e cs q = let z : ◌≡◌ {A = ℕ} 0 1 = cc in absurd (omega arith)
    row (some r) e [] q = alone r e (mark_found_lem c r e)
    row (some r) e (d ∷ cs) q = column r e (mark_found_lem c r e) (lookup d r.columns) d cs refl

-- ── `/` and `$` ──

slash_mark : (cs : Text) → next (one_of (text "/*")) cs ≡ false → parse_slash_or_comment cs ≡ parse_mark (ch "/") cs
unfolding parse_slash_or_comment starts_with next one_of
slash_mark [] e = refl
slash_mark (c ∷ cs) e =
    let n = or_right (c is ch "/") (c is ch "*" || false) e in
    rw (or_left (c is ch "/") (c is ch "*" || false) e, or_left (c is ch "*") false n)

pub no_comment : (cs : Text) → starts_with (text "/") cs ≡ false → starts_with (text "*") cs ≡ false → next (one_of (text "/*")) cs ≡ false
unfolding starts_with next one_of
no_comment [] e f = refl
no_comment (c ∷ cs) e f = go (c is ch "/") (c is ch "*") e f
  where
    go : (a b : Bool) → (a && true) ≡ false → (b && true) ≡ false → (a || (b || false)) ≡ false
    go true b e f = absurd (true≢false e)
    go false true e f = absurd (true≢false f)
    go false false e f = refl

pub slash_plain : (cs : Text) → next (one_of (text "/*")) cs ≡ false → (parse_mark (ch "/") cs).faults ≡ [] → Plain (ch "/") (parse_mark (ch "/") cs) parse_slash_or_comment
unfolding one_of
slash_plain cs e q =
    let p = mark_plain_lem (ch "/") cs q in
    let t = mark_takes (ch "/") cs in
    let m : p.more ≡ t.more = cc in
    record {
      more = p.more;
      took = p.took;
      same = λ Y h. slash_mark (p.more ++ Y) (next_keeps (one_of (text "/*")) p.more t.rest Y (rw (m, t.split) e) (follow_next (one_of (text "/*")) refl h)) ∙ p.same Y h;
      token = p.token;
      only = p.only;
      spelled = p.spelled;
      no_doc = p.no_doc;
      right = p.right;
      shut = p.shut;
    }

pub dollar_plain : Plain (ch "$") (word_token Ident (ch "$" ∷ [])) parse_dollar
unfolding parse_dollar plain_kind one_of
dollar_plain = lone_plain Ident (ch "$") parse_dollar refl (λ Y h. rw (follow_starts (ch "{") [] refl h))
