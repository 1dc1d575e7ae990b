-- The kinds of words are none whose text is made. Assumes nothing.
use mathlib.Core.Path.{◌≡◌, refl}
use mathlib.Core.Bool.{Bool, true, false, ◌&&◌, not, false≢true}
use mathlib.Core.List.{List, [], ◌∷◌}
use mathlib.Core.Option.{Option, none, some}
use Prim.Native.Nat.{ℕ}
use Rattle.characters.specs.Choice.{within}
use Rattle.characters.proofs.Choice.{if_all}
use Rattle.rules.specs.Text.{Char, Text, text, is_empty, same_text}
use Rattle.rules.specs.Scan.{starts_with, ◌and_then◌}
use Rattle.rules.specs.Tables.{KEYWORDS, keyword_in, lookup_keyword, Row, MARKS, THIRDS, lookup}
use Rattle.rules.specs.Segment.{Piece, Segment}
use Rattle.rules.specs.Numbers.{whole_part, fraction, exponent, decimal_kind, decimal, radix, zero_then, parse_number}
use Rattle.rules.specs.Names.{parse_identifier_or_keyword}
use Rattle.rules.specs.Marks.{unexpected, two_marks, mark_with, mark_in, parse_mark}
use Rattle.rules.proofs.Ahead.{and_left, and_right}
use Rattle.rules.specs.Bounds.{Every}
use Rattle.rules.proofs.Sources.{all_rows, found_right}
use Rattle.records.specs.Kinds.{is_made}

abbrev pub PlainKind : ℕ → Type 0
PlainKind k = is_made k ≡ false

abbrev pub Plain : Segment → Type 0
Plain s = Every (λ (x : Piece). PlainKind x.kind) s.pieces

not_made : (b : Bool) → not b ≡ true → b ≡ false
not_made true e = absurd (false≢true e)
not_made false e = refl

-- ── Numbers ──

decimal_kind_lem : (cs : Text) → PlainKind (decimal_kind cs)
unfolding decimal_kind is_made within
decimal_kind_lem cs = if_all PlainKind (is_empty ((fraction and_then exponent) (whole_part cs).left).taken) (λ _. refl) (λ _. refl)

decimal_plain : (cs : Text) → Plain (decimal cs)
unfolding decimal
decimal_plain cs = (decimal_kind_lem cs, tt)

pub number_plain : (cs : Text) → Plain (parse_number cs)
unfolding parse_number radix is_made within
number_plain cs =
    if_all Plain (zero_then (text "xX") cs) (λ _. (refl, tt))
    (λ _. if_all Plain (zero_then (text "bB") cs) (λ _. (refl, tt)) (λ _. decimal_plain cs))

-- ── Names ──

unfoldable plain_words : List (Text × ℕ) → Bool
plain_words [] = true
plain_words (r ∷ rs) = not (is_made r.1) && plain_words rs

keyword_in_lem : (rows : List (Text × ℕ)) (t : Text) → plain_words rows ≡ true → PlainKind (keyword_in rows t)
unfolding keyword_in plain_words is_made within
keyword_in_lem [] t e = refl
keyword_in_lem (r ∷ rs) t e =
    if_all PlainKind (same_text t r.0) (λ _. not_made (is_made r.1) (and_left (not (is_made r.1)) (plain_words rs) e))
    (λ _. keyword_in_lem rs t (and_right (not (is_made r.1)) (plain_words rs) e))

keywords_plain : plain_words KEYWORDS ≡ true
unfolding plain_words KEYWORDS is_made within
keywords_plain = refl

pub name_plain : (cs : Text) → Plain (parse_identifier_or_keyword cs)
unfolding parse_identifier_or_keyword lookup_keyword
name_plain cs = (keyword_in_lem KEYWORDS _ keywords_plain, tt)

-- ── Marks ──

abbrev plain_kind : ℕ → ℕ → Bool
plain_kind c k = not (is_made k)

unfoldable plain_row : ℕ → Row → Bool
plain_row c r = not (is_made r.alone) && all_rows plain_kind r.columns

rows_plain : all_rows plain_row MARKS ≡ true
unfolding all_rows plain_row MARKS is_made within
rows_plain = refl

thirds_plain : all_rows plain_kind THIRDS ≡ true
unfolding all_rows THIRDS is_made within
thirds_plain = refl

row_is : (c : Char) (r : Row) → lookup c MARKS ≡ some r → PlainKind r.alone × (all_rows plain_kind r.columns ≡ true)
unfolding plain_row
row_is c r e =
    let t = found_right plain_row c MARKS r rows_plain e in (
      not_made (is_made r.alone) (and_left (not (is_made r.alone)) (all_rows plain_kind r.columns) t),
      and_right (not (is_made r.alone)) (all_rows plain_kind r.columns) t,
    )

pub mark_plain_lem : (c : Char) (cs : Text) → Plain (parse_mark c cs)
unfolding parse_mark mark_in mark_with unexpected two_marks is_made within
mark_plain_lem c cs = row (lookup c MARKS) refl cs
  where
    two : (k : ℕ) (o : Option ℕ) (d : Char) (cs : Text) → PlainKind k → lookup k THIRDS ≡ o → Plain (two_marks k o c d cs)
    two k none d cs h e = (h, tt)
    two k (some third) d cs h e =
        if_all Plain (starts_with (d ∷ []) cs) (λ _. (not_made (is_made third) (found_right plain_kind k THIRDS third thirds_plain e), tt)) (λ _. (h, tt))

    column : (r : Row) (o : Option ℕ) (d : Char) (cs : Text) → PlainKind r.alone → all_rows plain_kind r.columns ≡ true
        → lookup d r.columns ≡ o → Plain (mark_with r.alone c o d cs)
    column r none d cs h t e = (h, tt)
    column r (some k) d cs h t e =
        two k (lookup k THIRDS) d cs (not_made (is_made k) (found_right plain_kind d r.columns k t e)) refl

    row : (o : Option Row) → lookup c MARKS ≡ o → (cs : Text) → Plain (mark_in o c cs)
    row none e cs = (refl, tt)
    row (some r) e [] = ((row_is c r e).0, tt)
    row (some r) e (d ∷ cs) = column r (lookup d r.columns) d cs (row_is c r e).0 (row_is c r e).1 refl
