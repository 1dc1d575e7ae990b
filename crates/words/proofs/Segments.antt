-- Which segment begins with a character, by its class. Assumes nothing.
use Rattle.std.specs.Prelude.{if◌then◌else◌}
use mathlib.Core.Path.{◌≡◌, refl, sym, ◌∙◌, ap}
use mathlib.Core.Bool.{true, ◌&&◌, not}
use mathlib.Core.List.{List, ◌∷◌}
use Prim.Native.Nat.{ℕ, ◌+◌, ◌≤◌, ◌<◌}
use lib.ListN.{get_or}
use native.Mathlib.Omega.{arith}
use borrow.Author.Tests.{eqb-true, ne_eqb}
use Rattle.characters.specs.Choice.{◌is◌, within}
use Rattle.characters.specs.Space.{is_white}
use Rattle.characters.specs.Utf8.{chars_at}
use Rattle.characters.proofs.Choice.{if_both, within_yes}
use Rattle.rules.specs.Text.{Char, Text, ch, is_digit, is_letter, is_ident_start}
use Rattle.rules.specs.Segment.{Segment}
use Rattle.rules.specs.Comments.{white_space}
use Rattle.rules.specs.Numbers.{parse_number}
use Rattle.rules.specs.Names.{parse_identifier_or_keyword}
use Rattle.rules.specs.Marks.{parse_mark}
use Rattle.rules.specs.Strings.{parse_quote}
use Rattle.rules.specs.Characters.{parse_char}
use Rattle.rules.specs.Docs.{parse_slash_or_comment}
use Rattle.rules.specs.Lexer.{parse_dollar, segment}
use Rattle.lexemes.proofs.Lists.{all_below, below}
use Rattle.classes.specs.Classes.{SLASH, SPACE, APOSTROPHE, QUOTE, DOLLAR, LETTER, DIGIT, mark_chars, place_from, class_of}
use Rattle.classes.proofs.Laws.{class_low, class_char}

-- The segment that a lead stands for: a class, and 0 for all that `parse_mark` decides.
unfoldable pub segment_by : ℕ → Char → Text → Segment
segment_by k c cs =
    if k is SPACE then white_space c
    else if k is SLASH then parse_slash_or_comment cs
    else if k is DOLLAR then parse_dollar cs
    else if k is QUOTE then parse_quote cs
    else if k is APOSTROPHE then parse_char cs
    else if k is DIGIT then parse_number (c ∷ cs)
    else if k is LETTER then parse_identifier_or_keyword (c ∷ cs)
    else parse_mark c cs

-- The lead of a character, by the tests of `segment`, and that of a class.
unfoldable lead_of : Char → ℕ
lead_of c =
    if is_white c then SPACE
    else if c is ch "/" then SLASH
    else if c is ch "$" then DOLLAR
    else if c is ch "\"" then QUOTE
    else if c is ch "'" then APOSTROPHE
    else if is_digit c then DIGIT
    else if is_ident_start c then LETTER
    else 0

unfoldable pub lead_class : ℕ → ℕ
lead_class k = if within 1 25 k && not (k is SLASH) then 0 else k

segment_lead : (c : Char) (cs : Text) → segment (c ∷ cs) ≡ segment_by (lead_of c) c cs
unfolding segment segment_by lead_of
segment_lead c cs =
    if_both Same (is_white c) (λ _. refl) (λ _.
    if_both Same (c is ch "/") (λ _. refl) (λ _.
    if_both Same (c is ch "$") (λ _. refl) (λ _.
    if_both Same (c is ch "\"") (λ _. refl) (λ _.
    if_both Same (c is ch "'") (λ _. refl) (λ _.
    if_both Same (is_digit c) (λ _. refl) (λ _.
    if_both Same (is_ident_start c) (λ _. refl) (λ _. refl)))))))
  where
    Same : Segment → ℕ → Type 0
    Same g k = g ≡ segment_by k c cs

-- The class of a character leads to the same segment as the rule's tests.
leads : all_below (λ b. lead_of b is lead_class (class_of b)) 128 ≡ true
unfolding all_below lead_of lead_class class_of is_white is_digit is_ident_start is_letter place_from mark_chars within
leads = refl

pub segment_class : (b : ℕ) (cs : Text) → b < 128 → segment (b ∷ cs) ≡ segment_by (lead_class (class_of b)) b cs
segment_class b cs h =
    segment_lead b cs
    ∙ ap (λ (k : ℕ). segment_by k b cs)
    (eqb-true (lead_of b) (lead_class (class_of b)) (below (λ b. lead_of b is lead_class (class_of b)) 128 leads b h))

module _ (s : List ℕ) (at k : ℕ) (e : class_of (get_or s at 0) ≡ k) (h : 1 ≤ k) where
  at_class : segment (chars_at s at) ≡ segment_by (lead_class k) (get_or s at 0) (chars_at s (at + 1))
  at_class =
      let g : 1 ≤ class_of (get_or s at 0) = omega arith in
      rw (class_char s at g) (segment_class (get_or s at 0) (chars_at s (at + 1)) (class_low (get_or s at 0) g) ∙ rw e)

module _ (s : List ℕ) (at : ℕ) where
  abbrev Has : ℕ → Type 0
  Has k = class_of (get_or s at 0) ≡ k

  pub space_segment : Has SPACE → segment (chars_at s at) ≡ white_space (get_or s at 0)
  unfolding segment_by lead_class within
  space_segment e = at_class s at SPACE e (omega arith)

  pub slash_segment : Has SLASH → segment (chars_at s at) ≡ parse_slash_or_comment (chars_at s (at + 1))
  unfolding segment_by lead_class within
  slash_segment e = at_class s at SLASH e (omega arith)

  pub dollar_segment : Has DOLLAR → segment (chars_at s at) ≡ parse_dollar (chars_at s (at + 1))
  unfolding segment_by lead_class within
  dollar_segment e = at_class s at DOLLAR e (omega arith)

  pub quote_segment : Has QUOTE → segment (chars_at s at) ≡ parse_quote (chars_at s (at + 1))
  unfolding segment_by lead_class within
  quote_segment e = at_class s at QUOTE e (omega arith)

  pub apostrophe_segment : Has APOSTROPHE → segment (chars_at s at) ≡ parse_char (chars_at s (at + 1))
  unfolding segment_by lead_class within
  apostrophe_segment e = at_class s at APOSTROPHE e (omega arith)

  pub digit_segment : Has DIGIT → segment (chars_at s at) ≡ parse_number (chars_at s at)
  unfolding segment_by lead_class within
  digit_segment e =
      at_class s at DIGIT e (omega arith) ∙ ap parse_number (sym (class_char s at (omega arith)))

  pub letter_segment : Has LETTER → segment (chars_at s at) ≡ parse_identifier_or_keyword (chars_at s at)
  unfolding segment_by lead_class within
  letter_segment e =
      at_class s at LETTER e (omega arith) ∙ ap parse_identifier_or_keyword (sym (class_char s at (omega arith)))

  pub mark_segment : (k : ℕ) → Has k → 1 ≤ k → k ≤ 25 → (k ≡ SLASH → ⊥)
      → segment (chars_at s at) ≡ parse_mark (get_or s at 0) (chars_at s (at + 1))
  unfolding segment_by lead_class
  mark_segment k e h l n =
      at_class s at k e h ∙ rw (within_yes 1 25 k h l, ne_eqb k SLASH n)
