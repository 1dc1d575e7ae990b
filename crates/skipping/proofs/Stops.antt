-- Where nothing that is skipped stands. Assumes nothing.
use mathlib.Core.Path.{◌≡◌, refl, sym, ◌∙◌, ap, subst}
use mathlib.Core.Bool.{Bool, true, false, ◌&&◌, not, true≢false}
use mathlib.Core.List.{List, [], ◌∷◌}
use mathlib.Core.Option.{Option, none, some}
use Prim.Native.Nat.{ℕ}
use borrow.Author.Tests.{not-false}
use Rattle.characters.specs.Choice.{◌is◌}
use Rattle.characters.specs.Space.{is_white}
use Rattle.characters.proofs.Choice.{if_all}
use Rattle.rules.specs.Text.{Char, Text, ch, text, is_digit, is_ident_start}
use Rattle.rules.specs.Scan.{next, starts_with}
use Rattle.rules.specs.Tables.{Row, MARKS, THIRDS, lookup}
use Rattle.rules.specs.Segment.{Segment, Fault}
use Rattle.rules.specs.Comments.{white_space, line_comment, block_comment}
use Rattle.rules.specs.Numbers.{radix, zero_then, decimal, parse_number}
use Rattle.rules.specs.Names.{parse_identifier_or_keyword}
use Rattle.rules.specs.Marks.{unexpected, two_marks, mark_with, mark_in, parse_mark}
use Rattle.rules.specs.Strings.{parse_raw_string, parse_string_tokens, parse_quote}
use Rattle.rules.specs.Characters.{close_char, char_escape, parse_char}
use Rattle.rules.specs.Docs.{line_doc, block_doc, parse_slash_or_comment}
use Rattle.rules.specs.Lexer.{dollar_braces, parse_dollar, segment}
use Rattle.rules.proofs.Ahead.{is_eq}
use Rattle.cursor.proofs.Inside.{string_sort}
use Rattle.walks.specs.Openings.{opens_line, opens_doc, opens_block}
use Rattle.skipping.specs.Skips.{is_skipped_sort, is_skipped}
use Rattle.walks.proofs.Openings.{line_segment, block_segment}

-- ── Segments that are not skipped ──

abbrev Kept : Segment → Type 0
Kept s = is_skipped_sort s.sort ≡ false

two_kept : (k : ℕ) (t : Option ℕ) (c d : Char) (cs : Text) → Kept (two_marks k t c d cs)
unfolding two_marks is_skipped_sort
two_kept k none c d cs = refl
two_kept k (some third) c d cs = if_all Kept (starts_with (d ∷ []) cs) (λ _. refl) (λ _. refl)

with_kept : (a : ℕ) (c : Char) (k : Option ℕ) (d : Char) (cs : Text) → Kept (mark_with a c k d cs)
unfolding mark_with is_skipped_sort
with_kept a c none d cs = refl
with_kept a c (some k) d cs = two_kept k (lookup k THIRDS) c d cs

row_kept : (r : Option Row) (c : Char) (cs : Text) → Kept (mark_in r c cs)
unfolding mark_in unexpected is_skipped_sort
row_kept none c cs = refl
row_kept (some r) c [] = refl
row_kept (some r) c (d ∷ cs) = with_kept r.alone c (lookup d r.columns) d cs

mark_kept : (c : Char) (cs : Text) → Kept (parse_mark c cs)
unfolding parse_mark
mark_kept c cs = row_kept (lookup c MARKS) c cs

number_kept : (cs : Text) → Kept (parse_number cs)
unfolding parse_number radix decimal is_skipped_sort
number_kept cs =
    if_all Kept (zero_then (text "xX") cs) (λ _. refl) (λ _. if_all Kept (zero_then (text "bB") cs) (λ _. refl) (λ _. refl))

close_kept : (cs t : Text) (fs : List Fault) (rest : Text) → Kept (close_char cs t fs rest)
unfolding close_char is_skipped_sort
close_kept cs t fs rest = if_all Kept (starts_with (text "'") rest) (λ _. refl) (λ _. refl)

escape_kept : (cs : Text) → Kept (char_escape cs)
unfolding char_escape is_skipped_sort
escape_kept [] = refl
escape_kept (e ∷ cs) = close_kept _ _ _ _

char_kept : (cs : Text) → Kept (parse_char cs)
unfolding parse_char is_skipped_sort
char_kept [] = refl
char_kept (c ∷ cs) = if_all Kept (c is ch "\\") (λ _. escape_kept cs) (λ _. close_kept _ _ _ _)

string_kept : (cs : Text) → Kept (parse_string_tokens cs)
unfolding parse_string_tokens is_skipped_sort
string_kept cs = ap is_skipped_sort (string_sort 0 1 [] false cs)

quote_kept : (cs : Text) → Kept (parse_quote cs)
unfolding parse_quote parse_raw_string is_skipped_sort
quote_kept cs = if_all Kept (starts_with (text "\"\"") cs) (λ _. refl) (λ _. string_kept cs)

dollar_kept : (cs : Text) → Kept (parse_dollar cs)
unfolding parse_dollar dollar_braces is_skipped_sort
dollar_kept cs = if_all Kept (starts_with (text "{") cs) (λ _. refl) (λ _. refl)

name_kept : (cs : Text) → Kept (parse_identifier_or_keyword cs)
unfolding parse_identifier_or_keyword is_skipped_sort
name_kept cs = refl

module _ (cs : Text) (l : opens_line (ch "/" ∷ cs) ≡ false) (b : opens_block (ch "/" ∷ cs) ≡ false) where
  no_line : {A : Type 0} → starts_with (text "//") cs ≡ false → starts_with (text "/") cs ≡ true → A
  unfolding opens_line starts_with
  no_line three two = absurd (true≢false (rw (two, three) at l))

  no_block : {A : Type 0} → (starts_with (text "**") cs && not (starts_with (text "**/") cs)) ≡ false → starts_with (text "*") cs ≡ true → A
  unfolding opens_block opens_doc starts_with
  no_block d two = absurd (true≢false (rw (two, d) at b))

  slash_kept : Kept (parse_slash_or_comment cs)
  unfolding parse_slash_or_comment line_doc block_doc is_skipped_sort
  slash_kept =
      if_all Kept (starts_with (text "//") cs) (λ _. refl) (λ e₁.
      if_all Kept (starts_with (text "/") cs) (λ e₂. no_line e₁ e₂) (λ _.
      if_all Kept (starts_with (text "**") cs && not (starts_with (text "**/") cs)) (λ _. refl) (λ e₃.
      if_all Kept (starts_with (text "*") cs) (λ e₄. no_block e₃ e₄) (λ _. mark_kept (ch "/") cs))))

-- Nothing that is skipped stands where none of the three tests passes.
pub stops_here : (cs : Text) → next is_white cs ≡ false → opens_line cs ≡ false → opens_block cs ≡ false → is_skipped cs ≡ false
unfolding is_skipped segment next
stops_here [] w l b = refl
stops_here (c ∷ cs) w l b =
    if_all Kept (is_white c) (λ e. absurd (true≢false (sym e ∙ w))) (λ _.
    if_all Kept (c is ch "/") (λ e. slash (is_eq c (ch "/") e)) (λ _.
    if_all Kept (c is ch "$") (λ _. dollar_kept cs) (λ _.
    if_all Kept (c is ch "\"") (λ _. quote_kept cs) (λ _.
    if_all Kept (c is ch "'") (λ _. char_kept cs) (λ _.
    if_all Kept (is_digit c) (λ _. number_kept (c ∷ cs)) (λ _.
    if_all Kept (is_ident_start c) (λ _. name_kept (c ∷ cs)) (λ _. mark_kept c cs)))))))
  where
    slash : c ≡ ch "/" → Kept (parse_slash_or_comment cs)
    slash e =
        slash_kept cs (subst (λ (d : Char). opens_line (d ∷ cs) ≡ false) e l) (subst (λ (d : Char). opens_block (d ∷ cs) ≡ false) e b)

-- ── What may stand where nothing is skipped ──

line_skipped : (cs : Text) → opens_line cs ≡ true → is_skipped cs ≡ true
unfolding is_skipped is_skipped_sort opens_line starts_with line_comment
line_skipped [] e = e
line_skipped (c ∷ cs) e = ap (λ (s : Segment). is_skipped_sort s.sort) (line_segment (c ∷ cs) e)

block_skipped : (cs : Text) → opens_block cs ≡ true → is_skipped cs ≡ true
unfolding is_skipped is_skipped_sort opens_block starts_with block_comment
block_skipped [] e = e
block_skipped (c ∷ cs) e = ap (λ (s : Segment). is_skipped_sort s.sort) (block_segment (c ∷ cs) e)

white_skipped : (cs : Text) → next is_white cs ≡ true → is_skipped cs ≡ true
unfolding is_skipped is_skipped_sort segment white_space next
white_skipped [] e = e
white_skipped (c ∷ cs) e = rw e

module _ (cs : Text) (h : is_skipped cs ≡ false) where
  not_skipped : (b : Bool) → (b ≡ true → is_skipped cs ≡ true) → b ≡ false
  not_skipped false f = refl
  not_skipped true f = absurd (true≢false (sym (f refl) ∙ h))

  -- No white space.
  pub kept_white : next is_white cs ≡ false
  kept_white = not_skipped (next is_white cs) (white_skipped cs)

  -- Two slashes begin a doc comment.
  pub kept_line : starts_with (text "//") cs ≡ true → starts_with (text "///") cs ≡ true
  unfolding opens_line
  kept_line e = not-false (starts_with (text "///") cs) (rw e at (not_skipped (opens_line cs) (line_skipped cs)))

  -- So do a slash and a star.
  pub kept_block : starts_with (text "/*") cs ≡ true → opens_doc cs ≡ true
  unfolding opens_block
  kept_block e = not-false (opens_doc cs) (rw e at (not_skipped (opens_block cs) (block_skipped cs)))
