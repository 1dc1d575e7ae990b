-- Which segment stands at the front of a text, by the mark that it begins with. Assumes nothing.
use mathlib.Core.Path.{◌≡◌, refl, sym, ◌∙◌}
use mathlib.Core.Bool.{Bool, true, false, ◌&&◌, not, false≢true, true≢false}
use mathlib.Core.List.{[], ◌∷◌}
use lib.ListN.{drop}
use borrow.Author.Tests.{not-true}
use Rattle.characters.specs.Choice.{◌is◌, within}
use Rattle.characters.specs.Space.{is_white}
use Rattle.characters.proofs.Choice.{and_both}
use Rattle.rules.specs.Text.{Char, Text, ch, text}
use Rattle.rules.specs.Scan.{starts_with, up_to}
use Rattle.rules.specs.Comments.{line_comment, block_comment}
use Rattle.rules.specs.Docs.{line_doc, block_doc, parse_slash_or_comment}
use Rattle.rules.specs.Marks.{parse_mark}
use Rattle.rules.specs.Strings.{parse_raw_string, parse_quote}
use Rattle.rules.specs.Lexer.{dollar_braces, parse_dollar, segment}
use Rattle.rules.proofs.Ahead.{is_eq}
use Rattle.walks.specs.Openings.{opens_line, opens_doc, opens_block}

-- ── By the first character ──

starts_peel : (x : Char) (t : Text) (c : Char) (cs : Text) → (c is x) ≡ true → starts_with (x ∷ t) (c ∷ cs) ≡ starts_with t cs
unfolding starts_with
starts_peel x t c cs e = rw e

starts_head : (x : Char) (t : Text) (c : Char) (cs : Text) → starts_with (x ∷ t) (c ∷ cs) ≡ true → (c is x) ≡ true
unfolding starts_with
starts_head x t c cs e = (and_both (c is x) (starts_with t cs) e).0

starts_nil : {A : Type 0} (x : Char) (t : Text) → starts_with (x ∷ t) [] ≡ true → A
unfolding starts_with
starts_nil x t e = absurd (false≢true e)

-- A text that begins with one character begins with no other.
pub starts_other : (x y : Char) (t u cs : Text) → (x is y) ≡ false → starts_with (x ∷ t) cs ≡ true → starts_with (y ∷ u) cs ≡ false
unfolding starts_with
starts_other x y t u [] d e = refl
starts_other x y t u (c ∷ cs) d e = rw (is_eq c x (starts_head x t c cs e), d)

-- A text that does not begin with a character begins with no mark that does.
pub starts_longer : (x : Char) (t cs : Text) → starts_with (x ∷ []) cs ≡ false → starts_with (x ∷ t) cs ≡ false
unfolding starts_with
starts_longer x t [] e = refl
starts_longer x t (c ∷ cs) e = go (c is x) e
  where
    go : (b : Bool) → (b && true) ≡ false → (b && starts_with t cs) ≡ false
    go true f = absurd (true≢false f)
    go false f = refl

slash_is : (c : Char) (cs : Text) → (c is ch "/") ≡ true → segment (c ∷ cs) ≡ parse_slash_or_comment cs
unfolding segment is_white within
slash_is c cs e = rw (is_eq c (ch "/") e)

quote_is : (c : Char) (cs : Text) → (c is ch "\"") ≡ true → segment (c ∷ cs) ≡ parse_quote cs
unfolding segment is_white within
quote_is c cs e = rw (is_eq c (ch "\"") e)

dollar_is : (c : Char) (cs : Text) → (c is ch "$") ≡ true → segment (c ∷ cs) ≡ parse_dollar cs
unfolding segment is_white within
dollar_is c cs e = rw (is_eq c (ch "$") e)

-- ── Raw strings and braces ──

pub raw_segment : (cs : Text) → starts_with (text "\"\"\"") cs ≡ true → segment cs ≡ parse_raw_string (up_to (text "\"\"\"") (drop 3 cs))
unfolding parse_quote
raw_segment [] e = starts_nil _ _ e
raw_segment (c ∷ cs) e =
    let h = starts_head (ch "\"") (text "\"\"") c cs e in
    let t : starts_with (text "\"\"") cs ≡ true = sym (starts_peel (ch "\"") (text "\"\"") c cs h) ∙ e in
    quote_is c cs h ∙ rw t

pub braces_segment : (cs : Text) → starts_with (text "${") cs ≡ true → segment cs ≡ dollar_braces (up_to (text "}") (drop 2 cs))
unfolding parse_dollar
braces_segment [] e = starts_nil _ _ e
braces_segment (c ∷ cs) e =
    let h = starts_head (ch "$") (text "{") c cs e in
    let t : starts_with (text "{") cs ≡ true = sym (starts_peel (ch "$") (text "{") c cs h) ∙ e in
    dollar_is c cs h ∙ rw t

-- ── Comments ──

module _ (c : Char) (cs : Text) (h : (c is ch "/") ≡ true) where
  peeled : (t : Text) (b : Bool) → starts_with (ch "/" ∷ t) (c ∷ cs) ≡ b → starts_with t cs ≡ b
  peeled t b e = sym (starts_peel (ch "/") t c cs h) ∙ e

  -- What a block doc comment begins with, behind the slash.
  doc_peeled : (b : Bool) → opens_doc (c ∷ cs) ≡ b → (starts_with (text "**") cs && not (starts_with (text "**/") cs)) ≡ b
  unfolding opens_doc
  doc_peeled b e = rw (starts_peel (ch "/") (text "**") c cs h, starts_peel (ch "/") (text "**/") c cs h) at e

pub line_segment : (cs : Text) → opens_line cs ≡ true → segment cs ≡ line_comment (drop 2 cs)
unfolding opens_line parse_slash_or_comment
line_segment [] e = starts_nil _ _ (and_both _ _ e).0
line_segment (c ∷ cs) e =
    let b = and_both (starts_with (text "//") (c ∷ cs)) (not (starts_with (text "///") (c ∷ cs))) e in
    let h = starts_head (ch "/") (text "/") c cs b.0 in
    let two = peeled c cs h (text "/") true b.0 in
    let three = peeled c cs h (text "//") false (not-true _ b.1) in
    slash_is c cs h ∙ rw (three, two)

pub line_doc_segment : (cs : Text) → starts_with (text "///") cs ≡ true → segment cs ≡ line_doc (drop 3 cs)
unfolding parse_slash_or_comment
line_doc_segment [] e = starts_nil _ _ e
line_doc_segment (c ∷ cs) e =
    let h = starts_head (ch "/") (text "//") c cs e in
    slash_is c cs h ∙ rw (peeled c cs h (text "//") true e)

-- `/**`, and not `/**/`.
pub doc_starts : (cs : Text) → opens_doc cs ≡ true → starts_with (text "/**") cs ≡ true
unfolding opens_doc
doc_starts cs e = (and_both (starts_with (text "/**") cs) (not (starts_with (text "/**/") cs)) e).0

pub block_doc_segment : (cs : Text) → opens_doc cs ≡ true → segment cs ≡ block_doc (up_to (text "*/") (drop 3 cs))
unfolding parse_slash_or_comment
block_doc_segment [] e = starts_nil (ch "/") (text "**") (doc_starts [] e)
block_doc_segment (c ∷ cs) e =
    let d = doc_starts (c ∷ cs) e in
    let h = starts_head (ch "/") (text "**") c cs d in
    let stars = peeled c cs h (text "**") true d in
    let one = starts_other (ch "*") (ch "/") (text "*") [] cs refl stars in
    slash_is c cs h ∙ rw (starts_longer (ch "/") (text "/") cs one, one, doc_peeled c cs h true e)

pub block_segment : (cs : Text) → opens_block cs ≡ true → segment cs ≡ block_comment (up_to (text "*/") (drop 2 cs))
unfolding opens_block parse_slash_or_comment
block_segment [] e = starts_nil (ch "/") (text "*") (and_both (starts_with (text "/*") []) (not (opens_doc [])) e).0
block_segment (c ∷ cs) e =
    let b = and_both (starts_with (text "/*") (c ∷ cs)) (not (opens_doc (c ∷ cs))) e in
    let h = starts_head (ch "/") (text "*") c cs b.0 in
    let star = peeled c cs h (text "*") true b.0 in
    let one = starts_other (ch "*") (ch "/") [] [] cs refl star in
    slash_is c cs h ∙ rw (starts_longer (ch "/") (text "/") cs one, one, doc_peeled c cs h false (not-true _ b.1), star)

-- No comment: a mark that begins with a slash.
pub slash_segment : (cs : Text) → starts_with (text "/") cs ≡ true → starts_with (text "//") cs ≡ false → starts_with (text "/*") cs ≡ false
    → segment cs ≡ parse_mark (ch "/") (drop 1 cs)
unfolding parse_slash_or_comment
slash_segment [] e f g = starts_nil (ch "/") [] e
slash_segment (c ∷ cs) e f g =
    let h = starts_head (ch "/") [] c cs e in
    let slash = peeled c cs h (text "/") false f in
    let star = peeled c cs h (text "*") false g in
    slash_is c cs h ∙ rw (starts_longer (ch "/") (text "/") cs slash, slash, starts_longer (ch "*") (text "*") cs star, star)
