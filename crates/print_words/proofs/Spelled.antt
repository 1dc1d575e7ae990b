-- A word is one token, which is printed as its own characters. Assumes nothing.
use mathlib.Core.Path.{◌≡◌, refl, sym, ap, ◌∙◌, subst}
use mathlib.Core.Bool.{Bool, true, false}
use mathlib.Core.List.{List, [], ◌∷◌, map}
use Prim.Native.Nat.{ℕ, ◌+◌}
use lib.ListN.{get_or}
use lib.Seq.{slice}
use borrow.Author.Tests.{eqb-true, eqb-false, not-true}
use Rattle.characters.specs.Choice.{◌is◌}
use Rattle.characters.specs.Utf8.{chars_at}
use Rattle.rules.specs.Text.{Char, Text, text, one_of}
use Rattle.rules.specs.Scan.{starts_with}
use Rattle.rules.specs.Tables.{Ident, EOF}
use Rattle.rules.specs.Segment.{Segment, token, piece}
use Rattle.rules.specs.Marks.{parse_mark}
use Rattle.rules.specs.Lexer.{parse_dollar, segment}
use Rattle.lexemes.specs.Words.{word_text, WordAt}
use Rattle.classes.specs.Classes.{SLASH, DOLLAR, LETTER, DIGIT, class_of}
use Rattle.words.specs.Words.{begins_word, Begun}
use Rattle.words.proofs.Segments.{dollar_segment, letter_segment, digit_segment}
use Rattle.words.proofs.Begins.{is_mark}
use Rattle.prints.specs.Elements.{Word, lone, word}
use Rattle.prints.specs.Print.{emitted, is_doc}
use Rattle.prints.proofs.Plain.{plain_kind, emitted_plain, plain_no_doc, Whole, number_whole, name_whole, mark_plain_lem}
use Rattle.prints.proofs.Grouped.{Kinds, mark_kinds, number_kinds, name_kinds}

-- A segment of one token, which is printed as its characters, and is neither a doc comment nor EOF.
record Own (g : Segment) : Type 0 where
  single : Word
  only : map word g.pieces ≡ single ∷ []
  spelled : emitted (lone single) ≡ g.chars
  no_doc : is_doc (lone single) ≡ false
  no_eof : Kinds g.pieces

-- ── By what it begins with ──

whole_own : (g : Segment) → Whole g → Kinds g.pieces → Own g
whole_own g (k, p, o, f, z) n =
    let w : Word = record { kind = k; text = g.chars } in
    record { single = w; only = o; spelled = emitted_plain w p; no_doc = plain_no_doc w p; no_eof = n }

mark_own : (c : Char) (cs : Text) → (parse_mark c cs).faults ≡ [] → Own (parse_mark c cs)
mark_own c cs q =
    let p = mark_plain_lem c cs q in
    record { single = p.token; only = p.only; spelled = p.spelled; no_doc = p.no_doc; no_eof = mark_kinds c cs }

dollar_own : (cs : Text) → starts_with (text "{") cs ≡ false → Own (parse_dollar cs)
unfolding parse_dollar plain_kind one_of
dollar_own cs e = rw e (whole_own _ (Ident, refl, refl, refl, refl) (refl, tt))

module _ (s : List ℕ) (at k : ℕ) (w : Begun s at k) where
  is_class : (n : ℕ) → (k is n) ≡ true → class_of (get_or s at 0) ≡ n
  is_class n e = sym w.class_is ∙ eqb-true k n e

  no_brace : (k is DOLLAR) ≡ true → starts_with (text "{") (chars_at s (at + 1)) ≡ false
  unfolding begins_word
  no_brace e = not-true _ (rw e at w.begins)

  begun_own : (segment (chars_at s at)).faults ≡ [] → Own (segment (chars_at s at))
  begun_own f = letter (k is LETTER) refl
    where
      mark : (k is LETTER) ≡ false → (k is DIGIT) ≡ false → (k is DOLLAR) ≡ false → Own (segment (chars_at s at))
      mark a b d =
          let q = is_mark s at k w (eqb-false k LETTER a) (eqb-false k DIGIT b) (eqb-false k DOLLAR d) (k is SLASH) refl in
          subst Own (sym q) (mark_own (get_or s at 0) (chars_at s (at + 1)) (sym (ap (λ (g : Segment). g.faults) q) ∙ f))

      dollar : (b : Bool) → (k is DOLLAR) ≡ b → (k is LETTER) ≡ false → (k is DIGIT) ≡ false → Own (segment (chars_at s at))
      dollar true e x y =
          subst Own (sym (dollar_segment s at (is_class DOLLAR e))) (dollar_own (chars_at s (at + 1)) (no_brace e))
      dollar false e x y = mark x y e

      digit : (b : Bool) → (k is DIGIT) ≡ b → (k is LETTER) ≡ false → Own (segment (chars_at s at))
      digit true e x =
          subst Own (sym (digit_segment s at (is_class DIGIT e)))
          (whole_own _ (number_whole (chars_at s at)) (number_kinds (chars_at s at)))
      digit false e x = dollar (k is DOLLAR) refl x e

      letter : (b : Bool) → (k is LETTER) ≡ b → Own (segment (chars_at s at))
      letter true e =
          subst Own (sym (letter_segment s at (is_class LETTER e)))
          (whole_own _ (name_whole (chars_at s at)) (name_kinds (chars_at s at)))
      letter false e = digit (k is DIGIT) refl e

-- ── The word at a place ──

module _ (s : List ℕ) (at k kind n e : ℕ) (w : Begun s at k) (x : WordAt s at (segment (chars_at s at)) kind n e) where
  abbrev chars : Text
  chars = slice at (at + n) s

  abbrev itself : Word
  itself = record { kind = kind; text = word_text kind chars }

  own : Own (token chars (piece kind (word_text kind chars) e))
  own = subst Own x.same (begun_own s at k w (ap (λ (g : Segment). g.faults) x.same))

  is_itself : own.single ≡ itself
  is_itself = let o = own.only in cc

  pub word_spelled : emitted (lone itself) ≡ chars
  word_spelled = ap (λ (v : Word). emitted (lone v)) (sym is_itself) ∙ own.spelled

  pub word_no_doc : is_doc (lone itself) ≡ false
  word_no_doc = ap (λ (v : Word). is_doc (lone v)) (sym is_itself) ∙ own.no_doc

  pub word_no_eof : (kind is EOF) ≡ false
  word_no_eof = own.no_eof.0
