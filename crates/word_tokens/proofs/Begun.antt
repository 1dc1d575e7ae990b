-- A word that begins at a position is of a kind whose text is not made. Assumes nothing.
use mathlib.Core.Path.{◌≡◌, refl, sym, ◌∙◌, subst}
use mathlib.Core.Bool.{Bool, true, false}
use mathlib.Core.List.{List}
use Prim.Native.Nat.{ℕ, ◌+◌}
use lib.ListN.{get_or}
use borrow.Author.Tests.{eqb-true, eqb-false, not-true}
use Rattle.characters.specs.Choice.{◌is◌, within}
use Rattle.characters.specs.Utf8.{chars_at}
use Rattle.rules.specs.Text.{Text, text}
use Rattle.rules.specs.Scan.{starts_with}
use Rattle.rules.specs.Lexer.{parse_dollar, segment}
use Rattle.records.specs.Kinds.{is_made}
use Rattle.classes.specs.Classes.{DOLLAR, LETTER, DIGIT, class_of}
use Rattle.lexemes.specs.Words.{WordAt}
use Rattle.words.specs.Words.{begins_word, Begun}
use Rattle.words.proofs.Segments.{dollar_segment, letter_segment, digit_segment}
use Rattle.words.proofs.Begins.{is_mark}
use Rattle.word_tokens.proofs.Plain.{PlainKind, Plain, number_plain, name_plain, mark_plain_lem}

module _ (s : List ℕ) (at k : ℕ) (w : Begun s at k) where
  is_class : (n : ℕ) → (k is n) ≡ true → class_of (get_or s at 0) ≡ n
  is_class n e = sym w.class_is ∙ eqb-true k n e

  no_brace : (k is DOLLAR) ≡ true → starts_with (text "{") (chars_at s (at + 1)) ≡ false
  unfolding begins_word
  no_brace e = not-true _ (rw e at w.begins)

  dollar_plain : (cs : Text) → starts_with (text "{") cs ≡ false → Plain (parse_dollar cs)
  unfolding parse_dollar is_made within
  dollar_plain cs e = rw e (refl, tt)

  pub begun_plain : Plain (segment (chars_at s at))
  begun_plain = letter (k is LETTER) refl
    where
      mark : (k is LETTER) ≡ false → (k is DIGIT) ≡ false → (k is DOLLAR) ≡ false → Plain (segment (chars_at s at))
      mark a b d =
          subst Plain
          (sym (is_mark s at k w (eqb-false k LETTER a) (eqb-false k DIGIT b) (eqb-false k DOLLAR d) (k is 13) refl))
          (mark_plain_lem (get_or s at 0) (chars_at s (at + 1)))

      dollar : (b : Bool) → (k is DOLLAR) ≡ b → (k is LETTER) ≡ false → (k is DIGIT) ≡ false → Plain (segment (chars_at s at))
      dollar true e x y =
          subst Plain (sym (dollar_segment s at (is_class DOLLAR e))) (dollar_plain (chars_at s (at + 1)) (no_brace e))
      dollar false e x y = mark x y e

      digit : (b : Bool) → (k is DIGIT) ≡ b → (k is LETTER) ≡ false → Plain (segment (chars_at s at))
      digit true e x = subst Plain (sym (digit_segment s at (is_class DIGIT e))) (number_plain (chars_at s at))
      digit false e x = dollar (k is DOLLAR) refl x e

      letter : (b : Bool) → (k is LETTER) ≡ b → Plain (segment (chars_at s at))
      letter true e = subst Plain (sym (letter_segment s at (is_class LETTER e))) (name_plain (chars_at s at))
      letter false e = digit (k is DIGIT) refl e

-- The kind of the word.
pub word_kind : (s : List ℕ) (at k kind n e : ℕ) → Begun s at k → WordAt s at (segment (chars_at s at)) kind n e → PlainKind kind
word_kind s at k kind n e w x = (subst Plain x.same (begun_plain s at k w)).0
