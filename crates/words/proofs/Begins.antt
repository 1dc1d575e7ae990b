-- The word that begins at a place, by its class. Assumes nothing.
use mathlib.Core.Path.{◌≡◌, refl, sym, ◌∙◌}
use mathlib.Core.Bool.{Bool, true, false, ◌||◌, not, and-true, true≢false}
use mathlib.Core.List.{List, [], ◌∷◌}
use Prim.Native.Nat.{ℕ, ◌+◌, ◌≤◌}
use lib.ListN.{length, get_or}
use native.Mathlib.Omega.{arith}
use borrow.Author.Tests.{eqb-true, eq-eqb, ne_eqb, not-true}
use Rattle.characters.specs.Choice.{◌is◌, within}
use Rattle.characters.specs.Utf8.{chars_at}
use Rattle.characters.proofs.Choice.{or_neither, within_bounds}
use Rattle.rules.specs.Text.{Text, ch, text, is_digit, is_ident_part}
use Rattle.rules.specs.Scan.{next, starts_with, nothing, takes}
use Rattle.rules.specs.Tables.{Ident}
use Rattle.rules.specs.Numbers.{parse_number}
use Rattle.rules.specs.Names.{parse_identifier_or_keyword}
use Rattle.rules.specs.Marks.{parse_mark}
use Rattle.rules.specs.Docs.{parse_slash_or_comment}
use Rattle.rules.specs.Lexer.{parse_dollar, segment}
use Rattle.bridge.specs.Bridge.{exactly, Cut}
use Rattle.bridge.proofs.Tests.{low_weak}
use Rattle.bridge.proofs.Bytes.{byte_next, starts_one}
use Rattle.bridge.proofs.Cuts.{cut_nothing, cut_cons}
use Rattle.lexemes.specs.Words.{WordAt}
use Rattle.lexemes.proofs.Tests.{digit_low}
use Rattle.lexemes.proofs.Words.{word_of, text_plain, end_word}
use Rattle.classes.specs.Classes.{SLASH, DOLLAR, LETTER, DIGIT, class_of}
use Rattle.classes.proofs.Laws.{class_low, class_there, letter_part, digit_part, dollar_is, slash_is}
use Rattle.names.proofs.Tests.{part_low}
use Rattle.words.specs.Words.{is_word_class, begins_word, Begun}
use Rattle.words.proofs.Segments.{slash_segment, dollar_segment, digit_segment, letter_segment, mark_segment}

-- ── A slash that begins no comment ──

starts_none : (c : ℕ) (t cs : Text) → starts_with (c ∷ []) cs ≡ false → starts_with (c ∷ t) cs ≡ false
unfolding starts_with
starts_none c t [] e = refl
starts_none c t (x ∷ cs) e = rw (sym (and-true (x is c)) ∙ e)

slash_plain : (cs : Text) → not (starts_with (text "/") cs || starts_with (text "*") cs) ≡ true
    → parse_slash_or_comment cs ≡ parse_mark (ch "/") cs
unfolding parse_slash_or_comment
slash_plain cs h =
    let p = or_neither (starts_with (text "/") cs) (starts_with (text "*") cs) (not-true _ h) in
    rw (starts_none (ch "/") (text "/") cs p.0, p.0, starts_none (ch "*") (text "*") cs p.1, p.1)

-- ── What begins at a place ──

module _ (s : List ℕ) (at k : ℕ) (w : Begun s at k) where
  abbrev At : ℕ → ℕ → ℕ → Type 0
  At kind n e = WordAt s at (segment (chars_at s at)) kind n e

  abbrev cs : Text
  cs = chars_at s (at + 1)

  module _ (e : k ≡ LETTER) where
    has_letter : class_of (get_or s at 0) ≡ LETTER
    has_letter = sym w.class_is ∙ e

    pub letter_there : (at ≤ length s) × (next is_ident_part (chars_at s at) ≡ true)
    letter_there =
        let h = class_there s at (omega (arith, has_letter)) in
        (omega arith, byte_next is_ident_part (low_weak is_ident_part part_low) s at ∙ letter_part (get_or s at 0) has_letter)

    pub letter_word : (kind n e : ℕ) → WordAt s at (parse_identifier_or_keyword (chars_at s at)) kind n e → At kind n e
    letter_word kind n e x = rw (letter_segment s at has_letter) x

  module _ (e : k ≡ DIGIT) where
    has_digit : class_of (get_or s at 0) ≡ DIGIT
    has_digit = sym w.class_is ∙ e

    pub digit_there : (at ≤ length s) × (next is_digit (chars_at s at) ≡ true)
    digit_there =
        let h = class_there s at (omega (arith, has_digit)) in
        (omega arith, byte_next is_digit (low_weak is_digit digit_low) s at ∙ digit_part (get_or s at 0) has_digit)

    pub digit_word : (kind n e : ℕ) → WordAt s at (parse_number (chars_at s at)) kind n e → At kind n e
    digit_word kind n e x = rw (digit_segment s at has_digit) x

  -- The first character alone.
  one_cut : 11 ≤ get_or s at 0 → 1 ≤ k → Cut s at (takes (get_or s at 0) (nothing cs)) (at + 1)
  one_cut l g =
      let z = w.class_is in
      let h = class_there s at (omega arith) in
      let b = class_low (get_or s at 0) (omega arith) in
      cut_cons s at (nothing cs) (at + 1) h l (omega arith) (cut_nothing s (at + 1) (omega arith))

  pub dollar_word : k ≡ DOLLAR → At Ident 1 0
  unfolding begins_word parse_dollar
  dollar_word e =
      let h = sym w.class_is ∙ e in
      let d = dollar_is (get_or s at 0) h in
      let n : not (starts_with (text "{") cs) ≡ true = rw e at w.begins in
      word_of s at Ident 1 0 (takes (get_or s at 0) (nothing cs)) (segment (chars_at s at)) (one_cut (omega arith) (omega arith))
      (omega arith) (omega arith)
      (dollar_segment s at h ∙ rw (not-true (starts_with (text "{") cs) n, text_plain Ident (get_or s at 0 ∷ []) refl, end_word (ch "$" ∷ []), d))

  module _ (l : k ≡ LETTER → ⊥) (d : k ≡ DIGIT → ⊥) (o : k ≡ DOLLAR → ⊥) where
    -- What is left are the marks.
    left_mark : (b : Bool) → (k is SLASH) ≡ b → (1 ≤ k) × (k ≤ 25)
    unfolding begins_word
    left_mark true e = let q = eqb-true k SLASH e in (omega arith, omega arith)
    left_mark false e =
        within_bounds 1 25 k (rw (ne_eqb k DOLLAR o, e, ne_eqb k LETTER l, ne_eqb k DIGIT d) at w.begins)

    pub mark_bounds : (1 ≤ k) × (k ≤ 25)
    mark_bounds = left_mark (k is SLASH) refl

    slash_mark : k ≡ SLASH → parse_slash_or_comment cs ≡ parse_mark (ch "/") cs
    unfolding begins_word
    slash_mark e = slash_plain cs (rw e at w.begins)

    pub is_mark : (b : Bool) → (k is SLASH) ≡ b → segment (chars_at s at) ≡ parse_mark (get_or s at 0) cs
    is_mark true e =
        let q = eqb-true k SLASH e in
        let h = sym w.class_is ∙ q in
        slash_segment s at h ∙ (slash_mark q ∙ rw (slash_is (get_or s at 0) h))
    is_mark false e =
        mark_segment s at k (sym w.class_is) mark_bounds.0 mark_bounds.1
        (λ q. true≢false (sym (eq-eqb k SLASH q) ∙ e))

    pub mark_word : (kind n e : ℕ) → WordAt s at (parse_mark (get_or s at 0) cs) kind n e → At kind n e
    mark_word kind n e x = rw (is_mark (k is SLASH) refl) x

-- ── The test ──

module _ (k : ℕ) (cs : Text) where
  pub begins_dollar : (b : Bool) → k ≡ DOLLAR → b ≡ next (exactly 123) cs → not b ≡ begins_word k cs
  unfolding begins_word
  begins_dollar b e q = rw (eq-eqb k DOLLAR e, starts_one 123 cs, q)

  pub begins_slash : (a b : Bool) → k ≡ SLASH → a ≡ next (exactly 47) cs → b ≡ next (exactly 42) cs → not (a || b) ≡ begins_word k cs
  unfolding begins_word
  begins_slash a b e p q = rw (e, starts_one 47 cs, starts_one 42 cs, p, q)

  pub begins_other : (k ≡ DOLLAR → ⊥) → (k ≡ SLASH → ⊥) → is_word_class k ≡ true → true ≡ begins_word k cs
  unfolding begins_word is_word_class
  begins_other n m e =
      let h : (k is LETTER || k is DIGIT || within 1 25 k) ≡ true = rw (ne_eqb k DOLLAR n) at e in
      rw (ne_eqb k DOLLAR n, ne_eqb k SLASH m, h)
