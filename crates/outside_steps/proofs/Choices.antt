-- What begins at a position, by the class of its byte. Assumes nothing.
use Rattle.std.specs.Prelude.{if◌then◌else◌}
use mathlib.Core.Path.{◌≡◌, refl, sym, ap, ◌∙◌, subst}
use mathlib.Core.Bool.{Bool, true, false, ◌||◌, not, true≢false}
use mathlib.Core.List.{List, [], ◌∷◌}
use mathlib.Core.Logic.{⊎_elim}
use Prim.Native.Nat.{ℕ, ◌+◌, ◌≤◌, ◌<◌}
use native.Mathlib.Omega.{arith}
use lib.Dec.{leb}
use lib.ListN.{length, get_or}
use borrow.Author.Tests.{eqb-true, eqb-false, eq-eqb, ne_eqb, leb-true}
use Rattle.characters.specs.Choice.{◌is◌, within}
use Rattle.characters.specs.Space.{is_white}
use Rattle.characters.specs.Utf8.{chars_at}
use Rattle.characters.proofs.Choice.{or_either, or_neither, within_yes, le_or_lt}
use Rattle.rules.specs.Text.{Text, text, is_digit, is_letter, is_ident_start}
use Rattle.rules.specs.Scan.{next, starts_with}
use Rattle.rules.specs.Segment.{Segment}
use Rattle.rules.specs.Comments.{white_space}
use Rattle.rules.specs.Lexer.{segment}
use Rattle.bridge.specs.Bridge.{exactly}
use Rattle.walks.specs.Openings.{opens_doc}
use Rattle.skipping.specs.Skips.{is_skipped, is_skipped_sort}
use Rattle.multiline.specs.Tokens.{dollar_brace, slashes}
use Rattle.skipping.proofs.Stops.{kept_line, kept_block}
use Rattle.classes.specs.Classes.{OTHER, SLASH, SPACE, APOSTROPHE, QUOTE, DOLLAR, LETTER, DIGIT, mark_chars, place_from, class_of}
use Rattle.words.specs.Words.{is_word_class, begins_word}
use Rattle.lexemes.proofs.Lists.{all_below, below}
use Rattle.classes.proofs.Laws.{class_low, class_there, class_char, dollar_is, slash_is}
use Rattle.words.proofs.Segments.{space_segment}

starts_cons : (b : ℕ) (t cs : Text) → starts_with t cs ≡ true → starts_with (b ∷ t) (b ∷ cs) ≡ true
unfolding starts_with
starts_cons b t cs h = rw (eq-eqb b b refl, h)

-- ── Two classes of one character ──

quote_test : all_below (λ b. if class_of b is QUOTE then b is 34 else true) 128 ≡ true
unfolding all_below class_of is_white is_digit is_ident_start is_letter place_from mark_chars within
quote_test = refl

apostrophe_test : all_below (λ b. if class_of b is APOSTROPHE then b is 39 else true) 128 ≡ true
unfolding all_below class_of is_white is_digit is_ident_start is_letter place_from mark_chars within
apostrophe_test = refl

bound_test : all_below (λ b. leb (class_of b) 31) 128 ≡ true
unfolding all_below class_of is_white is_digit is_ident_start is_letter place_from mark_chars within
bound_test = refl

of_class : (k d b : ℕ) → 1 ≤ k → all_below (λ b. if class_of b is k then b is d else true) 128 ≡ true → class_of b ≡ k → b ≡ d
of_class k d b h t e =
    let low = class_low b (subst (λ (n : ℕ). 1 ≤ n) (sym e) h) in
    eqb-true b d (rw (eq-eqb (class_of b) k e) at (below (λ b. if class_of b is k then b is d else true) 128 t b low))

class_bound : (b : ℕ) → 1 ≤ class_of b → class_of b ≤ 31
class_bound b h = leb-true (class_of b) 31 (below (λ b. leb (class_of b) 31) 128 bound_test b (class_low b h))

module _ (s : List ℕ) (at k : ℕ) (e : k ≡ class_of (get_or s at 0)) where
  abbrev cs : Text
  cs = chars_at s (at + 1)

  some_class : 1 ≤ k → chars_at s at ≡ get_or s at 0 ∷ cs
  some_class h = class_char s at (subst (λ (n : ℕ). 1 ≤ n) e h)

  stands : (d : ℕ) → 1 ≤ k → get_or s at 0 ≡ d → chars_at s at ≡ d ∷ cs
  stands d h q = some_class h ∙ ap (λ (b : ℕ). b ∷ cs) q

  stands_next : (d : ℕ) → chars_at s at ≡ d ∷ cs → next (exactly d) (chars_at s at) ≡ true
  unfolding next
  stands_next d q = rw q (eq-eqb d d refl)

  -- A byte of a class of its own stands there.
  pub class_in : (k ≡ OTHER → ⊥) → at < length s
  class_in n = class_there s at (subst (λ (v : ℕ). 1 ≤ v) e (⊎_elim (λ h. absurd (n (omega arith))) (λ h. h) (le_or_lt k 0)))

  pub quote_stands : k ≡ QUOTE → next (exactly 34) (chars_at s at) ≡ true
  quote_stands q = stands_next 34 (stands 34 (omega arith) (of_class QUOTE 34 (get_or s at 0) (omega arith) quote_test (sym e ∙ q)))

  pub apostrophe_stands : k ≡ APOSTROPHE → next (exactly 39) (chars_at s at) ≡ true
  apostrophe_stands q =
      stands_next 39 (stands 39 (omega arith) (of_class APOSTROPHE 39 (get_or s at 0) (omega arith) apostrophe_test (sym e ∙ q)))

  -- A dollar sign that begins no word opens braces.
  pub brace_stands : k ≡ DOLLAR → begins_word k cs ≡ false → starts_with dollar_brace (chars_at s at) ≡ true
  unfolding begins_word starts_with
  brace_stands q f =
      let c = stands 36 (omega arith) (dollar_is (get_or s at 0) (sym e ∙ q)) in
      let o : not (starts_with (text "{") cs) ≡ false = rw q at f in
      rw c (not_false (starts_with (text "{") cs) o)
    where
      not_false : (b : Bool) → not b ≡ false → b ≡ true
      not_false true e = refl
      not_false false e = absurd (true≢false e)

  -- ── What is left: a doc comment ──

  -- White space is skipped, so it does not stand here.
  no_space : is_skipped (chars_at s at) ≡ false → k ≡ SPACE → ⊥
  unfolding is_skipped is_skipped_sort white_space
  no_space h q =
      let c = some_class (omega arith) in
      let w : segment (get_or s at 0 ∷ cs) ≡ white_space (get_or s at 0) = subst (λ (l : Text). segment l ≡ white_space (get_or s at 0)) c (space_segment s at (sym e ∙ q)) in
      true≢false (sym (ap (λ (g : Segment). is_skipped_sort g.sort) w) ∙ subst (λ (l : Text). is_skipped l ≡ false) c h)

  module _ (kept : is_skipped (chars_at s at) ≡ false) (n : k ≡ OTHER → ⊥) (m : k ≡ QUOTE → ⊥) (o : k ≡ APOSTROPHE → ⊥) where
    -- What is left are the classes with which a word can begin.
    pub word_class : is_word_class k ≡ true
    unfolding is_word_class
    word_class = go (is_word_class k) refl
      where
        some : 1 ≤ k
        some = ⊎_elim (λ h. absurd (n (omega arith))) (λ h. h) (le_or_lt k 0)

        top : k ≤ 31
        top = subst (λ (v : ℕ). v ≤ 31) (sym e) (class_bound (get_or s at 0) (subst (λ (v : ℕ). 1 ≤ v) e some))

        last : (k : ℕ) → 1 ≤ k → k ≤ 31 → (k ≡ 28 → ⊥) → (k ≡ 27 → ⊥) → (k ≡ 29 → ⊥) → (k ≡ 30 → ⊥) → (k ≡ 31 → ⊥) → within 1 25 k ≡ false → (k ≡ 26 → ⊥) → ⊥
        last k a b q p r l g w h =
            ⊎_elim (λ x. true≢false (sym (within_yes 1 25 k a x) ∙ w))
            (λ x. ⊎_elim (λ y. h (omega arith))
            (λ y. ⊎_elim (λ z. p (omega arith))
            (λ z. ⊎_elim (λ u. q (omega arith))
            (λ u. ⊎_elim (λ v. r (omega arith)) (λ v. ⊎_elim (λ t. l (omega arith)) (λ t. g (omega arith)) (le_or_lt k 30)) (le_or_lt k 29))
            (le_or_lt k 28)) (le_or_lt k 27)) (le_or_lt k 26)) (le_or_lt k 25)

        go : (b : Bool) → is_word_class k ≡ b → b ≡ true
        go true x = refl
        go false x =
            let y = or_neither (k is DOLLAR || k is LETTER || k is DIGIT) (within 1 25 k) x in
            let z = or_neither (k is DOLLAR || k is LETTER) (k is DIGIT) y.0 in
            let w = or_neither (k is DOLLAR) (k is LETTER) z.0 in
            absurd (last k some top m o (eqb-false k DOLLAR w.0) (eqb-false k LETTER w.1) (eqb-false k DIGIT z.1) y.1 (no_space kept))

  module _ (kept : is_skipped (chars_at s at) ≡ false) (f : begins_word k cs ≡ false) (n : k ≡ OTHER → ⊥) (m : k ≡ QUOTE → ⊥)
      (o : k ≡ APOSTROPHE → ⊥) (d : k ≡ DOLLAR → ⊥) where
    is_slash : (b : Bool) → (k is SLASH) ≡ b → k ≡ SLASH
    unfolding begins_word is_word_class
    is_slash true q = eqb-true k SLASH q
    is_slash false q =
        let x : (k is LETTER || k is DIGIT || within 1 25 k) ≡ false = rw (ne_eqb k DOLLAR d, q) at f in
        let y : (k is LETTER || k is DIGIT || within 1 25 k) ≡ true = rw (ne_eqb k DOLLAR d) at (word_class kept n m o) in
        absurd (true≢false (sym y ∙ x))

    -- Three slashes stand here, or a block doc comment opens.
    pub doc_stands : starts_with slashes (chars_at s at) ≡ false → opens_doc (chars_at s at) ≡ true
    unfolding begins_word
    doc_stands g =
        let q = is_slash (k is SLASH) refl in
        let c = stands 47 (omega arith) (slash_is (get_or s at 0) (sym e ∙ q)) in
        let x : not (starts_with (text "/") cs || starts_with (text "*") cs) ≡ false = rw q at f in
        ⊎_elim
        (λ h. absurd (true≢false (sym (kept_line (chars_at s at) kept (starts_two 47 c h)) ∙ g)))
        (λ h. kept_block (chars_at s at) kept (starts_two 42 c h))
        (or_either (starts_with (text "/") cs) (starts_with (text "*") cs) (not_false _ x))
      where
        starts_two : (b : ℕ) → chars_at s at ≡ 47 ∷ cs → starts_with (b ∷ []) cs ≡ true → starts_with (47 ∷ b ∷ []) (chars_at s at) ≡ true
        starts_two b c h = subst (λ (l : Text). starts_with (47 ∷ b ∷ []) l ≡ true) (sym c) (starts_cons 47 (b ∷ []) cs h)

        not_false : (b : Bool) → not b ≡ false → b ≡ true
        not_false true e = refl
        not_false false e = absurd (true≢false e)
