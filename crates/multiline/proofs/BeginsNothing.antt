-- Characters that begin nothing. Assumes nothing.
use mathlib.Core.Path.{◌≡◌, refl, sym, ◌∙◌}
use mathlib.Core.Bool.{Bool, true, false, ◌||◌}
use mathlib.Core.Logic.{⊎_elim}
use mathlib.Core.List.{List, [], ◌∷◌, map}
use mathlib.Core.Option.{none}
use Prim.Native.Nat.{ℕ, ◌+◌, ◌≤◌}
use lib.ListN.{get_or}
use native.Mathlib.Omega.{arith}
use borrow.Author.Tests.{not-true}
use Rattle.characters.specs.Choice.{◌is◌, within}
use Rattle.characters.specs.Space.{is_white}
use Rattle.characters.specs.Utf8.{decode_at, chars_at}
use Rattle.characters.specs.declared.Decoded.{Decoded}
use Rattle.characters.specs.declared.Decoded.TheVariants.{Code, Bad, End}
use Rattle.characters.proofs.Choice.{or_neither, le_or_lt}
use Rattle.characters.proofs.Decoding.{placed_code}
use Rattle.characters.proofs.Characters.{chars_code, chars_bad, chars_end}
use Rattle.rules.specs.Text.{Char, Text, ch, text, one_of, is_digit, is_letter, is_ident_start}
use Rattle.rules.specs.Tables.{Row, MARKS, lookup}
use Rattle.rules.specs.Marks.{unexpected, mark_in, parse_mark}
use Rattle.rules.specs.Lexer.{segment}
use Rattle.bridge.specs.Bridge.{Low}
use Rattle.bridge.proofs.Tests.{low_within, low_is, low_one_of, all_low}
use Rattle.multiline.specs.Tokens.{begins_nothing}

abbrev keys : List (Char × Row) → Text
keys rows = map (λ (row : Char × Row). row.0) rows

lookup_none : (c : Char) (rows : List (Char × Row)) → one_of (keys rows) c ≡ false → lookup c rows ≡ none
unfolding lookup one_of
lookup_none c [] e = refl
lookup_none c (row ∷ rows) e =
    let b = or_neither (c is row.0) (one_of (keys rows) c) e in
    rw b.0 (lookup_none c rows b.1)

mark_none : (c : Char) (cs : Text) → one_of (keys MARKS) c ≡ false → parse_mark c cs ≡ unexpected c
unfolding parse_mark mark_in
mark_none c cs e = rw (lookup_none c MARKS e)

-- Such a character is unexpected.
pub unexpected_segment : (c : Char) (cs : Text) → begins_nothing c ≡ true → segment (c ∷ cs) ≡ unexpected c
unfolding begins_nothing segment one_of
unexpected_segment c cs e =
    let m = or_neither (is_white c || one_of (text "/$\"'") c || is_digit c || is_ident_start c) (one_of (keys MARKS) c) (not-true _ e) in
    let i = or_neither (is_white c || one_of (text "/$\"'") c || is_digit c) (is_ident_start c) m.0 in
    let d = or_neither (is_white c || one_of (text "/$\"'") c) (is_digit c) i.0 in
    let w = or_neither (is_white c) (one_of (text "/$\"'") c) d.0 in
    let s = or_neither (c is ch "/") (one_of (text "$\"'") c) w.1 in
    let k = or_neither (c is ch "$") (one_of (text "\"'") c) s.1 in
    let q = or_neither (c is ch "\"") (one_of (text "'") c) k.1 in
    let a = or_neither (c is ch "'") false q.1 in
    rw (w.0, s.0, k.0, q.0, a.0, d.1, i.1) (mark_none c cs m.1)

-- ── Characters beyond ASCII ──

low_not : (f : Char → Bool) (c : Char) → Low 1 f → 0x80 ≤ c → f c ≡ false
low_not f c l h = go (f c) refl
  where
    go : (b : Bool) → f c ≡ b → b ≡ false
    go false e = refl
    go true e = let p = l c e in absurd (omega arith)

quotes_low : all_low 1 (text "/$\"'") ≡ true
unfolding all_low within
quotes_low = refl

keys_low : all_low 1 (keys MARKS) ≡ true
unfolding all_low within MARKS
keys_low = refl

-- They begin nothing but white space.
pub high_begins_nothing : (c : Char) → 0x80 ≤ c → is_white c ≡ false → begins_nothing c ≡ true
unfolding begins_nothing is_digit is_ident_start is_letter
high_begins_nothing c h w =
    rw (
      w,
      low_not (one_of (text "/$\"'")) c (low_one_of 1 _ quotes_low) h,
      low_not (within (ch "0") (ch "9")) c (low_within 1 _ _ (omega arith) (omega arith)) h,
      low_not (within (ch "A") (ch "Z")) c (low_within 1 _ _ (omega arith) (omega arith)) h,
      low_not (within (ch "a") (ch "z")) c (low_within 1 _ _ (omega arith) (omega arith)) h,
      low_not (λ d. d is ch "_") c (low_is 1 _ (omega arith) (omega arith)) h,
      low_not (λ d. d is ch "$") c (low_is 1 _ (omega arith) (omega arith)) h,
      low_not (one_of (keys MARKS)) c (low_one_of 1 _ keys_low) h,
    )

-- A character whose first byte is not ASCII is not.
pub high_char : (s : List ℕ) (at c : ℕ) (cs : Text) → chars_at s at ≡ c ∷ cs → 0x80 ≤ get_or s at 0 → 0x80 ≤ c
high_char s at c cs e h = go (decode_at s at) refl
  where
    go : (r : Decoded) → decode_at s at ≡ r → 0x80 ≤ c
    go (Code v n) d =
        let x : ◌≡◌ {A = List ℕ} (v ∷ chars_at s (at + n)) (c ∷ cs) = sym (chars_code s at v n d) ∙ e in
        let y : v ≡ c = cc in
        ⊎_elim (λ l. let z = (placed_code s at v n d).low (omega arith) in absurd (omega arith)) (λ g. g) (le_or_lt c 0x7F)
    go Bad d =
        let x : ◌≡◌ {A = List ℕ} [] (c ∷ cs) = sym (chars_bad s at d) ∙ e in
        let y : ◌≡◌ {A = ℕ} 0 1 = cc in
        absurd (omega arith)
    go End d =
        let x : ◌≡◌ {A = List ℕ} [] (c ∷ cs) = sym (chars_end s at d) ∙ e in
        let y : ◌≡◌ {A = ℕ} 0 1 = cc in
        absurd (omega arith)
