-- A character of no class of its own begins nothing. Assumes nothing.
use Rattle.std.specs.Prelude.{if◌then◌else◌}
use mathlib.Core.Path.{◌≡◌, refl, sym, ap, ◌∙◌, subst}
use mathlib.Core.Bool.{true, false}
use mathlib.Core.List.{List, [], ◌∷◌}
use mathlib.Core.Logic.{⊎_elim}
use Prim.Native.Nat.{ℕ, ◌+◌, ◌≤◌, ◌<◌}
use native.Mathlib.Omega.{arith}
use lib.ListN.{get_or}
use borrow.Author.Tests.{eq-eqb}
use Rattle.characters.specs.Choice.{◌is◌, within}
use Rattle.characters.specs.Space.{is_white}
use Rattle.characters.specs.Utf8.{chars_at, decode_at}
use Rattle.characters.specs.declared.Decoded.{Decoded}
use Rattle.characters.specs.declared.Decoded.TheVariants.{Code, Bad, End}
use Rattle.characters.proofs.Choice.{le_or_lt}
use Rattle.characters.proofs.Decoding.{placed_code}
use Rattle.characters.proofs.Characters.{chars_code, chars_bad, chars_end}
use Rattle.rules.specs.Text.{Text, one_of, is_digit, is_letter, is_ident_start}
use Rattle.rules.specs.Scan.{next}
use Rattle.rules.specs.Tables.{MARKS}
use Rattle.multiline.specs.Tokens.{begins_nothing}
use Rattle.multiline.proofs.BeginsNothing.{high_begins_nothing}
use Rattle.classes.specs.Classes.{OTHER, mark_chars, place_from, class_of}
use Rattle.lexemes.proofs.Lists.{all_below, below}

-- A character below 80 is its byte.
pub char_byte : (s : List ℕ) (at c : ℕ) (cs : Text) → chars_at s at ≡ c ∷ cs → c ≤ 0x7F → c ≡ get_or s at 0
char_byte s at c cs e h = go (decode_at s at) refl
  where
    go : (d : Decoded) → decode_at s at ≡ d → c ≡ get_or s at 0
    go (Code v n) q =
        let w : v ∷ chars_at s (at + n) ≡ c ∷ cs = sym (chars_code s at v n q) ∙ e in
        let same : v ≡ c = cc in
        sym same ∙ (placed_code s at v n q).low (subst (λ (x : ℕ). x ≤ 0x7F) (sym same) h)
    go Bad q =
        let w : [] ≡ c ∷ cs = sym (chars_bad s at q) ∙ e in
        let z : ◌≡◌ {A = ℕ} 0 1 = cc in absurd (omega arith)
    go End q =
        let w : [] ≡ c ∷ cs = sym (chars_end s at q) ∙ e in
        let z : ◌≡◌ {A = ℕ} 0 1 = cc in absurd (omega arith)

-- Below 80: one computed test.
low_test : all_below (λ b. if class_of b is OTHER then begins_nothing b else true) 128 ≡ true
unfolding all_below class_of is_white is_digit is_ident_start is_letter place_from mark_chars within begins_nothing one_of MARKS
low_test = refl

low_nothing : (c : ℕ) → c < 128 → class_of c ≡ OTHER → begins_nothing c ≡ true
low_nothing c h e =
    rw (eq-eqb (class_of c) OTHER e) at (below (λ b. if class_of b is OTHER then begins_nothing b else true) 128 low_test c h)

pub other_nothing : (s : List ℕ) (at c : ℕ) (cs : Text) → chars_at s at ≡ c ∷ cs → next is_white (chars_at s at) ≡ false
    → class_of (get_or s at 0) ≡ OTHER → next begins_nothing (chars_at s at) ≡ true
unfolding next
other_nothing s at c cs e w k =
    let white : is_white c ≡ false = rw e at w in
    rw e (⊎_elim
    (λ h. low_nothing c (omega arith) (ap class_of (char_byte s at c cs e h) ∙ k))
    (λ h. high_begins_nothing c h white)
    (le_or_lt c 0x7F))
