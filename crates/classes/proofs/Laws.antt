-- Laws of the classes. What holds of each character of a class is one test that antt computes at the 128. Assumes nothing.
use Rattle.std.specs.Prelude.{if◌then◌else◌}
use mathlib.Core.Path.{◌≡◌, refl, ap}
use mathlib.Core.Bool.{Bool, true}
use mathlib.Core.Logic.{⊎_elim}
use mathlib.Core.List.{List, ◌∷◌}
use Prim.Native.Nat.{ℕ, ◌+◌, ◌≤◌, ◌<◌}
use lib.ListN.{length, get_or}
use native.Mathlib.Omega.{arith}
use borrow.Author.Tests.{le-leb, eqb-true}
use Rattle.characters.specs.Choice.{◌is◌, within}
use Rattle.characters.specs.Utf8.{chars_at}
use Rattle.characters.specs.Space.{is_white}
use Rattle.characters.proofs.Choice.{le_or_lt}
use Rattle.characters.proofs.Decoding.{octet_there}
use Rattle.characters.proofs.Characters.{chars_ascii}
use Rattle.rules.specs.Text.{ch, is_digit, is_letter, is_ident_start, is_ident_part}
use Rattle.lexemes.proofs.Lists.{table_at, all_below, below}
use Rattle.classes.specs.Classes.{SLASH, DOLLAR, LETTER, DIGIT, mark_chars, place_from, class_of, class_table}

pub class_entry : (b : ℕ) → b < 128 → get_or class_table b 0 ≡ class_of b
unfolding class_table
class_entry b h = table_at class_of 128 b h

pub class_high : (b : ℕ) → 128 ≤ b → class_of b ≡ 0
unfolding class_of
class_high b h = rw (le-leb 0x80 b h)

pub class_low : (b : ℕ) → 1 ≤ class_of b → b < 128
class_low b h = ⊎_elim (λ x. absurd (omega (arith, class_high b x))) (λ x. x) (le_or_lt 128 b)

class_zero : class_of 0 ≡ 0
unfolding class_of is_white is_digit is_ident_start is_letter place_from mark_chars within
class_zero = refl

-- What the characters of a class are.
unfoldable fact_of : ℕ → ℕ → Bool
fact_of k b =
    if k is LETTER then is_ident_part b
    else if k is DIGIT then is_digit b
    else if k is DOLLAR then b is ch "$"
    else if k is SLASH then b is ch "/"
    else true

class_test : all_below (λ b. fact_of (class_of b) b) 128 ≡ true
unfolding all_below fact_of class_of is_white is_digit is_ident_start is_ident_part is_letter place_from mark_chars within
class_test = refl

class_fact : (b k : ℕ) → class_of b ≡ k → 1 ≤ k → fact_of k b ≡ true
class_fact b k e h = rw e at (below (λ b. fact_of (class_of b) b) 128 class_test b (class_low b (omega arith)))

pub letter_part : (b : ℕ) → class_of b ≡ LETTER → is_ident_part b ≡ true
unfolding fact_of
letter_part b e = class_fact b LETTER e (omega arith)

pub digit_part : (b : ℕ) → class_of b ≡ DIGIT → is_digit b ≡ true
unfolding fact_of
digit_part b e = class_fact b DIGIT e (omega arith)

pub dollar_is : (b : ℕ) → class_of b ≡ DOLLAR → b ≡ ch "$"
unfolding fact_of
dollar_is b e = eqb-true b (ch "$") (class_fact b DOLLAR e (omega arith))

pub slash_is : (b : ℕ) → class_of b ≡ SLASH → b ≡ ch "/"
unfolding fact_of
slash_is b e = eqb-true b (ch "/") (class_fact b SLASH e (omega arith))

-- A byte that has a class is there, and is a character.
module _ (s : List ℕ) (at : ℕ) (h : 1 ≤ class_of (get_or s at 0)) where
  some_byte : 1 ≤ get_or s at 0
  some_byte = ⊎_elim (λ x. absurd (omega (arith, ap class_of (zero_of x), class_zero))) (λ x. x) (le_or_lt (get_or s at 0) 0)
    where
      zero_of : get_or s at 0 ≤ 0 → get_or s at 0 ≡ 0
      zero_of x = omega arith

  pub class_there : at < length s
  class_there = octet_there s at some_byte

  pub class_char : chars_at s at ≡ get_or s at 0 ∷ chars_at s (at + 1)
  class_char = let l = class_low (get_or s at 0) h in chars_ascii s at class_there (omega arith)
