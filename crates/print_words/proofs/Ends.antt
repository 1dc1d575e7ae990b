-- The end of the word at a place, by its class. Assumes nothing.
use mathlib.Core.Path.{◌≡◌, refl}
use mathlib.Core.Bool.{true, false≢true}
use mathlib.Core.List.{List}
use Prim.Native.Nat.{ℕ, zero, suc, ◌+◌, ◌-◌, ◌≤◌, ◌<◌}
use native.Mathlib.Omega.{arith}
use lib.ListN.{length}
use lib.Seq.{slice}
use Rattle.characters.specs.Choice.{within}
use Rattle.characters.specs.Utf8.{chars_at}
use Rattle.rules.specs.Text.{Text, is_ident_part}
use Rattle.rules.specs.Scan.{run}
use Rattle.rules.specs.Tables.{Ident, lookup_keyword}
use Rattle.rules.specs.Numbers.{parse_number}
use Rattle.bridge.specs.Bridge.{Cut}
use Rattle.lexemes.specs.Words.{WordAt}
use Rattle.classes.specs.Classes.{DOLLAR, LETTER, DIGIT}
use Rattle.classes.proofs.Laws.{class_there}
use Rattle.names.proofs.Names.{name_word}
use Rattle.words.specs.Words.{begins_word, Begun}
use Rattle.words.proofs.Begins.{letter_there, letter_word, digit_word, dollar_word}
use Rattle.print_words.specs.Ends.{EndsAt}

-- The class of a byte that begins a word.
class_some : (k : ℕ) (cs : Text) → begins_word k cs ≡ true → 1 ≤ k
unfolding begins_word within
class_some zero cs e = absurd (false≢true e)
class_some (suc k) cs e = omega arith

module _ (s : List ℕ) (at k : ℕ) (w : Begun s at k) where
  pub begun_there : at < length s
  begun_there = class_there s at (omega (arith, w.class_is, class_some k (chars_at s (at + 1)) w.begins))

  pub name_ends : (to : ℕ) → k ≡ LETTER → Cut s at (run is_ident_part (chars_at s at)) to → EndsAt s at to
  name_ends to e x =
      record {
        kind = lookup_keyword (slice at to s);
        size = to - at;
        extent = to - at - 1;
        word = letter_word s at k w e _ _ _ (name_word s at to _ (letter_there s at k w e).1 x refl);
        ends = omega (arith, x.forth);
      }

  pub number_ends : (to kind : ℕ) → k ≡ DIGIT → WordAt s at (parse_number (chars_at s at)) kind (to - at) (to - at) → EndsAt s at to
  number_ends to kind e x =
      record {
        kind = kind;
        size = to - at;
        extent = to - at;
        word = digit_word s at k w e _ _ _ x;
        ends = omega (arith, x.some);
      }

  pub dollar_ends : k ≡ DOLLAR → EndsAt s at (at + 1)
  dollar_ends e = record { kind = Ident; size = 1; extent = 0; word = dollar_word s at k w e; ends = refl }
