-- How long the bytes between quotes get, and a literal part by part. Assumes nothing.
use Rattle.std.specs.Prelude.{if◌then◌else◌}
use mathlib.Core.Path.{◌≡◌, refl, sym, ◌∙◌, ap}
use mathlib.Core.Bool.{Bool, false, ◌&&◌, ◌||◌, and-true, and-false}
use mathlib.Core.List.{[], ◌∷◌, ◌++◌}
use Prim.Native.Nat.{◌*◌, ◌≤◌, zero-le}
use native.Mathlib.Omega.{arith}
use lib.ListN.{length, length-append}
use Rattle.characters.specs.Choice.{◌is◌}
use Rattle.characters.proofs.Choice.{if_all}
use Rattle.rules.specs.Text.{Char, Text, ch, LF, is_empty}
use Rattle.prints.specs.Print.{unicode, escaped, escapes, is_word, literal}
use Rattle.prints.proofs.Stepwise.{literal_append}

-- ── Lengths ──

pub unicode_length : (c : Char) → length (unicode c) ≡ 6
unfolding unicode
unicode_length c = refl

abbrev Six : Text → Type 0
Six t = length t ≤ 6

pub escaped_length : (q c : Char) → length (escaped q c) ≤ 6
unfolding escaped
escaped_length q c =
    if_all Six (c is ch "\\" || c is q) (λ _. omega arith)
    (λ _. if_all Six (c is LF) (λ _. omega arith) (λ _. if_all Six (c is ch "$" && q is ch "\"") (λ _. omega arith) (λ _. omega arith)))

pub escapes_length : (q : Char) (t : Text) → length (escapes q t) ≤ 6 * length t
unfolding escapes
escapes_length q [] = zero-le
escapes_length q (c ∷ t) = omega (arith, length-append (escaped q c) (escapes q t), escaped_length q c, escapes_length q t)

pub literal_length : (nm : Bool) (t : Text) → length (literal nm t) ≤ 6 * length t
unfolding literal
literal_length nm [] = zero-le
literal_length nm (c ∷ t) =
    omega (arith, length-append (if nm && is_word c then unicode c else escaped (ch "\"") c) (escapes (ch "\"") t), first, escapes_length (ch "\"") t)
  where
    first : length (if nm && is_word c then unicode c else escaped (ch "\"") c) ≤ 6
    first = if_all Six (nm && is_word c) (λ _. omega (arith, unicode_length c)) (λ _. escaped_length (ch "\"") c)

-- ── Parts ──

pub literal_false : (t : Text) → literal false t ≡ escapes (ch "\"") t
unfolding literal escapes
literal_false [] = refl
literal_false (c ∷ t) = refl

-- A literal is written part by part; only the first that holds something stands right behind a `$name`.
pub literal_part : (nm : Bool) (a b : Text) → literal nm (a ++ b) ≡ literal nm a ++ literal (nm && is_empty a) b
unfolding is_empty
literal_part nm [] b = ap (λ (x : Bool). literal x b) (sym (and-true nm)) ∙ (unfold literal in refl)
literal_part nm (c ∷ a) b =
    literal_append nm (c ∷ a) b refl
    ∙ ap (λ (l : Text). literal nm (c ∷ a) ++ l) (sym (ap (λ (x : Bool). literal x b) (and-false nm) ∙ literal_false b))
