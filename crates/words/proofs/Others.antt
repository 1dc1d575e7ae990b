-- Which segment begins with a character of the class OTHER, and with one beyond ASCII. Assumes nothing.
use Rattle.std.specs.Prelude.{if◌then◌else◌}
use mathlib.Core.Path.{◌≡◌, refl, ◌∙◌, ap}
use mathlib.Core.Bool.{false}
use mathlib.Core.List.{List, ◌∷◌}
use Prim.Native.Nat.{ℕ, ◌+◌, ◌≤◌, ◌<◌}
use lib.ListN.{length, get_or}
use native.Mathlib.Omega.{arith}
use borrow.Author.Tests.{ne_eqb}
use Rattle.characters.specs.Choice.{◌is◌, within}
use Rattle.characters.specs.Space.{is_white}
use Rattle.characters.specs.Utf8.{chars_at}
use Rattle.characters.proofs.Choice.{if_both, within_above}
use Rattle.characters.proofs.Characters.{chars_ascii}
use Rattle.rules.specs.Text.{Char, Text, is_digit, is_letter, is_ident_start}
use Rattle.rules.specs.Segment.{Segment}
use Rattle.rules.specs.Comments.{white_space}
use Rattle.rules.specs.Marks.{unexpected}
use Rattle.rules.specs.Lexer.{segment}
use Rattle.classes.specs.Classes.{OTHER, class_of}
use Rattle.marks.proofs.Laws.{other_mark, wide_mark}
use Rattle.words.proofs.Segments.{segment_by, lead_class, segment_class}

-- An ASCII character that begins nothing.
pub other_segment : (s : List ℕ) (at : ℕ) → at < length s → get_or s at 0 < 128 → class_of (get_or s at 0) ≡ OTHER
    → segment (chars_at s at) ≡ unexpected (get_or s at 0)
unfolding segment_by lead_class within
other_segment s at h l e =
    let b = get_or s at 0 in
    let cs = chars_at s (at + 1) in
    rw (chars_ascii s at h (omega arith))
    (segment_class b cs l ∙ (ap (λ (k : ℕ). segment_by (lead_class k) b cs) e ∙ other_mark b cs l e))

-- A character beyond ASCII is white space or begins nothing.
no_start : (c : ℕ) → 0x7F < c → is_ident_start c ≡ false
unfolding is_ident_start is_letter
no_start c h =
    rw (within_above 65 90 c (omega arith), within_above 97 122 c (omega arith), ne_eqb c 95 (λ e. omega arith), ne_eqb c 36 (λ e. omega arith))

pub wide_segment : (c : Char) (cs : Text) → 0x7F < c → segment (c ∷ cs) ≡ (if is_white c then white_space c else unexpected c)
unfolding segment is_digit
wide_segment c cs h =
    if_both (λ (x y : Segment). x ≡ y) (is_white c) (λ _. refl) (λ _.
    let other : (b : ℕ) → b ≤ 0x7F → (c is b) ≡ false = λ b l. ne_eqb c b (λ e. omega arith) in
    let digit = within_above 48 57 c (omega arith) in
    rw (other 47 (omega arith), other 36 (omega arith), other 34 (omega arith), other 39 (omega arith), digit, no_start c h)
    (wide_mark c cs h))
