-- How long the print of a doc comment gets. Assumes nothing.
use Rattle.std.specs.Prelude.{if◌then◌else◌}
use mathlib.Core.Path.{◌∙◌, ap}
use mathlib.Core.List.{List, [], ◌∷◌, ◌++◌}
use Prim.Native.Nat.{ℕ, ◌+◌, ◌*◌, ◌≤◌, zero-le}
use native.Mathlib.Omega.{arith}
use lib.ListN.{length, drop, length-append}
use Rattle.characters.specs.Choice.{◌is◌}
use Rattle.characters.specs.Utf8.{encode, chars_of, bytes}
use Rattle.characters.proofs.Choice.{if_all}
use Rattle.characters.proofs.Texts.{encode_length, text_front}
use Rattle.rules.specs.Text.{Text, LF, one_of}
use Rattle.rules.specs.Docs.{trim, clean_doc}
use Rattle.rules.proofs.Sizes.{trim_bytes, cleaner_bytes}
use Rattle.prints.specs.Print.{doc}
use Rattle.prints.specs.Writing.{feeds}
use Rattle.prints.proofs.Stepwise.{doc_length}

feeds_few : (t : Text) → feeds t ≤ length t
unfolding feeds
feeds_few [] = zero-le
feeds_few (c ∷ t) =
    if_all (λ (n : ℕ). n ≤ length (c ∷ t)) (c is LF) (λ _. omega (arith, feeds_few t)) (λ _. omega (arith, feeds_few t))

-- A doc comment with the line feed behind it.
pub doc_small : (t : Text) → length (doc t ++ (LF ∷ [])) ≤ 3 * length t + 10
doc_small t =
    omega (arith, length-append (doc t) (LF ∷ []), doc_length t, most)
  where
    most : (if one_of t LF then length t + 2 * feeds t + 9 else length t + 4) ≤ 3 * length t + 9
    most = if_all (λ (n : ℕ). n ≤ 3 * length t + 9) (one_of t LF) (λ _. omega (arith, feeds_few t)) (λ _. omega arith)

-- ── The text of a comment has no more bytes than the part between its marks ──

chars_small : (s : List ℕ) → bytes (chars_of s) ≤ length s
chars_small s =
    let cs = chars_of s in
    omega (arith, ap length (text_front s) ∙ length-append (encode cs) (drop (bytes cs) s), encode_length cs)

pub trimmed_small : (s : List ℕ) → length (encode (trim (chars_of s))) ≤ length s
trimmed_small s = omega (arith, encode_length (trim (chars_of s)), trim_bytes (chars_of s), chars_small s)

pub cleaned_small : (s : List ℕ) → length (encode (clean_doc (chars_of s))) ≤ length s
cleaned_small s = omega (arith, encode_length (clean_doc (chars_of s)), cleaner_bytes (chars_of s), chars_small s)
