-- Literals: the first byte, which is escaped by its number right behind a `$name`, and the characters beyond ASCII, none of whose bytes
-- is escaped. Assumes nothing.
use mathlib.Core.Path.{◌≡◌, refl, sym, ◌∙◌, ap}
use mathlib.Core.Bool.{Bool, true, false, ◌&&◌}
use mathlib.Core.List.{List, [], ◌∷◌, ◌++◌, append-nil}
use Prim.Native.Nat.{ℕ, ◌-◌, ◌≤◌, ◌<◌}
use native.Mathlib.Omega.{arith}
use lib.ListN.{length, get_or, take, drop}
use Rattle.std.proofs.lemmas.Slice.{first_rest}
use Rattle.characters.specs.Utf8.{encode_char}
use Rattle.characters.proofs.Widths.{encode_one}
use Rattle.rules.specs.Text.{Char, Text, ch, LF}
use Rattle.rules.specs.Bounds.{Every}
use Rattle.rules.proofs.Ahead.{is_not}
use Rattle.output.specs.Writing.{Put}
use Rattle.output.proofs.Buffers.{put_then}
use Rattle.prints.specs.Print.{unicode, escaped, escapes, is_word, literal}
use Rattle.prints.proofs.Facts.{and_no}
use Rattle.prints.proofs.Strung.{word_small}
use Rattle.prints.proofs.Bytewise.{BytesOf, low, high, bytes_of_char}
use Rattle.print_escapes.specs.Escapes.{is_escaped}
use Rattle.print_escapes.proofs.Bare.{put_same, escapes_one, bare_one}

-- ── The first byte ──

literal_word_lem : (nm : Bool) (c : Char) (t : Text) → (nm && is_word c) ≡ true → literal nm (c ∷ t) ≡ unicode c ++ escapes (ch "\"") t
unfolding literal
literal_word_lem nm c t e = rw e

literal_plain : (nm : Bool) (c : Char) (t : Text) → (nm && is_word c) ≡ false → literal nm (c ∷ t) ≡ escapes (ch "\"") (c ∷ t)
unfolding literal escapes
literal_plain nm c t e = rw e

-- The code's test of the byte.
tested : (nm x y b : Bool) → x ≡ y → (nm && x) ≡ b → (nm && y) ≡ b
tested nm x y b e f = rw e at f

-- A text, written from its first byte on.
module _ (s : List ℕ) (nm x : Bool) (h : 0 < length s) (e : x ≡ is_word (get_or s 0 0)) where
  first : s ≡ get_or s 0 0 ∷ take (length s - 1) (drop 1 s)
  first = first_rest s 0 h

  pub word_put : (a b c : List ℕ) (at m r : ℕ) → (nm && x) ≡ true → Put a b at (unicode (get_or s 0 0)) m
      → Put b c m (escapes (ch "\"") (take (length s - 1) (drop 1 s))) r → Put a c at (literal nm s) r
  word_put a b c at m r f p q =
      let t = take (length s - 1) (drop 1 s) in
      put_same a c at r (literal nm s) (unicode (get_or s 0 0) ++ escapes (ch "\"") t)
      (ap (literal nm) first ∙ literal_word_lem nm (get_or s 0 0) t (tested nm x (is_word (get_or s 0 0)) true e f))
      (put_then a b c at m r (unicode (get_or s 0 0)) (escapes (ch "\"") t) p q)

  pub plain_put : (a b : List ℕ) (at r : ℕ) → (nm && x) ≡ false → Put a b at (escapes (ch "\"") s) r → Put a b at (literal nm s) r
  plain_put a b at r f p =
      let t = take (length s - 1) (drop 1 s) in
      put_same a b at r (literal nm s) (escapes (ch "\"") s)
      (ap (literal nm) first
      ∙ (literal_plain nm (get_or s 0 0) t (tested nm x (is_word (get_or s 0 0)) false e f) ∙ ap (escapes (ch "\"")) (sym first)))
      p

-- ── A character ──

-- Bytes beyond ASCII are neither escaped nor letters.
high_bare : (c : Char) → 0x80 ≤ c → is_escaped (ch "\"") c ≡ false
unfolding is_escaped
high_bare c h =
    rw (is_not c (ch "\\") (λ e. omega arith), is_not c (ch "\"") (λ e. omega arith), is_not c LF (λ e. omega arith), is_not c (ch "$") (λ e. omega arith))

high_escapes : (t : Text) → Every (λ (c : ℕ). 0x80 ≤ c) t → escapes (ch "\"") t ≡ t
unfolding escapes
high_escapes [] h = refl
high_escapes (c ∷ t) h = rw (bare_one (ch "\"") c (high_bare c h.0), high_escapes t h.1)

high_word : (nm : Bool) (c : Char) → 0x80 ≤ c → (nm && is_word c) ≡ false
high_word nm c h = go (is_word c) refl
  where
    go : (b : Bool) → is_word c ≡ b → (nm && b) ≡ false
    go true e = let l = word_small c e in absurd (omega arith)
    go false e = and_no nm

-- So such a character is written as it stands.
high_letter : (nm : Bool) (c : Char) → 0x80 ≤ c → literal nm (encode_char c) ≡ encode_char c
high_letter nm c h = go (bytes_of_char c)
  where
    go : BytesOf c → literal nm (encode_char c) ≡ encode_char c
    go (low l e) = absurd (omega arith)
    go (high l b bs e g gs) =
        ap (literal nm) e ∙ (literal_plain nm b bs (high_word nm b g) ∙ (high_escapes (b ∷ bs) (g, gs) ∙ sym e))

module _ (nm : Bool) (c : Char) (a b : List ℕ) (at r : ℕ) where
  pub high_put : 0x80 ≤ c → Put a b at (encode_char c) r → Put a b at (literal nm (encode_char c)) r
  high_put h p = put_same a b at r (literal nm (encode_char c)) (encode_char c) (high_letter nm c h) p

  pub letter_put : (x : Bool) → c < 0x80 → x ≡ is_word c → (nm && x) ≡ true → Put a b at (unicode c) r
      → Put a b at (literal nm (encode_char c)) r
  unfolding escapes
  letter_put x h e f p =
      put_same a b at r (literal nm (encode_char c)) (unicode c)
      (ap (literal nm) (encode_one c (omega arith)) ∙ (literal_word_lem nm c [] (tested nm x (is_word c) true e f) ∙ append-nil (unicode c)))
      p

  pub sign_put : (x : Bool) → c < 0x80 → x ≡ is_word c → (nm && x) ≡ false → Put a b at (escaped (ch "\"") c) r
      → Put a b at (literal nm (encode_char c)) r
  sign_put x h e f p =
      put_same a b at r (literal nm (encode_char c)) (escaped (ch "\"") c)
      (ap (literal nm) (encode_one c (omega arith))
      ∙ (literal_plain nm c [] (tested nm x (is_word c) false e f) ∙ escapes_one (ch "\"") c))
      p
