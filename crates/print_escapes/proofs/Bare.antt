-- A byte between quotes: by the tests that tell how it is written, and as what is written for it. Assumes nothing.
use mathlib.Core.Path.{◌≡◌, refl, sym, subst}
use mathlib.Core.Bool.{Bool, true, false, ◌&&◌, ◌||◌, true≢false}
use mathlib.Core.List.{List, [], ◌∷◌, append-nil}
use Prim.Native.Nat.{ℕ, ◌+◌, ◌/◌, ◌%◌}
use native.Mathlib.Omega.{arith}
use borrow.Author.Tests.{eq-eqb, ne_eqb, eqb-false}
use Rattle.std.specs.Char.{digit_char}
use Rattle.std.proofs.lemmas.Bool.Decides.{nat_tests}
use Rattle.characters.specs.Choice.{◌is◌}
use Rattle.rules.specs.Text.{Char, ch, text, LF}
use Rattle.output.specs.Writing.{Put}
use Rattle.output.proofs.Buffers.{put_then}
use Rattle.prints.specs.Print.{hex_digit, unicode, escaped, escapes}
use Rattle.print_escapes.specs.Escapes.{is_escaped}
use Rattle.print_escapes.proofs.Sizes.{unicode_length}

-- What is written, in other words.
pub put_same : (a b : List ℕ) (at r : ℕ) (vs ws : List ℕ) → vs ≡ ws → Put a b at ws r → Put a b at vs r
put_same a b at r vs ws e p = subst (λ (l : List ℕ). Put a b at l r) (sym e) p

pub escapes_one : (q c : Char) → escapes q (c ∷ []) ≡ escaped q c
unfolding escapes
escapes_one q c = append-nil (escaped q c)

-- ── How a byte is written ──

module _ (q c : Char) where
  -- The backslash and the quote itself; and a `$` of a string.
  abbrev self : Bool
  self = c is ch "\\" || c is q

  abbrev dollar : Bool
  dollar = c is ch "$" && q is ch "\""

  escaped_self : self ≡ true → escaped q c ≡ ch "\\" ∷ c ∷ []
  unfolding escaped
  escaped_self e = rw e

  escaped_feed : self ≡ false → c ≡ LF → escaped q c ≡ text "\\n"
  unfolding escaped
  escaped_feed e f = rw (e, eq-eqb c LF f)

  escaped_dollar : self ≡ false → (c ≡ LF → ⊥) → dollar ≡ true → escaped q c ≡ text "\\u0024"
  unfolding escaped
  escaped_dollar e f g = rw (e, ne_eqb c LF f, g)

  escaped_none : self ≡ false → (c ≡ LF → ⊥) → dollar ≡ false → escaped q c ≡ c ∷ []
  unfolding escaped
  escaped_none e f g = rw (e, ne_eqb c LF f, g)

  pub bare_one : is_escaped q c ≡ false → escaped q c ≡ c ∷ []
  unfolding is_escaped
  bare_one = go self (c is LF) dollar refl refl refl
    where
      go : (a b d : Bool) → self ≡ a → (c is LF) ≡ b → dollar ≡ d → (a || b || d) ≡ false → escaped q c ≡ c ∷ []
      go true b d e f g h = absurd (true≢false h)
      go false true d e f g h = absurd (true≢false h)
      go false false true e f g h = absurd (true≢false h)
      go false false false e f g h = escaped_none e (eqb-false c LF f) g

  -- ── The byte, written ──

  pub self_put : (a b d : List ℕ) (at m r : ℕ) → self ≡ true → Put a b at (ch "\\" ∷ []) m → Put b d m (c ∷ []) r → Put a d at (escaped q c) r
  self_put a b d at m r e x y = put_same a d at r (escaped q c) (ch "\\" ∷ c ∷ []) (escaped_self e) (put_then a b d at m r (ch "\\" ∷ []) (c ∷ []) x y)

  pub feed_put : (a b : List ℕ) (at r : ℕ) → self ≡ false → c ≡ LF → Put a b at (text "\\n") r → Put a b at (escaped q c) r
  feed_put a b at r e f x = put_same a b at r (escaped q c) (text "\\n") (escaped_feed e f) x

  pub dollar_put : (a b : List ℕ) (at r : ℕ) → self ≡ false → (c ≡ LF → ⊥) → dollar ≡ true → Put a b at (text "\\u0024") r
      → Put a b at (escaped q c) r
  dollar_put a b at r e f g x = put_same a b at r (escaped q c) (text "\\u0024") (escaped_dollar e f g) x

  pub bare_put : (a b : List ℕ) (at r : ℕ) → self ≡ false → (c ≡ LF → ⊥) → dollar ≡ false → Put a b at (c ∷ []) r → Put a b at (escaped q c) r
  bare_put a b at r e f g x = put_same a b at r (escaped q c) (c ∷ []) (escaped_none e f g) x

-- The library's digits are those of the print.
pub digit_printed : (d : ℕ) → digit_char d ≡ hex_digit d
unfolding hex_digit
digit_printed d = grind (arith, nat_tests)

pub unicode_put : (c x y : ℕ) (a b d e : List ℕ) (at m n r : ℕ) → x ≡ hex_digit (c / 16) → y ≡ hex_digit (c % 16)
    → Put a b at (text "\\u00") m → Put b d m (x ∷ []) n → Put d e n (y ∷ []) r → Put a e at (unicode c) r
unfolding unicode
unicode_put c x y a b d e at m n r h l p q s =
    rw (← h, ← l) (put_then a b e at m r (text "\\u00") (x ∷ y ∷ []) p (put_then b d e m n r (x ∷ []) (y ∷ []) q s))

pub unicode_place : (a b : List ℕ) (at r c : ℕ) → Put a b at (unicode c) r → r ≡ at + 6
unicode_place a b at r c p = omega (arith, p.place, unicode_length c)
