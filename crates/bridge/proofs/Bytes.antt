-- What stands at a byte place, by the byte there. Past the end the byte is 0, which no test of `Low 1` passes. Assumes nothing.
use mathlib.Core.Path.{◌≡◌, refl, sym, ◌∙◌}
use mathlib.Core.Bool.{Bool, true, false, ◌&&◌, false≢true}
use mathlib.Core.List.{List, [], ◌∷◌, ◌++◌}
use Prim.Native.Nat.{ℕ, ◌+◌, ◌≤◌, ◌<◌}
use lib.ListN.{length, get_or, get_or-eq_default}
use native.Mathlib.Omega.{arith}
use borrow.Author.Tests.{eq-eqb}
use Rattle.characters.specs.Choice.{◌is◌}
use Rattle.characters.specs.Utf8.{decode_at, chars_at}
use Rattle.characters.specs.declared.Decoded.{Decoded}
use Rattle.characters.specs.declared.Decoded.TheVariants.{Code, Bad, End}
use Rattle.characters.proofs.Choice.{and_both}
use Rattle.characters.proofs.Decoding.{octet_there, placed_code}
use Rattle.characters.proofs.Characters.{chars_code, chars_bad, chars_end, chars_ascii}
use Rattle.rules.specs.Text.{Char, Text}
use Rattle.rules.specs.Scan.{next, starts_with}
use Rattle.bridge.specs.Bridge.{Low, exactly}

module _ (f : Char → Bool) (low : Low 1 f) (s : List ℕ) (at : ℕ) where
  -- A byte that passes is a character, and is there.
  pub byte_cons : f (get_or s at 0) ≡ true → (at < length s) × (chars_at s at ≡ get_or s at 0 ∷ chars_at s (at + 1))
  byte_cons t =
      let q = low (get_or s at 0) t in
      let h = octet_there s at q.0 in
      (h, chars_ascii s at h q.1)

  -- The character that stands at a place passes exactly where the byte does.
  no_code : (c n : ℕ) (b : Bool) → f c ≡ b → decode_at s at ≡ Code c n → f (get_or s at 0) ≡ false → b ≡ false
  no_code c n false g e t = refl
  no_code c n true g e t =
      let a = (placed_code s at c n e).low (low c g).1 in
      absurd (false≢true (sym t ∙ (rw (← a) g)))

  no_of : (r : Decoded) → decode_at s at ≡ r → f (get_or s at 0) ≡ false → next f (chars_at s at) ≡ false
  unfolding next
  no_of (Code c n) e t = rw (chars_code s at c n e) (no_code c n (f c) refl e t)
  no_of Bad e t = rw (chars_bad s at e)
  no_of End e t = rw (chars_end s at e)

  next_by : (b : Bool) → f (get_or s at 0) ≡ b → next f (chars_at s at) ≡ b
  unfolding next
  next_by true t = rw (byte_cons t).1 t
  next_by false t = no_of (decode_at s at) refl t

  pub byte_next : next f (chars_at s at) ≡ f (get_or s at 0)
  byte_next = next_by (f (get_or s at 0)) refl

  -- The byte passes as the character does.
  pub next_test : (b : Bool) → next f (chars_at s at) ≡ b → f (get_or s at 0) ≡ b
  next_test b e = sym byte_next ∙ e

  -- A character that passes, and what follows.
  pub next_cons : next f (chars_at s at) ≡ true
      → (at < length s) × (chars_at s at ≡ get_or s at 0 ∷ chars_at s (at + 1)) × (f (get_or s at 0) ≡ true)
  next_cons e =
      let t = next_test true e in
      let b = byte_cons t in
      (b.0, b.1, t)

  -- Nothing passes past the end.
  pub past_end : length s ≤ at → f (get_or s at 0) ≡ false
  past_end l = go (f (get_or s at 0)) refl
    where
      go : (b : Bool) → f (get_or s at 0) ≡ b → b ≡ false
      go false e = refl
      go true e =
          let z : get_or s at 0 ≡ 0 = get_or-eq_default s 0 l in
          let q = low (get_or s at 0) e in absurd (omega arith)

  pub end_next : length s ≤ at → next f (chars_at s at) ≡ false
  end_next l = byte_next ∙ past_end l

-- ── What a text starts with ──

pub starts_one : (x : ℕ) (cs : Text) → starts_with (x ∷ []) cs ≡ next (exactly x) cs
unfolding starts_with next
starts_one x [] = refl
starts_one x (c ∷ cs) = go (c is x)
  where
    go : (b : Bool) → (b && true) ≡ b
    go true = refl
    go false = refl

pub starts_first : (x : ℕ) (t cs : Text) → starts_with (x ∷ t) cs ≡ true → next (exactly x) cs ≡ true
unfolding starts_with next
starts_first x t [] e = e
starts_first x t (c ∷ cs) e = (and_both (c is x) (starts_with t cs) e).0

pub starts_rest : (x c : ℕ) (t cs : Text) → starts_with (x ∷ t) (c ∷ cs) ≡ true → starts_with t cs ≡ true
unfolding starts_with
starts_rest x c t cs e = (and_both (c is x) (starts_with t cs) e).1

pub starts_self : (t cs : Text) → starts_with t (t ++ cs) ≡ true
unfolding starts_with
starts_self [] cs = refl
starts_self (c ∷ t) cs = rw (eq-eqb c c refl) (starts_self t cs)

starts_none : (x : ℕ) (t cs : Text) → next (exactly x) cs ≡ false → starts_with (x ∷ t) cs ≡ false
unfolding starts_with next
starts_none x t [] e = refl
starts_none x t (c ∷ cs) e = rw e

-- A text that starts with `x` and `t`, by bytes: `x` stands here, and `t` behind it.
pub starts_at : (s : List ℕ) (at x : ℕ) (t : Text) → Low 1 (exactly x)
    → starts_with (x ∷ t) (chars_at s at) ≡ (next (exactly x) (chars_at s at) && starts_with t (chars_at s (at + 1)))
unfolding starts_with next
starts_at s at x t low = go (next (exactly x) (chars_at s at)) refl
  where
    go : (b : Bool) → next (exactly x) (chars_at s at) ≡ b → starts_with (x ∷ t) (chars_at s at) ≡ (b && starts_with t (chars_at s (at + 1)))
    go true e = let b = next_cons (exactly x) low s at e in rw (b.1, b.2)
    go false e = starts_none x t (chars_at s at) e
