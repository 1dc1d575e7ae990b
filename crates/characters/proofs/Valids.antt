-- Laws of the character at a place of a text that is UTF-8 from there on: its first octet tells what it is. Assumes nothing.
use Rattle.std.specs.Prelude.{if◌then◌else◌}
use mathlib.Core.Path.{◌≡◌, refl, sym, ◌∙◌, ap}
use mathlib.Core.Bool.{Bool, true, false, ◌&&◌, false≢true}
use mathlib.Core.Logic.{⊎_elim}
use mathlib.Core.List.{List}
use Prim.Native.Nat.{ℕ, ◌+◌, ◌≤◌, ◌<◌}
use lib.ListN.{length, get_or, drop, length-drop}
use native.Mathlib.Omega.{arith}
use Rattle.characters.specs.Utf8.{is_tail, second_ok, code_two, code_three, code_four, two_of, three_of, four_of, sequence, decode_at, is_valid}
use Rattle.characters.specs.Valid.{bad_from}
use Rattle.characters.specs.declared.Decoded.{Decoded}
use Rattle.characters.specs.declared.Decoded.TheVariants.{Code, Bad, End}
use Rattle.characters.proofs.Choice.{and_both, le_or_lt, within_below, within_above}
use Rattle.characters.proofs.Sequences.{decode_seq, seq_low, seq_two, seq_three, seq_four, seq_high, tail_yes, tail_bounds, second_bounds}
use Rattle.characters.proofs.Decoding.{octet_there, first_end, decode_ascii}
use Rattle.characters.proofs.Characters.{bad_here}

-- A choice that is not bad was answered with yes.
chosen : (t : Bool) (x : Decoded) → ((if t then x else Bad) ≡ Bad → ⊥) → t ≡ true
chosen true x n = refl
chosen false x n = absurd (n refl)

-- The number of octets.
unfoldable size_of : Decoded → ℕ
size_of (Code v n) = n
size_of Bad = 0
size_of End = 0

same_size : (v n w m : ℕ) → Code v n ≡ Code w m → n ≡ m
unfolding size_of
same_size v n w m e = ap size_of e

module _ (s : List ℕ) (at : ℕ) (h : at < length s) (valid : is_valid (bad_from s at) ≡ true) where
  abbrev a : ℕ
  a = get_or s at 0

  abbrev b : ℕ
  b = get_or s (at + 1) 0

  abbrev c : ℕ
  c = get_or s (at + 2) 0

  abbrev d : ℕ
  d = get_or s (at + 3) 0

  pub not_bad : decode_at s at ≡ Bad → ⊥
  unfolding is_valid
  not_bad e = false≢true (sym (ap is_valid (bad_here s at e)) ∙ valid)

  good : (r : Decoded) → sequence a b c d ≡ r → r ≡ Bad → ⊥
  good r e n = not_bad (decode_seq s at h ∙ (e ∙ n))

  -- Two octets.
  pub two_low : 0x7F < a → 0xC2 ≤ a
  two_low l =
      ⊎_elim (λ x. x) (λ x. absurd (good Bad (seq_low a b c d l (omega arith)) refl)) (le_or_lt 0xC2 a)

  two_tail : 0x7F < a → a ≤ 0xDF → is_tail b ≡ true
  unfolding two_of
  two_tail l u = chosen (is_tail b) _ (good (two_of a b) (seq_two a b c d (two_low l) u))

  pub two_is : 0x7F < a → a ≤ 0xDF → decode_at s at ≡ code_two a b
  unfolding two_of
  two_is l u = decode_seq s at h ∙ (seq_two a b c d (two_low l) u ∙ rw (two_tail l u))

  pub two_second : 0x7F < a → a ≤ 0xDF → 0x80 ≤ b
  two_second l u = (tail_bounds b (two_tail l u)).0

  pub two_inside : 0x7F < a → a ≤ 0xDF → at + 1 < length s
  two_inside l u = let q = two_second l u in octet_there s (at + 1) (omega arith)

  -- Three octets.
  three_tails : 0xDF < a → a ≤ 0xEF → (second_ok a b ≡ true) × (is_tail c ≡ true)
  unfolding three_of
  three_tails l u =
      and_both _ _ (chosen (second_ok a b && is_tail c) _ (good (three_of a b c) (seq_three a b c d (omega arith) u)))

  pub three_second : 0xDF < a → a ≤ 0xEF → 0x80 ≤ b
  three_second l u = (second_bounds a b (three_tails l u).0).0

  pub three_third : 0xDF < a → a ≤ 0xEF → 0x80 ≤ c
  three_third l u = (tail_bounds c (three_tails l u).1).0

  pub three_inside : 0xDF < a → a ≤ 0xEF → at + 2 < length s
  three_inside l u = let q = three_third l u in octet_there s (at + 2) (omega arith)

  pub three_is : 0xDF < a → a ≤ 0xEF → decode_at s at ≡ code_three a b c
  unfolding three_of
  three_is l u =
      let t = three_tails l u in
      decode_seq s at h ∙ (seq_three a b c d (omega arith) u ∙ rw (t.0, t.1))

  -- Four octets.
  pub four_high : 0xEF < a → a ≤ 0xF4
  four_high l = ⊎_elim (λ x. x) (λ x. absurd (good Bad (seq_high a b c d x) refl)) (le_or_lt a 0xF4)

  four_tails : 0xEF < a → (second_ok a b ≡ true) × (is_tail c ≡ true) × (is_tail d ≡ true)
  unfolding four_of
  four_tails l =
      let o =
      and_both _ _
      (chosen (second_ok a b && is_tail c && is_tail d) _ (good (four_of a b c d) (seq_four a b c d (omega arith) (four_high l))))
      in
      let p = and_both _ _ o.0 in
      (p.0, p.1, o.1)

  pub four_second : 0xEF < a → 0x80 ≤ b
  four_second l = (second_bounds a b (four_tails l).0).0

  pub four_third : 0xEF < a → 0x80 ≤ c
  four_third l = (tail_bounds c (four_tails l).1).0

  pub four_fourth : 0xEF < a → 0x80 ≤ d
  four_fourth l = (tail_bounds d (four_tails l).2).0

  pub four_inside : 0xEF < a → at + 3 < length s
  four_inside l = let q = four_fourth l in octet_there s (at + 3) (omega arith)

  pub four_is : 0xEF < a → decode_at s at ≡ code_four a b c d
  unfolding four_of
  four_is l =
      let t = four_tails l in
      decode_seq s at h ∙ (seq_four a b c d (omega arith) (four_high l) ∙ rw (t.0, t.1, t.2))

  -- The octets behind the first are tails, and the first is none.
  three_tail : (i : ℕ) → 1 ≤ i → i < 3 → is_tail b ≡ true → is_tail c ≡ true → is_tail (get_or s (at + i) 0) ≡ true
  three_tail i l u x y =
      ⊎_elim (λ k. let e : i ≡ 1 = omega arith in rw e x) (λ k. let e : i ≡ 2 = omega arith in rw e y) (le_or_lt i 1)

  four_tail : (i : ℕ) → 1 ≤ i → i < 4 → is_tail b ≡ true → is_tail c ≡ true → is_tail d ≡ true → is_tail (get_or s (at + i) 0) ≡ true
  four_tail i l u x y z =
      ⊎_elim (λ k. three_tail i l (omega arith) x y) (λ k. let e : i ≡ 3 = omega arith in rw e z) (le_or_lt i 2)

  second_tail : second_ok a b ≡ true → is_tail b ≡ true
  second_tail t = let q = second_bounds a b t in tail_yes b q.0 q.1

  pub tail_at : (v n i : ℕ) → decode_at s at ≡ Code v n → 1 ≤ i → i < n → is_tail (get_or s (at + i) 0) ≡ true
  tail_at v n i e l u =
      ⊎_elim
      (λ g. let m = same_size v n _ _ (sym e ∙ decode_ascii s at h g) in absurd (omega arith)) (λ g₁.
      ⊎_elim
      (λ g.
      let m = same_size v n _ _ (sym e ∙ two_is g₁ g) in
      let k : i ≡ 1 = omega arith in
      rw k (two_tail g₁ g)) (λ g₂.
      ⊎_elim
      (λ g.
      let m = same_size v n _ _ (sym e ∙ three_is g₂ g) in
      let t = three_tails g₂ g in
      three_tail i l (omega arith) (second_tail t.0) t.1) (λ g₃.
      let m = same_size v n _ _ (sym e ∙ four_is g₃) in
      let t = four_tails g₃ in
      four_tail i l (omega arith) (second_tail t.0) t.1 t.2)
      (le_or_lt a 0xEF)) (le_or_lt a 0xDF)) (le_or_lt a 0x7F)

  pub lead_none : is_tail a ≡ false
  unfolding is_tail
  lead_none =
      ⊎_elim (λ g. within_below 0x80 0xBF a (omega arith)) (λ g. let l = two_low g in within_above 0x80 0xBF a (omega arith))
      (le_or_lt a 0x7F)

  -- There is a character.
  pub not_end : decode_at s at ≡ End → ⊥
  unfolding decode_at
  not_end e = let l : length (drop at s) ≡ 0 = ap length (first_end (drop at s) e) in omega (arith, length-drop at s)
