-- Laws of the octets of one character. Assumes nothing.
use mathlib.Core.Path.{◌≡◌}
use mathlib.Core.Bool.{Bool, true}
use Prim.Native.Nat.{ℕ, suc, ◌+◌, ◌≤◌, ◌<◌}
use mathlib.Core.List.{List}
use lib.ListN.{length, get_or, drop_of_length-le}
use lib.Seq.{drop-cons, get_or-drop}
use lib.Dec.{eqb}
use borrow.Author.Tests.{le-leb, lt-leb}
use native.Mathlib.Omega.{arith}
use Rattle.characters.specs.Choice.{within}
use Rattle.characters.specs.Utf8.{is_tail, second_ok, two_of, three_of, four_of, sequence, first_of, decode_at}
use Rattle.characters.specs.declared.Decoded.TheVariants.{Code, Bad, End}
use Rattle.characters.proofs.Choice.{if_all, within_yes, within_below, within_above, within_bounds}

pub tail_yes : (b : ℕ) → 0x80 ≤ b → b ≤ 0xBF → is_tail b ≡ true
unfolding is_tail
tail_yes b g h = within_yes 0x80 0xBF b g h

pub tail_bounds : (b : ℕ) → is_tail b ≡ true → (0x80 ≤ b) × (b ≤ 0xBF)
unfolding is_tail
tail_bounds b e = within_bounds 0x80 0xBF b e

-- A bound on the second octet, whatever the first.
abbrev Second : ℕ → Bool → Type 0
Second b t = t ≡ true → (0x80 ≤ b) × (b ≤ 0xBF)

part : (lo hi b : ℕ) → 0x80 ≤ lo → hi ≤ 0xBF → Second b (within lo hi b)
part lo hi b l h e = let p = within_bounds lo hi b e in (omega arith, omega arith)

pub second_bounds : (a b : ℕ) → second_ok a b ≡ true → (0x80 ≤ b) × (b ≤ 0xBF)
unfolding second_ok
second_bounds a b =
    if_all (Second b) (eqb a 0xE0) (λ _. part 0xA0 0xBF b (omega arith) (omega arith)) (λ _.
    if_all (Second b) (eqb a 0xED) (λ _. part 0x80 0x9F b (omega arith) (omega arith)) (λ _.
    if_all (Second b) (eqb a 0xF0) (λ _. part 0x90 0xBF b (omega arith) (omega arith)) (λ _.
    if_all (Second b) (eqb a 0xF4) (λ _. part 0x80 0x8F b (omega arith) (omega arith)) (λ _. tail_bounds b))))

-- The case of each first octet.
module _ (a b c d : ℕ) where
  pub seq_one : a ≤ 0x7F → sequence a b c d ≡ Code a 1
  unfolding sequence
  seq_one h = simp (le-leb a 0x7F h)

  pub seq_low : 0x7F < a → a < 0xC2 → sequence a b c d ≡ Bad
  unfolding sequence
  seq_low h k =
      simp (lt-leb a 0x7F h, within_below 0xC2 0xDF a k, within_below 0xE0 0xEF a (omega arith), within_below 0xF0 0xF4 a (omega arith))

  pub seq_two : 0xC2 ≤ a → a ≤ 0xDF → sequence a b c d ≡ two_of a b
  unfolding sequence
  seq_two h k = simp (lt-leb a 0x7F (omega arith), within_yes 0xC2 0xDF a h k)

  pub seq_three : 0xE0 ≤ a → a ≤ 0xEF → sequence a b c d ≡ three_of a b c
  unfolding sequence
  seq_three h k = simp (lt-leb a 0x7F (omega arith), within_above 0xC2 0xDF a (omega arith), within_yes 0xE0 0xEF a h k)

  pub seq_four : 0xF0 ≤ a → a ≤ 0xF4 → sequence a b c d ≡ four_of a b c d
  unfolding sequence
  seq_four h k =
      simp (lt-leb a 0x7F (omega arith), within_above 0xC2 0xDF a (omega arith), within_above 0xE0 0xEF a (omega arith), within_yes 0xF0 0xF4 a h k)

  pub seq_high : 0xF4 < a → sequence a b c d ≡ Bad
  unfolding sequence
  seq_high h =
      simp (lt-leb a 0x7F (omega arith), within_above 0xC2 0xDF a (omega arith), within_above 0xE0 0xEF a (omega arith), within_above 0xF0 0xF4 a h)

-- Decoding at a place, by the octets there.
pub decode_end : (s : List ℕ) (at : ℕ) → length s ≤ at → decode_at s at ≡ End
unfolding decode_at first_of
decode_end s at h = rw (drop_of_length-le s h)

pub decode_seq : (s : List ℕ) (at : ℕ) → at < length s
    → decode_at s at ≡ sequence (get_or s at 0) (get_or s (at + 1) 0) (get_or s (at + 2) 0) (get_or s (at + 3) 0)
unfolding decode_at first_of
decode_seq s at h =
    let e : suc at + 0 ≡ at + 1 = omega arith in
    let f : suc at + 1 ≡ at + 2 = omega arith in
    let g : suc at + 2 ≡ at + 3 = omega arith in
    rw (drop-cons s at 0 h, get_or-drop (suc at) s 0 0, get_or-drop (suc at) s 1 0, get_or-drop (suc at) s 2 0, e, f, g)
