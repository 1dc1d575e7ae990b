-- Laws of hexadecimal digits: one, and several one after another. Assumes nothing.
use Rattle.std.specs.Prelude.{if◌then◌else◌, SomeIff, Some, None, Option as Answer}
use Rattle.std.specs.Char.{digit_value}
use Rattle.std.proofs.lemmas.Bool.Decides.{nat_tests}
use mathlib.Core.Path.{◌≡◌, refl, sym, ◌∙◌, ap}
use mathlib.Core.Bool.{Bool, true, false, ◌||◌, false≢true}
use mathlib.Core.List.{List, [], ◌∷◌, ◌++◌}
use mathlib.Core.Logic.{◌⊎◌}
use mathlib.Core.Option.{none, some}
use Prim.Native.Nat.{ℕ, zero, suc, ◌+◌, ◌-◌, ◌*◌, ◌≤◌, ◌<◌}
use lib.ListN.{length, take, get_or}
use native.Mathlib.Omega.{arith}
use native.Mathlib.Nat.{add-zero}
use Rattle.characters.specs.Choice.{within}
use Rattle.characters.specs.Utf8.{chars_at}
use Rattle.characters.proofs.Choice.{or_neither, within_bounds, within_outside}
use Rattle.rules.specs.Text.{Text, is_digit, is_hex_digit, hex_value}
use Rattle.rules.specs.Scan.{next}
use Rattle.rules.specs.Strings.{hex_code}
use Rattle.bridge.specs.Bridge.{value_of, Low, Flat}
use Rattle.bridge.proofs.Tests.{low_or, low_within, low_weak}
use Rattle.bridge.proofs.Bytes.{byte_cons, byte_next, next_cons}
use Rattle.escapes.specs.Escapes.{digit_of}

-- ── One digit ──

hex_low : Low 11 is_hex_digit
unfolding is_hex_digit is_digit
hex_low =
    low_or 11 (λ c. is_digit c || within 65 70 c) (within 97 102)
    (low_or 11 is_digit (within 65 70) (low_within 11 48 57 (omega arith) (omega arith)) (low_within 11 65 70 (omega arith) (omega arith)))
    (low_within 11 97 102 (omega arith) (omega arith))

module _ (b : ℕ) where
  -- The library's `digit_value`: 16 or more of all that is no hexadecimal digit.
  value_figure : 48 ≤ b → b ≤ 57 → digit_value b ≡ b - 48
  value_figure l u = grind (arith, nat_tests)

  value_upper : 65 ≤ b → b ≤ 70 → digit_value b ≡ b - 55
  value_upper l u = grind (arith, nat_tests)

  value_lower : 97 ≤ b → b ≤ 102 → digit_value b ≡ b - 87
  value_lower l u = grind (arith, nat_tests)

  value_other : (b < 48) ⊎ (57 < b) → (b < 65) ⊎ (70 < b) → (b < 97) ⊎ (102 < b) → 16 ≤ digit_value b
  value_other x y z = grind (arith, nat_tests, x, y, z)

  digit_some : is_hex_digit b ≡ true → digit_value b ≡ hex_value b
  unfolding is_hex_digit is_digit hex_value
  digit_some h = go (within 48 57 b) (within 65 70 b) (within 97 102 b) refl refl refl h
    where
      go : (x y z : Bool) → within 48 57 b ≡ x → within 65 70 b ≡ y → within 97 102 b ≡ z → (x || y || z) ≡ true
          → digit_value b ≡ (if x then b - 48 else if y then b - 55 else b - 87)
      go true y z p q r h = let w = within_bounds 48 57 b p in value_figure w.0 w.1
      go false true z p q r h = let w = within_bounds 65 70 b q in value_upper w.0 w.1
      go false false true p q r h = let w = within_bounds 97 102 b r in value_lower w.0 w.1
      go false false false p q r h = absurd (false≢true h)

  digit_none : is_hex_digit b ≡ false → 16 ≤ digit_value b
  unfolding is_hex_digit is_digit
  digit_none h =
      let x = or_neither (within 48 57 b || within 65 70 b) (within 97 102 b) h in
      let y = or_neither (within 48 57 b) (within 65 70 b) x.0 in
      value_other (within_outside 48 57 b y.0) (within_outside 65 70 b y.1) (within_outside 97 102 b x.1)

hex_small : (c : ℕ) → is_hex_digit c ≡ true → hex_value c < 16
unfolding is_hex_digit is_digit hex_value
hex_small c h = go (within 48 57 c) (within 65 70 c) (within 97 102 c) refl refl refl h
  where
    go : (x y z : Bool) → within 48 57 c ≡ x → within 65 70 c ≡ y → within 97 102 c ≡ z → (x || y || z) ≡ true
        → (if x then c - 48 else if y then c - 55 else c - 87) < 16
    go true y z p q r h = let w = within_bounds 48 57 c p in omega arith
    go false true z p q r h = let w = within_bounds 65 70 c q in omega arith
    go false false true p q r h = let w = within_bounds 97 102 c r in omega arith
    go false false false p q r h = absurd (false≢true h)

-- The library's `to_digit` gives it.
pub digit_found : (b : ℕ) (r : Answer ℕ) → SomeIff r (digit_value b < 16) (digit_value b) → r ≡ digit_of b
unfolding digit_of
digit_found b r e = go (is_hex_digit b) refl r e
  where
    go : (t : Bool) → is_hex_digit b ≡ t → (r : Answer ℕ) → SomeIff r (digit_value b < 16) (digit_value b)
        → r ≡ (if t then Some (hex_value b) else None)
    go true h None e = let d = digit_some b h in absurd (e (rw d (hex_small b h)))
    go true h (Some v) e = let d = digit_some b h in ap Some (e.1 ∙ d)
    go false h None e = refl
    go false h (Some v) e = let d = digit_none b h in absurd (omega (arith, e.0))

digit_is : (c d : ℕ) → digit_of c ≡ Some d → (is_hex_digit c ≡ true) × (hex_value c ≡ d)
unfolding digit_of
digit_is c d e = go (is_hex_digit c) refl e
  where
    go : (b : Bool) → is_hex_digit c ≡ b → (if b then Some (hex_value c) else None) ≡ Some d → (b ≡ true) × (hex_value c ≡ d)
    go true h k = (refl, cc)
    go false h k = absurd (let z : ◌≡◌ {A = ℕ} 0 1 = cc in omega arith)

pub digit_small : (c d : ℕ) → digit_of c ≡ Some d → d < 16
digit_small c d e = let q = digit_is c d e in rw (← q.1) (hex_small c q.0)

not_digit : (c : ℕ) → digit_of c ≡ None → is_hex_digit c ≡ false
unfolding digit_of
not_digit c e = go (is_hex_digit c) refl e
  where
    go : (b : Bool) → is_hex_digit c ≡ b → (if b then Some (hex_value c) else None) ≡ None → b ≡ false
    go true h k = absurd (let z : ◌≡◌ {A = ℕ} 0 1 = cc in omega arith)
    go false h k = refl

-- ── The digits from a place on ──

-- The value of the four digits at `at` is that of `k` more digits at `i`, behind those that make `v`.
abbrev pub Along : List ℕ → ℕ → ℕ → ℕ → ℕ → Type 0
Along s at k v i = hex_code 4 0 (chars_at s at) ≡ hex_code k v (chars_at s i)

module _ (s : List ℕ) where
  pub along_more : (at k v i d w j : ℕ) → Along s at (suc k) v i → digit_of (get_or s i 0) ≡ Some d → w ≡ v * 16 + d → j ≡ i + 1 → Along s at k w j
  unfolding hex_code
  along_more at k v i d w j a e x y =
      let q = digit_is (get_or s i 0) d e in
      let b = byte_cons is_hex_digit (low_weak is_hex_digit hex_low) s i q.0 in
      a ∙ rw (b.1, q.0, q.1, x, y)

  hex_none : (cs : Text) (k v : ℕ) → next is_hex_digit cs ≡ false → hex_code (suc k) v cs ≡ none
  unfolding hex_code next
  hex_none [] k v e = refl
  hex_none (c ∷ cs) k v e = rw e

  pub along_stop : (at k v i : ℕ) → Along s at (suc k) v i → digit_of (get_or s i 0) ≡ None → None ≡ value_of (hex_code 4 0 (chars_at s at))
  along_stop at k v i a e =
      let n = byte_next is_hex_digit (low_weak is_hex_digit hex_low) s i ∙ not_digit (get_or s i 0) e in
      rw (a, hex_none (chars_at s i) k v n)

  pub along_done : (at v i : ℕ) → Along s at 0 v i → Some v ≡ value_of (hex_code 4 0 (chars_at s at))
  unfolding hex_code
  along_done at v i a = rw a

-- One digit at a place has a value, two have, three and four.
module _ (s : List ℕ) (at : ℕ) {a : ℕ} (x : digit_of (get_or s at 0) ≡ Some a) where
  pub one_digit : Along s at 3 a (at + 1)
  one_digit = along_more s at 3 0 at a a (at + 1) refl x (omega arith) refl

  module _ {b : ℕ} (y : digit_of (get_or s (at + 1) 0) ≡ Some b) where
    pub two_digits : Along s at 2 (a * 16 + b) (at + 2)
    two_digits = along_more s at 2 a (at + 1) b (a * 16 + b) (at + 2) one_digit y refl (omega arith)

    module _ {c : ℕ} (z : digit_of (get_or s (at + 2) 0) ≡ Some c) where
      pub three_digits : Along s at 1 ((a * 16 + b) * 16 + c) (at + 3)
      three_digits = along_more s at 1 (a * 16 + b) (at + 2) c ((a * 16 + b) * 16 + c) (at + 3) two_digits z refl (omega arith)

      module _ {d : ℕ} (w : digit_of (get_or s (at + 3) 0) ≡ Some d) where
        pub four_digits : Along s at 0 (((a * 16 + b) * 16 + c) * 16 + d) (at + 4)
        four_digits =
            along_more s at 0 ((a * 16 + b) * 16 + c) (at + 3) d (((a * 16 + b) * 16 + c) * 16 + d) (at + 4) three_digits w refl (omega arith)

-- ── What digits that have a value are ──

-- `k` characters of one line stand at a place.
pub record Digits (s : List ℕ) (at k : ℕ) : Type 0 where
  pub chars : chars_at s at ≡ take k (chars_at s at) ++ chars_at s (at + k)
  pub size : length (take k (chars_at s at)) ≡ k
  pub flat : Flat (take k (chars_at s at))

hex_first : (k v n : ℕ) (cs : Text) → hex_code (suc k) v cs ≡ some n → next is_hex_digit cs ≡ true
unfolding hex_code next
hex_first k v n [] e = absurd (let z : ◌≡◌ {A = ℕ} 0 1 = cc in omega arith)
hex_first k v n (c ∷ cs) e = go (is_hex_digit c) e
  where
    go : (b : Bool) → (if b then hex_code k (v * 16 + hex_value c) cs else none) ≡ some n → b ≡ true
    go true h = refl
    go false h = absurd (let z : ◌≡◌ {A = ℕ} 0 1 = cc in omega arith)

hex_rest : (k v n c : ℕ) (cs : Text) → is_hex_digit c ≡ true → hex_code (suc k) v (c ∷ cs) ≡ some n → hex_code k (v * 16 + hex_value c) cs ≡ some n
unfolding hex_code
hex_rest k v n c cs t e = rw t at e

pub digits_stand : (s : List ℕ) (k v n at : ℕ) → hex_code k v (chars_at s at) ≡ some n → Digits s at k
digits_stand s zero v n at e = record { chars = ap (chars_at s) (sym (add-zero at)); size = refl; flat = tt }
digits_stand s (suc k) v n at e =
    let t = hex_first k v n (chars_at s at) e in
    let b = next_cons is_hex_digit (low_weak is_hex_digit hex_low) s at t in
    let g = get_or s at 0 in
    let d = digits_stand s k (v * 16 + hex_value g) n (at + 1) (hex_rest k v n g (chars_at s (at + 1)) b.2 (rw b.1 at e)) in
    let w = hex_low g b.2 in
    let m : at + 1 + k ≡ at + suc k = omega arith in
    record {
      chars = rw b.1 (ap (λ (t : Text). g ∷ t) (d.chars ∙ rw m));
      size = rw b.1 (ap suc d.size);
      flat = rw b.1 (w.0, w.1, d.flat);
    }

-- ── The greatest value ──

unfoldable pub sixteens : ℕ → ℕ → ℕ
sixteens zero b = b
sixteens (suc k) b = sixteens k (b * 16)

hex_below : (k v n b : ℕ) (cs : Text) → hex_code k v cs ≡ some n → v < b → n < sixteens k b
unfolding hex_code sixteens
hex_below zero v n b cs e h = let q : v ≡ n = cc in omega arith
hex_below (suc k) v n b [] e h = absurd (let z : ◌≡◌ {A = ℕ} 0 1 = cc in omega arith)
hex_below (suc k) v n b (c ∷ cs) e h =
    go (is_hex_digit c) refl e (λ t q. hex_below k (v * 16 + hex_value c) n (b * 16) cs q (let l = hex_small c t in omega arith))
  where
    go : (x : Bool) → is_hex_digit c ≡ x → (if x then hex_code k (v * 16 + hex_value c) cs else none) ≡ some n
        → (is_hex_digit c ≡ true → hex_code k (v * 16 + hex_value c) cs ≡ some n → n < sixteens k (b * 16)) → n < sixteens k (b * 16)
    go true t q f = f t q
    go false t q f = absurd (let z : ◌≡◌ {A = ℕ} 0 1 = cc in omega arith)

pub four_below : (n : ℕ) (cs : Text) → hex_code 4 0 cs ≡ some n → n < 65536
unfolding sixteens
four_below n cs e = hex_below 4 0 n 1 cs e (omega arith)
