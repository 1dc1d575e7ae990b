-- What a decoded character is like, and that an encoded character is decoded. Assumes nothing.
use mathlib.Core.Path.{◌≡◌, refl, sym, ◌∙◌, ap, subst}
use mathlib.Core.Bool.{Bool, true, ◌&&◌}
use mathlib.Core.Logic.{◌⊎◌, inl, inr, ⊎_elim}
use mathlib.Core.List.{List, [], ◌∷◌, ◌++◌}
use Prim.Native.Nat.{ℕ, zero, suc, suc-le-suc, ◌+◌, ◌-◌, ◌*◌, ◌/◌, ◌%◌, ◌≤◌, ◌<◌}
use native.Mathlib.Nat.{add-zero}
use lib.Dec.{leb, eqb}
use lib.ListN.{length, get_or, take, drop, length-drop, take-append-drop}
use lib.Seq.{drop-drop, get_or-drop}
use borrow.Author.Tests.{leb-true, eqb-true, eqb-false}
use native.Mathlib.Omega.{arith}
use Rattle.characters.specs.Choice.{within}
use Rattle.characters.specs.Utf8.{is_tail, second_ok, two_of, three_of, four_of, sequence, first_of, decode_at, is_scalar, width, encode_char}
use Rattle.characters.specs.declared.Decoded.{Decoded}
use Rattle.characters.specs.declared.Decoded.TheVariants.{Code, Bad, End}
use Rattle.characters.proofs.Choice.{if_all, and_both, le_or_lt, within_bounds, within_yes}
use Rattle.characters.proofs.Sequences.{tail_yes, tail_bounds, second_bounds, seq_one, seq_two, seq_three, seq_four, decode_seq}
use Rattle.characters.proofs.Widths.{scalar_low, scalar_high, scalar_bounds, width_one, width_two, width_three, width_four, width_bounds, encode_one, encode_two, encode_three, encode_four}

-- ── The octets of a number that is put together from digits of six bits ──

high_digit : (q r : ℕ) → r < 64 → (q * 64 + r) / 64 ≡ q
high_digit q r h = omega arith

low_digit : (q r : ℕ) → r < 64 → (q * 64 + r) % 64 ≡ r
low_digit q r h = omega arith

module _ (x y z w : ℕ) (hy : y < 64) (hz : z < 64) (hw : w < 64) where
  octets_two : 2 ≤ x → x < 32 → encode_char (x * 64 + y) ≡ (0xC0 + x) ∷ (0x80 + y) ∷ []
  octets_two g h =
      encode_two (x * 64 + y) (omega arith) (omega arith) ∙ rw (high_digit x y hy, low_digit x y hy)

  octets_three : 0x20 ≤ x * 64 + y → x < 16 → encode_char ((x * 64 + y) * 64 + z) ≡ (0xE0 + x) ∷ (0x80 + y) ∷ (0x80 + z) ∷ []
  octets_three g h =
      encode_three ((x * 64 + y) * 64 + z) (omega arith) (omega arith)
      ∙ rw (high_digit (x * 64 + y) z hz, low_digit (x * 64 + y) z hz, high_digit x y hy, low_digit x y hy)

  octets_four : 0x10 ≤ x * 64 + y
      → encode_char (((x * 64 + y) * 64 + z) * 64 + w) ≡ (0xF0 + x) ∷ (0x80 + y) ∷ (0x80 + z) ∷ (0x80 + w) ∷ []
  octets_four g =
      encode_four (((x * 64 + y) * 64 + z) * 64 + w) (omega arith)
      ∙ rw (high_digit ((x * 64 + y) * 64 + z) w hw, low_digit ((x * 64 + y) * 64 + z) w hw, high_digit (x * 64 + y) z hz, low_digit (x * 64 + y) z hz, high_digit x y hy, low_digit x y hy)

-- ── What four octets that begin with a character are like ──

-- Two digits in front of a character of three octets, and of four.
abbrev Three : ℕ → Type 0
Three x = (0x20 ≤ x) × ((x < 0x360) ⊎ (0x37F < x))

abbrev Four : ℕ → Type 0
Four x = (0x10 ≤ x) × (x < 0x110)

-- The second octet keeps the character in its range: not too short after E0 and F0, no surrogate after ED, not too large after F4.
abbrev Apart : ℕ → ℕ → Bool → Type 0
Apart a b t =
    t ≡ true
    → (0xE0 ≤ a → a ≤ 0xEF → Three ((a - 0xE0) * 64 + (b - 0x80))) × (0xF0 ≤ a → a ≤ 0xF4 → Four ((a - 0xF0) * 64 + (b - 0x80)))

-- Within bounds of its own after a first octet of three, or of four.
apart_three : (n lo hi a b : ℕ) → a ≡ n → n ≤ 0xED → 0x80 ≤ lo → 0x20 ≤ (n - 0xE0) * 64 + (lo - 0x80) → (n - 0xE0) * 64 + (hi - 0x80) < 0x360
    → Apart a b (within lo hi b)
apart_three n lo hi a b e m l g h t =
    let q = within_bounds lo hi b t in
    (λ x y. (omega arith, inl (omega arith)), λ x y. absurd (omega arith))

apart_four : (n lo hi a b : ℕ) → a ≡ n → 0xF0 ≤ n → 0x80 ≤ lo → 0x10 ≤ (n - 0xF0) * 64 + (lo - 0x80) → (n - 0xF0) * 64 + (hi - 0x80) < 0x110
    → Apart a b (within lo hi b)
apart_four n lo hi a b e m l g h t =
    let q = within_bounds lo hi b t in
    (λ x y. absurd (omega arith), λ x y. (omega arith, omega arith))

second_apart : (a b : ℕ) → Apart a b (second_ok a b)
unfolding second_ok
second_apart a b =
    if_all (Apart a b) (eqb a 0xE0)
    (λ e. apart_three 0xE0 0xA0 0xBF a b (eqb-true a 0xE0 e) (omega arith) (omega arith) (omega arith) (omega arith)) (λ e₁.
    if_all (Apart a b) (eqb a 0xED)
    (λ e. apart_three 0xED 0x80 0x9F a b (eqb-true a 0xED e) (omega arith) (omega arith) (omega arith) (omega arith)) (λ e₂.
    if_all (Apart a b) (eqb a 0xF0)
    (λ e. apart_four 0xF0 0x90 0xBF a b (eqb-true a 0xF0 e) (omega arith) (omega arith) (omega arith) (omega arith)) (λ e₃.
    if_all (Apart a b) (eqb a 0xF4)
    (λ e. apart_four 0xF4 0x80 0x8F a b (eqb-true a 0xF4 e) (omega arith) (omega arith) (omega arith) (omega arith)) (λ e₄ t.
    let q = tail_bounds b t in
    let n₁ = eqb-false a 0xE0 e₁ in
    let n₂ = eqb-false a 0xED e₂ in
    let n₃ = eqb-false a 0xF0 e₃ in
    let n₄ = eqb-false a 0xF4 e₄ in
    (λ g h. (omega arith, ⊎_elim (λ l. inl (omega arith)) (λ l. inr (omega arith)) (le_or_lt a 0xED)), λ g h. (omega arith, omega arith))))))

pub record Shape (a b c d v n : ℕ) : Type 0 where
  pub width_is : n ≡ width v
  pub scalar : is_scalar v ≡ true
  pub octets : encode_char v ≡ take n (a ∷ b ∷ c ∷ d ∷ [])
  pub second : 2 ≤ n → 0x80 ≤ b
  pub third : 3 ≤ n → 0x80 ≤ c
  pub fourth : 4 ≤ n → 0x80 ≤ d

abbrev Shaped : ℕ → ℕ → ℕ → ℕ → Decoded → Type 0
Shaped a b c d (Code v n) = Shape a b c d v n
Shaped a b c d Bad = Unit
Shaped a b c d End = ⊥

-- The shape, by the digits.
shape_two : (x y c d : ℕ) → 2 ≤ x → x < 32 → y < 64 → Shape (0xC0 + x) (0x80 + y) c d (x * 64 + y) 2
shape_two x y c d g h hy =
    record {
      width_is = sym (width_two _ (omega arith) (omega arith));
      scalar = scalar_low _ (omega arith);
      octets = octets_two x y 0 0 hy (omega arith) (omega arith) g h;
      second = λ _. omega arith;
      third = λ k. absurd (omega arith);
      fourth = λ k. absurd (omega arith);
    }

shape_three : (x y z d : ℕ) → x < 16 → y < 64 → z < 64 → 0x20 ≤ x * 64 + y → (x * 64 + y < 0x360) ⊎ (0x37F < x * 64 + y)
    → Shape (0xE0 + x) (0x80 + y) (0x80 + z) d (x * 4096 + y * 64 + z) 3
shape_three x y z d hx hy hz g h =
    let v : x * 4096 + y * 64 + z ≡ (x * 64 + y) * 64 + z = omega arith in
    record {
      width_is = sym (width_three _ (omega arith) (omega arith));
      scalar = ⊎_elim (λ l. scalar_low _ (omega arith)) (λ l. scalar_high _ (omega arith) (omega arith)) h;
      octets = ap encode_char v ∙ octets_three x y z 0 hy hz (omega arith) g hx;
      second = λ _. omega arith;
      third = λ _. omega arith;
      fourth = λ k. absurd (omega arith);
    }

shape_four : (x y z w : ℕ) → y < 64 → z < 64 → w < 64 → 0x10 ≤ x * 64 + y → x * 64 + y < 0x110
    → Shape (0xF0 + x) (0x80 + y) (0x80 + z) (0x80 + w) (x * 262144 + y * 4096 + z * 64 + w) 4
shape_four x y z w hy hz hw g h =
    let v : x * 262144 + y * 4096 + z * 64 + w ≡ ((x * 64 + y) * 64 + z) * 64 + w = omega arith in
    record {
      width_is = sym (width_four _ (omega arith));
      scalar = scalar_high _ (omega arith) (omega arith);
      octets = ap encode_char v ∙ octets_four x y z w hy hz hw g;
      second = λ _. omega arith;
      third = λ _. omega arith;
      fourth = λ _. omega arith;
    }

module _ (a b c d : ℕ) where
  shaped_one : a ≤ 0x7F → Shape a b c d a 1
  shaped_one h =
      record {
        width_is = sym (width_one a h);
        scalar = scalar_low a (omega arith);
        octets = encode_one a h;
        second = λ k. absurd (omega arith);
        third = λ k. absurd (omega arith);
        fourth = λ k. absurd (omega arith);
      }

  shaped_two : 0xC2 ≤ a → a ≤ 0xDF → Shaped a b c d (two_of a b)
  unfolding two_of
  shaped_two g h =
      if_all (Shaped a b c d) (is_tail b)
      (λ t.
      let q = tail_bounds b t in
      let e : 0xC0 + (a - 0xC0) ≡ a = omega arith in
      let f : 0x80 + (b - 0x80) ≡ b = omega arith in
      rw (e, f) at (shape_two (a - 0xC0) (b - 0x80) c d (omega arith) (omega arith) (omega arith)))
      (λ _. tt)

  shaped_three : 0xE0 ≤ a → a ≤ 0xEF → Shaped a b c d (three_of a b c)
  unfolding three_of
  shaped_three g h =
      if_all (Shaped a b c d) (second_ok a b && is_tail c)
      (λ t.
      let p = and_both _ _ t in
      let x = second_bounds a b p.0 in
      let y = tail_bounds c p.1 in
      let z = (second_apart a b p.0).0 g h in
      let e : 0xE0 + (a - 0xE0) ≡ a = omega arith in
      let f : 0x80 + (b - 0x80) ≡ b = omega arith in
      let i : 0x80 + (c - 0x80) ≡ c = omega arith in
      rw (e, f, i) at (shape_three (a - 0xE0) (b - 0x80) (c - 0x80) d (omega arith) (omega arith) (omega arith) z.0 z.1))
      (λ _. tt)

  shaped_four : 0xF0 ≤ a → a ≤ 0xF4 → Shaped a b c d (four_of a b c d)
  unfolding four_of
  shaped_four g h =
      if_all (Shaped a b c d) (second_ok a b && is_tail c && is_tail d)
      (λ t.
      let o = and_both _ _ t in
      let p = and_both _ _ o.0 in
      let x = second_bounds a b p.0 in
      let y = tail_bounds c p.1 in
      let w = tail_bounds d o.1 in
      let z = (second_apart a b p.0).1 g h in
      let e : 0xF0 + (a - 0xF0) ≡ a = omega arith in
      let f : 0x80 + (b - 0x80) ≡ b = omega arith in
      let i : 0x80 + (c - 0x80) ≡ c = omega arith in
      let j : 0x80 + (d - 0x80) ≡ d = omega arith in
      rw (e, f, i, j)
      at (shape_four (a - 0xF0) (b - 0x80) (c - 0x80) (d - 0x80) (omega arith) (omega arith) (omega arith) z.0 z.1))
      (λ _. tt)

  shaped : Shaped a b c d (sequence a b c d)
  unfolding sequence
  shaped =
      if_all (Shaped a b c d) (leb a 0x7F) (λ e. shaped_one (leb-true a 0x7F e)) (λ _.
      if_all (Shaped a b c d) (within 0xC2 0xDF a) (λ e. let p = within_bounds _ _ _ e in shaped_two p.0 p.1) (λ _.
      if_all (Shaped a b c d) (within 0xE0 0xEF a) (λ e. let p = within_bounds _ _ _ e in shaped_three p.0 p.1) (λ _.
      if_all (Shaped a b c d) (within 0xF0 0xF4 a) (λ e. let p = within_bounds _ _ _ e in shaped_four p.0 p.1) (λ _. tt))))

-- ── What the first character of a text is like ──

-- An octet that is not 0 is there.
pub octet_there : (s : List ℕ) (i : ℕ) → 1 ≤ get_or s i 0 → i < length s
octet_there [] i h = omega arith
octet_there (x ∷ s) zero h = omega arith
octet_there (x ∷ s) (suc i) h = suc-le-suc (octet_there s i h)

-- Up to four octets from the front.
front_three : (n : ℕ) (t : List ℕ) → n ≤ length t → n ≤ 3 → take n t ≡ take n (get_or t 0 0 ∷ get_or t 1 0 ∷ get_or t 2 0 ∷ [])
front_three zero t h k = refl
front_three (suc n) [] h k = absurd (omega arith)
front_three (suc zero) (x ∷ t) h k = refl
front_three (suc (suc n)) (x ∷ []) h k = absurd (omega arith)
front_three (suc (suc zero)) (x ∷ y ∷ t) h k = refl
front_three (suc (suc (suc n))) (x ∷ y ∷ []) h k = absurd (omega arith)
front_three (suc (suc (suc zero))) (x ∷ y ∷ z ∷ t) h k = refl
front_three (suc (suc (suc (suc n)))) (x ∷ y ∷ z ∷ t) h k = absurd (omega arith)

pub record First (s : List ℕ) (v n : ℕ) : Type 0 where
  pub width_is : n ≡ width v
  pub scalar : is_scalar v ≡ true
  pub least : 1 ≤ n
  pub inside : n ≤ length s
  pub octets : s ≡ encode_char v ++ drop n s
  pub low : v ≤ 0x7F → v ≡ get_or s 0 0

reach : (t : List ℕ) (m : ℕ) → m ≤ 3 → (1 ≤ m → 0x80 ≤ get_or t 0 0) → (2 ≤ m → 0x80 ≤ get_or t 1 0) → (3 ≤ m → 0x80 ≤ get_or t 2 0) → m ≤ length t
reach t zero u f g k = omega arith
reach t (suc zero) u f g k = let x = f (omega arith) in octet_there t 0 (omega arith)
reach t (suc (suc zero)) u f g k = let x = g (omega arith) in octet_there t 1 (omega arith)
reach t (suc (suc (suc zero))) u f g k = let x = k (omega arith) in octet_there t 2 (omega arith)
reach t (suc (suc (suc (suc m)))) u f g k = absurd (omega arith)

first_low : (a v n : ℕ) (l : List ℕ) → n ≡ width v → encode_char v ≡ take n (a ∷ l) → v ≤ 0x7F → v ≡ a
first_low a v n l e f h =
    let m : n ≡ 1 = e ∙ width_one v h in
    let g : ◌≡◌ {A = List ℕ} (v ∷ []) (a ∷ []) = sym (encode_one v h) ∙ f ∙ rw m in
    cc

first_by : (a v n : ℕ) (t : List ℕ) → 1 ≤ n → n ≤ 4 → Shape a (get_or t 0 0) (get_or t 1 0) (get_or t 2 0) v n → First (a ∷ t) v n
first_by a v zero t l u q = absurd (omega arith)
first_by a v (suc m) t l u q =
    let r = reach t m (omega arith) (λ k. q.second (omega arith)) (λ k. q.third (omega arith)) (λ k. q.fourth (omega arith)) in
    record {
      width_is = q.width_is;
      scalar = q.scalar;
      least = l;
      inside = suc-le-suc r;
      octets =
          sym (take-append-drop (suc m) (a ∷ t))
          ∙ ap (λ (x : List ℕ). x ++ drop m t) (ap (λ (x : List ℕ). a ∷ x) (front_three m t r (omega arith)) ∙ sym q.octets);
      low = first_low a v (suc m) _ q.width_is q.octets;
    }

-- The first character: what it is, and that the text begins with its octets.
pub first_code : (s : List ℕ) (v n : ℕ) → first_of s ≡ Code v n → First s v n
unfolding first_of
first_code [] v n e = let z : ◌≡◌ {A = ℕ} 0 1 = cc in absurd (omega arith)
first_code (a ∷ t) v n e =
    let q = subst (Shaped a (get_or t 0 0) (get_or t 1 0) (get_or t 2 0)) e (shaped a (get_or t 0 0) (get_or t 1 0) (get_or t 2 0)) in
    let w = width_bounds v in
    let x = q.width_is in
    first_by a v n t (omega arith) (omega arith) q

-- There is none exactly at the end.
pub first_end : (s : List ℕ) → first_of s ≡ End → s ≡ []
unfolding first_of
first_end [] e = refl
first_end (a ∷ t) e =
    absurd (subst (Shaped a (get_or t 0 0) (get_or t 1 0) (get_or t 2 0)) e (shaped a (get_or t 0 0) (get_or t 1 0) (get_or t 2 0)))

-- ── What the character at a place is like ──

pub record Placed (s : List ℕ) (at v n : ℕ) : Type 0 where
  pub width_is : n ≡ width v
  pub scalar : is_scalar v ≡ true
  pub least : 1 ≤ n
  pub small : v ≤ 0x10FFFF
  pub inside : at + n ≤ length s
  pub octets : drop at s ≡ encode_char v ++ drop (at + n) s
  pub low : v ≤ 0x7F → v ≡ get_or s at 0

pub placed_code : (s : List ℕ) (at v n : ℕ) → decode_at s at ≡ Code v n → Placed s at v n
unfolding decode_at
placed_code s at v n e =
    let f = first_code (drop at s) v n e in
    let l = f.least in
    let i = f.inside in
    record {
      width_is = f.width_is;
      scalar = f.scalar;
      least = l;
      small = (scalar_bounds v f.scalar).0;
      inside = omega (arith, length-drop at s);
      octets = f.octets ∙ rw (drop-drop n at s);
      low = λ h. f.low h ∙ (get_or-drop at s 0 0 ∙ rw (add-zero at));
    }

-- An octet below 80 is a character.
pub decode_ascii : (s : List ℕ) (at : ℕ) → at < length s → get_or s at 0 ≤ 0x7F → decode_at s at ≡ Code (get_or s at 0) 1
decode_ascii s at h l = decode_seq s at h ∙ seq_one (get_or s at 0) _ _ _ l

-- ── An encoded character is decoded ──

second_yes : (a b : ℕ) → 0x80 ≤ b → b ≤ 0xBF → (a ≡ 0xE0 → 0xA0 ≤ b) → (a ≡ 0xED → b ≤ 0x9F) → (a ≡ 0xF0 → 0x90 ≤ b) → (a ≡ 0xF4 → b ≤ 0x8F)
    → second_ok a b ≡ true
unfolding second_ok
second_yes a b l u p q r s =
    if_all (λ (t : Bool). t ≡ true) (eqb a 0xE0) (λ e. within_yes 0xA0 0xBF b (p (eqb-true a 0xE0 e)) u) (λ _.
    if_all (λ (t : Bool). t ≡ true) (eqb a 0xED) (λ e. within_yes 0x80 0x9F b l (q (eqb-true a 0xED e))) (λ _.
    if_all (λ (t : Bool). t ≡ true) (eqb a 0xF0) (λ e. within_yes 0x90 0xBF b (r (eqb-true a 0xF0 e)) u) (λ _.
    if_all (λ (t : Bool). t ≡ true) (eqb a 0xF4) (λ e. within_yes 0x80 0x8F b l (s (eqb-true a 0xF4 e))) (λ _. tail_yes b l u))))

module _ (c : ℕ) (t : List ℕ) where
  back_one : c ≤ 0x7F → first_of (encode_char c ++ t) ≡ Code c (width c)
  unfolding first_of
  back_one h = rw (encode_one c h, width_one c h) (seq_one c _ _ _ h)

  back_two : 0x7F < c → c ≤ 0x7FF → first_of (encode_char c ++ t) ≡ Code c (width c)
  unfolding first_of two_of
  back_two g h =
      let v : (0xC0 + c / 64 - 0xC0) * 64 + (0x80 + c % 64 - 0x80) ≡ c = omega arith in
      let b = tail_yes (0x80 + c % 64) (omega arith) (omega arith) in
      rw (encode_two c g h, width_two c g h)
      (seq_two (0xC0 + c / 64) (0x80 + c % 64) _ _ (omega arith) (omega arith) ∙ rw (b, v))

  back_three : 0x7FF < c → c ≤ 0xFFFF → (c < 0xD800) ⊎ (0xDFFF < c) → first_of (encode_char c ++ t) ≡ Code c (width c)
  unfolding first_of three_of
  back_three g h k =
      let v : (0xE0 + c / 64 / 64 - 0xE0) * 4096 + (0x80 + c / 64 % 64 - 0x80) * 64 + (0x80 + c % 64 - 0x80) ≡ c = omega arith in
      let b =
      second_yes (0xE0 + c / 64 / 64) (0x80 + c / 64 % 64) (omega arith) (omega arith) (λ e. omega arith)
      (λ e. ⊎_elim (λ l. omega arith) (λ l. absurd (omega arith)) k) (λ e. absurd (omega arith)) (λ e. absurd (omega arith))
      in
      let d = tail_yes (0x80 + c % 64) (omega arith) (omega arith) in
      rw (encode_three c g h, width_three c g h)
      (seq_three (0xE0 + c / 64 / 64) (0x80 + c / 64 % 64) (0x80 + c % 64) _ (omega arith) (omega arith) ∙ rw (b, d, v))

  back_four : 0xFFFF < c → c ≤ 0x10FFFF → first_of (encode_char c ++ t) ≡ Code c (width c)
  unfolding first_of four_of
  back_four g h =
      let v : (0xF0 + c / 64 / 64 / 64 - 0xF0) * 262144 + (0x80 + c / 64 / 64 % 64 - 0x80) * 4096 + (0x80 + c / 64 % 64 - 0x80) * 64 + (0x80 + c % 64 - 0x80) ≡ c = omega arith in
      let b =
      second_yes (0xF0 + c / 64 / 64 / 64) (0x80 + c / 64 / 64 % 64) (omega arith) (omega arith) (λ e. absurd (omega arith)) (λ e. absurd (omega arith))
      (λ e. omega arith) (λ e. omega arith)
      in
      let d = tail_yes (0x80 + c / 64 % 64) (omega arith) (omega arith) in
      let f = tail_yes (0x80 + c % 64) (omega arith) (omega arith) in
      rw (encode_four c g, width_four c g)
      (seq_four (0xF0 + c / 64 / 64 / 64) (0x80 + c / 64 / 64 % 64) (0x80 + c / 64 % 64) (0x80 + c % 64) (omega arith) (omega arith) ∙ rw (b, d, f, v))

  -- Decoding what was encoded gives it back, whatever follows.
  pub first_encoded : is_scalar c ≡ true → first_of (encode_char c ++ t) ≡ Code c (width c)
  first_encoded e =
      let p = scalar_bounds c e in
      ⊎_elim back_one (λ g₁.
      ⊎_elim (back_two g₁) (λ g₂.
      ⊎_elim (λ h. back_three g₂ h p.1) (λ g₃. back_four g₃ p.0)
      (le_or_lt c 0xFFFF)) (le_or_lt c 0x7FF)) (le_or_lt c 0x7F)
