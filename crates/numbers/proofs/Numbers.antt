-- Laws of the parts of a number, at byte places. Assumes nothing.
use Rattle.std.specs.Prelude.{if◌then◌else◌}
use mathlib.Core.Path.{◌≡◌, refl, sym, ◌∙◌, subst}
use mathlib.Core.Bool.{Bool, true, false, false≢true}
use mathlib.Core.List.{List, [], ◌∷◌}
use Prim.Native.Nat.{ℕ, ◌+◌, ◌-◌, ◌≤◌, ◌<◌}
use lib.Dec.{ltb}
use lib.ListN.{length, get_or}
use native.Mathlib.Omega.{arith}
use borrow.Author.Tests.{lt-ltb, le-ltb, eqb-true}
use Rattle.characters.specs.Choice.{◌is◌, within}
use Rattle.characters.specs.Utf8.{chars_at}
use Rattle.rules.specs.Text.{Char, Text, text, one_of, is_empty, is_digit}
use Rattle.rules.specs.Scan.{next, run, one_char, nothing, ◌and_then◌}
use Rattle.rules.specs.Tables.{IntLiteral, FloatLiteral}
use Rattle.rules.specs.Numbers.{hex_part, binary_part, is_digit_or_underscore, whole_part, fraction, exponent, maybe_suffix, radix, zero_then, decimal_kind, decimal, parse_number}
use Rattle.bridge.specs.Bridge.{Low, exactly, Cut}
use Rattle.bridge.proofs.Tests.{low_weak, low_is, low_one_of, all_low, all_pass, one_pass}
use Rattle.bridge.proofs.Bytes.{byte_next, next_cons}
use Rattle.bridge.proofs.Cuts.{cut_nothing, cut_cons, cut_then, cut_rest, cut_length, one_more}
use Rattle.lexemes.specs.Words.{WordAt}
use Rattle.lexemes.proofs.Tests.{digit_low, run_some}
use Rattle.lexemes.proofs.Words.{word_whole}
use Rattle.numbers.specs.Numbers.{is_sign, number_kind}
use Rattle.numbers.proofs.Tests.{power_low, zero_low, radix_low}

-- ── A zero, and then a letter ──

zero_first : (letters : Text) (cs : Text) → next (exactly 48) cs ≡ false → zero_then letters cs ≡ false
unfolding zero_then next
zero_first letters [] e = refl
zero_first letters (c ∷ cs) e = rw e

module _ (s : List ℕ) (at : ℕ) (letters : Text) where
  pub zero_none : next (exactly 48) (chars_at s at) ≡ false → zero_then letters (chars_at s at) ≡ false
  zero_none e = zero_first letters (chars_at s at) e

  pub zero_next : next (exactly 48) (chars_at s at) ≡ true → zero_then letters (chars_at s at) ≡ next (one_of letters) (chars_at s (at + 1))
  unfolding zero_then
  zero_next e = let b = next_cons (exactly 48) (low_is 1 48 (omega arith) (omega arith)) s at e in rw (b.1, b.2)

  -- The two characters of a prefix.
  pub zero_cuts : Low 1 (one_of letters) → all_pass (one_of (text "xXbB")) letters ≡ true → zero_then letters (chars_at s at) ≡ true
      → Cut s at (one_char (one_of (text "0")) (chars_at s at)) (at + 1)
      × Cut s (at + 1) (one_char (one_of (text "xXbB")) (chars_at s (at + 1))) (at + 2)
  unfolding one_of
  zero_cuts low all t = go (next (exactly 48) (chars_at s at)) refl
    where
      go : (b : Bool) → next (exactly 48) (chars_at s at) ≡ b
          → Cut s at (one_char (one_of (text "0")) (chars_at s at)) (at + 1)
          × Cut s (at + 1) (one_char (one_of (text "xXbB")) (chars_at s (at + 1))) (at + 2)
      go true e =
          let z = next_cons (exactly 48) (low_is 1 48 (omega arith) (omega arith)) s at e in
          let n = next_cons (one_of letters) low s (at + 1) (sym (zero_next e) ∙ t) in
          let m : at + 1 + 1 ≡ at + 2 = omega arith in (
            one_more (one_of (text "0")) zero_low s at (rw z.2),
            subst (λ (to : ℕ). Cut s (at + 1) (one_char (one_of (text "xXbB")) (chars_at s (at + 1))) to) m
                (one_more (one_of (text "xXbB")) radix_low s (at + 1)
                (one_pass (one_of (text "xXbB")) letters (get_or s (at + 1) 0) all n.2)),
          )
      go false e = absurd (false≢true (sym (zero_none e) ∙ t))

-- ── Fraction and exponent ──

fraction_none : (cs : Text) → next (exactly 46) cs ≡ false → fraction cs ≡ nothing cs
unfolding fraction next
fraction_none [] e = refl
fraction_none (c ∷ cs) e = rw e

exponent_none : (cs : Text) → next (one_of (text "eE")) cs ≡ false → exponent cs ≡ nothing cs
unfolding exponent next
exponent_none [] e = refl
exponent_none (c ∷ cs) e = rw e

module _ (s : List ℕ) (at : ℕ) where
  pub fraction_stop : at ≤ length s → next (exactly 46) (chars_at s at) ≡ false → Cut s at (fraction (chars_at s at)) at
  fraction_stop h e = rw (fraction_none (chars_at s at) e) (cut_nothing s at h)

  module _ (e : next (exactly 46) (chars_at s at) ≡ true) where
    point : (at < length s) × (chars_at s at ≡ get_or s at 0 ∷ chars_at s (at + 1)) × (exactly 46 (get_or s at 0) ≡ true)
    point = next_cons (exactly 46) (low_is 1 46 (omega arith) (omega arith)) s at e

    pub point_there : at + 1 ≤ length s
    point_there = let p = point.0 in omega arith

    digit_next : (b : Bool) → is_digit (get_or s (at + 1) 0) ≡ b → next is_digit (chars_at s (at + 1)) ≡ b
    digit_next b d = byte_next is_digit (low_weak is_digit digit_low) s (at + 1) ∙ d

    pub fraction_point : is_digit (get_or s (at + 1) 0) ≡ false → Cut s at (fraction (chars_at s at)) at
    unfolding fraction
    fraction_point d =
        let b = point in
        let n = digit_next false d in
        let h = b.0 in
        let q : fraction (chars_at s at) ≡ nothing (chars_at s at) = rw (b.1, b.2, n) in
        rw q (cut_nothing s at (omega arith))

    pub fraction_cut : (to : ℕ) → is_digit (get_or s (at + 1) 0) ≡ true
        → Cut s (at + 1) (run is_digit_or_underscore (chars_at s (at + 1))) to → Cut s at (fraction (chars_at s at)) to
    unfolding fraction
    fraction_cut to d k =
        let b = point in
        let n = digit_next true d in
        let q = eqb-true (get_or s at 0) 46 b.2 in
        rw (b.1, b.2, n)
        (cut_cons s at (run is_digit_or_underscore (chars_at s (at + 1))) to b.0 (omega arith) (omega arith) k)

  pub exponent_stop : at ≤ length s → next (one_of (text "eE")) (chars_at s at) ≡ false → Cut s at (exponent (chars_at s at)) at
  exponent_stop h e = rw (exponent_none (chars_at s at) e) (cut_nothing s at h)

  module _ (e : next (one_of (text "eE")) (chars_at s at) ≡ true) where
    power : (at < length s) × (chars_at s at ≡ get_or s at 0 ∷ chars_at s (at + 1)) × (one_of (text "eE") (get_or s at 0) ≡ true)
    power = next_cons (one_of (text "eE")) (low_weak (one_of (text "eE")) power_low) s at e

    pub power_there : at + 1 ≤ length s
    power_there = let p = power.0 in omega arith

    pub exponent_cut : (mid to : ℕ) → Cut s (at + 1) (one_char is_sign (chars_at s (at + 1))) mid
        → Cut s mid (run is_digit (chars_at s mid)) to → Cut s at (exponent (chars_at s at)) to
    unfolding exponent
    exponent_cut mid to x y =
        let b = power in
        let q = power_low (get_or s at 0) b.2 in
        rw (b.1, b.2)
        (cut_cons s at ((one_char is_sign and_then run is_digit) (chars_at s (at + 1))) to b.0 q.0 q.1
        (cut_then s (at + 1) mid to (one_char is_sign) (run is_digit) x y))

-- ── Numbers ──

-- A float has something between its whole part and its suffix.
kind_by : (w e : ℕ) (t : Text) → length t ≡ e - w → w ≤ e
    → (if is_empty t then IntLiteral else FloatLiteral) ≡ number_kind (ltb w e)
unfolding is_empty
kind_by w e [] h l = rw (le-ltb w e (omega arith))
kind_by w e (c ∷ t) h l = rw (lt-ltb w e (omega arith))

number_plain : (f : Bool) → (number_kind f is 114) ≡ false
number_plain true = refl
number_plain false = refl

digit_grouped : (cs : Text) → next is_digit cs ≡ true → next is_digit_or_underscore cs ≡ true
unfolding next is_digit_or_underscore
digit_grouped [] e = e
digit_grouped (c ∷ cs) e = rw e

-- A number with no prefix.
pub decimal_word : (s : List ℕ) (at w f e to : ℕ) → next is_digit (chars_at s at) ≡ true
    → Cut s at (whole_part (chars_at s at)) w → Cut s w (fraction (chars_at s w)) f
    → Cut s f (exponent (chars_at s f)) e → Cut s e (maybe_suffix (chars_at s e)) to
    → WordAt s at (decimal (chars_at s at)) (number_kind (ltb w e)) (to - at) (to - at)
unfolding decimal decimal_kind
decimal_word s at w f e to d x y z u =
    let fe = cut_then s w f e fraction exponent y z in
    let fes = cut_then s w f to fraction (exponent and_then maybe_suffix) y (cut_then s f e to exponent maybe_suffix z u) in
    let all = cut_then s at w to whole_part (fraction and_then exponent and_then maybe_suffix) x fes in
    let middle = cut_rest s at w e whole_part (fraction and_then exponent) x fe in
    let m = fe.forth in
    let k = kind_by w e ((fraction and_then exponent) (whole_part (chars_at s at)).left).taken (cut_length s w e _ middle) m in
    let some = run_some is_digit_or_underscore (chars_at s at) (digit_grouped (chars_at s at) d) in
    let long : at < to = omega (arith, cut_length s at w (whole_part (chars_at s at)) x, fes.forth) in
    rw k
    (word_whole s at to (number_kind (ltb w e)) ((whole_part and_then fraction and_then exponent and_then maybe_suffix) (chars_at s at))
    (number_plain (ltb w e)) long all)

-- A number with a prefix.
radix_word : (d : Char → Bool) (s : List ℕ) (at mid to : ℕ)
    → Cut s at (one_char (one_of (text "0")) (chars_at s at)) (at + 1)
    → Cut s (at + 1) (one_char (one_of (text "xXbB")) (chars_at s (at + 1))) (at + 2)
    → Cut s (at + 2) (run d (chars_at s (at + 2))) mid → Cut s mid (maybe_suffix (chars_at s mid)) to
    → WordAt s at (radix d (chars_at s at)) IntLiteral (to - at) (to - at)
unfolding radix
radix_word d s at mid to x y z u =
    let rest = cut_then s (at + 2) mid to (run d) maybe_suffix z u in
    let long : at < to = omega (arith, rest.forth) in
    word_whole s at to IntLiteral
    ((one_char (one_of (text "0")) and_then one_char (one_of (text "xXbB")) and_then run d and_then maybe_suffix) (chars_at s at))
    refl long
    (cut_then s at (at + 1) to (one_char (one_of (text "0"))) (one_char (one_of (text "xXbB")) and_then run d and_then maybe_suffix) x
    (cut_then s (at + 1) (at + 2) to (one_char (one_of (text "xXbB"))) (run d and_then maybe_suffix) y rest))

module _ (s : List ℕ) (at : ℕ) where
  abbrev Prefix : Text → Bool → Type 0
  Prefix letters b = zero_then letters (chars_at s at) ≡ b

  -- Where the digits behind a prefix begin.
  pub hex_there : Prefix (text "xX") true → at + 2 ≤ length s
  unfolding one_of all_low all_pass within
  hex_there t = (zero_cuts s at (text "xX") (low_one_of 1 (text "xX") refl) refl t).1.inside

  pub binary_there : Prefix (text "bB") true → at + 2 ≤ length s
  unfolding one_of all_low all_pass within
  binary_there t = (zero_cuts s at (text "bB") (low_one_of 1 (text "bB") refl) refl t).1.inside

  pub hex_word : (mid to : ℕ) → Prefix (text "xX") true → Cut s (at + 2) (run hex_part (chars_at s (at + 2))) mid
      → Cut s mid (maybe_suffix (chars_at s mid)) to → WordAt s at (parse_number (chars_at s at)) IntLiteral (to - at) (to - at)
  unfolding parse_number one_of all_low all_pass within
  hex_word mid to t z u =
      let p = zero_cuts s at (text "xX") (low_one_of 1 (text "xX") refl) refl t in
      rw t (radix_word hex_part s at mid to p.0 p.1 z u)

  pub binary_word : (mid to : ℕ) → Prefix (text "xX") false → Prefix (text "bB") true
      → Cut s (at + 2) (run binary_part (chars_at s (at + 2))) mid
      → Cut s mid (maybe_suffix (chars_at s mid)) to → WordAt s at (parse_number (chars_at s at)) IntLiteral (to - at) (to - at)
  unfolding parse_number one_of all_low all_pass within
  binary_word mid to f t z u =
      let p = zero_cuts s at (text "bB") (low_one_of 1 (text "bB") refl) refl t in
      rw (f, t) (radix_word binary_part s at mid to p.0 p.1 z u)

  pub number_word : (k n e : ℕ) → Prefix (text "xX") false → Prefix (text "bB") false
      → WordAt s at (decimal (chars_at s at)) k n e → WordAt s at (parse_number (chars_at s at)) k n e
  unfolding parse_number
  number_word k n e f g w = rw (f, g) w
