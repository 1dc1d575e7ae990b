-- Laws of the characters of a text and of its check, by places. Assumes nothing.
use mathlib.Core.Path.{◌≡◌, refl, ◌∙◌, ap}
use mathlib.Core.Logic.{◌⊎◌, inl, inr}
use mathlib.Core.List.{List, [], ◌∷◌}
use Prim.Native.Nat.{ℕ, zero, suc, ◌+◌, ◌-◌, ◌≤◌, ◌<◌}
use lib.ListN.{length, get_or, drop}
use lib.Seq.{drop-nil, drop-drop}
use native.Mathlib.Omega.{arith}
use native.Mathlib.Nat.{add-zero}
use Rattle.std.specs.Prelude.{Some, None}
use Rattle.characters.specs.Utf8.{first_of, decode_at, after, chars_past, chars_at, chars_of, check_after, check_past, first_bad}
use Rattle.characters.specs.Valid.{bad_from}
use Rattle.characters.specs.declared.Decoded.TheVariants.{Code, Bad, End}
use Rattle.characters.proofs.Sequences.{decode_end}
use Rattle.characters.proofs.Decoding.{first_code, decode_ascii}

-- ── The characters of a text ──

past_drop : (s : List ℕ) (k : ℕ) → chars_past s k ≡ chars_past (drop k s) 0
unfolding chars_past
past_drop [] k = rw (drop-nil k)
past_drop (a ∷ s) zero = refl
past_drop (a ∷ s) (suc k) = past_drop s k

-- By what the first character is.
chars_code_first : (s : List ℕ) (v n : ℕ) → first_of s ≡ Code v n → 1 ≤ n → chars_past s 0 ≡ v ∷ chars_past (drop n s) 0
unfolding chars_past after first_of
chars_code_first [] v n e h = cc
chars_code_first (a ∷ t) v zero e h = absurd (omega arith)
chars_code_first (a ∷ t) v (suc m) e h =
    let f : suc m - 1 ≡ m = omega arith in
    rw (e, f) (ap (λ (l : List ℕ). v ∷ l) (past_drop t m))

pub chars_first : (s : List ℕ) (v n : ℕ) → first_of s ≡ Code v n → chars_of s ≡ v ∷ chars_of (drop n s)
unfolding chars_of
chars_first s v n e = chars_code_first s v n e (first_code s v n e).least

pub chars_none : (s : List ℕ) → (first_of s ≡ Bad) ⊎ (first_of s ≡ End) → chars_of s ≡ []
unfolding chars_of chars_past after first_of
chars_none [] h = refl
chars_none (a ∷ t) (inl h) = rw h
chars_none (a ∷ t) (inr h) = rw h

-- The characters from a place on are those of what is left there.
pub chars_at_lem : (s : List ℕ) (at : ℕ) → chars_at s at ≡ chars_of (drop at s)
unfolding chars_at chars_of
chars_at_lem s at = refl

pub chars_start : (s : List ℕ) → chars_at s 0 ≡ chars_of s
unfolding chars_at chars_of
chars_start s = refl

-- By what is decoded there.
pub chars_code : (s : List ℕ) (at v n : ℕ) → decode_at s at ≡ Code v n → chars_at s at ≡ v ∷ chars_at s (at + n)
unfolding decode_at
chars_code s at v n e =
    rw (chars_at_lem s at, chars_at_lem s (at + n), ← drop-drop n at s) (chars_first (drop at s) v n e)

pub chars_bad : (s : List ℕ) (at : ℕ) → decode_at s at ≡ Bad → chars_at s at ≡ []
unfolding decode_at
chars_bad s at e = chars_at_lem s at ∙ chars_none (drop at s) (inl e)

pub chars_end : (s : List ℕ) (at : ℕ) → decode_at s at ≡ End → chars_at s at ≡ []
unfolding decode_at
chars_end s at e = chars_at_lem s at ∙ chars_none (drop at s) (inr e)

-- No character stands past the end.
pub chars_past_lem : (s : List ℕ) (at : ℕ) → length s ≤ at → chars_at s at ≡ []
chars_past_lem s at h = chars_end s at (decode_end s at h)

-- An octet below 80 that is there is a character.
pub chars_ascii : (s : List ℕ) (at : ℕ) → at < length s → get_or s at 0 ≤ 0x7F → chars_at s at ≡ get_or s at 0 ∷ chars_at s (at + 1)
chars_ascii s at h l = chars_code s at (get_or s at 0) 1 (decode_ascii s at h l)

-- ── The first bad sequence ──

check_drop : (s : List ℕ) (k at : ℕ) → check_past s k at ≡ check_past (drop k s) 0 (at + k)
unfolding check_past
check_drop [] k at = rw (drop-nil k)
check_drop (a ∷ s) zero at = rw (add-zero at)
check_drop (a ∷ s) (suc k) at =
    let e : at + suc k ≡ at + 1 + k = omega arith in
    rw e (check_drop s k (at + 1))

check_code_first : (s : List ℕ) (v n at : ℕ) → first_of s ≡ Code v n → 1 ≤ n → check_past s 0 at ≡ check_past (drop n s) 0 (at + n)
unfolding check_past check_after first_of
check_code_first [] v n at e h = cc
check_code_first (a ∷ t) v zero at e h = absurd (omega arith)
check_code_first (a ∷ t) v (suc m) at e h =
    let f : suc m - 1 ≡ m = omega arith in
    let g : at + suc m ≡ at + 1 + m = omega arith in
    rw (e, f, g) (check_drop t m (at + 1))

pub check_first : (s : List ℕ) (v n at : ℕ) → first_of s ≡ Code v n → check_past s 0 at ≡ check_past (drop n s) 0 (at + n)
check_first s v n at e = check_code_first s v n at e (first_code s v n e).least

pub bad_first : (s : List ℕ) (at : ℕ) → first_of s ≡ Bad → check_past s 0 at ≡ Some at
unfolding check_past check_after first_of
bad_first [] at e = cc
bad_first (a ∷ t) at e = rw e

end_first : (s : List ℕ) (at : ℕ) → first_of s ≡ End → check_past s 0 at ≡ None
unfolding check_past check_after first_of
end_first [] at e = refl
end_first (a ∷ t) at e = rw e

-- From a place on, by what is decoded there.
pub bad_start : (s : List ℕ) → first_bad s ≡ bad_from s 0
unfolding bad_from first_bad
bad_start s = refl

pub bad_code : (s : List ℕ) (at v n : ℕ) → decode_at s at ≡ Code v n → bad_from s at ≡ bad_from s (at + n)
unfolding bad_from decode_at
bad_code s at v n e = rw (← drop-drop n at s) (check_first (drop at s) v n at e)

pub bad_here : (s : List ℕ) (at : ℕ) → decode_at s at ≡ Bad → bad_from s at ≡ Some at
unfolding bad_from decode_at
bad_here s at e = bad_first (drop at s) at e

pub bad_none : (s : List ℕ) (at : ℕ) → decode_at s at ≡ End → bad_from s at ≡ None
unfolding bad_from decode_at
bad_none s at e = end_first (drop at s) at e
