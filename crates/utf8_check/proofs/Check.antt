-- Laws of the parts of the check of a text. Assumes nothing.
use mathlib.Core.Path.{◌≡◌, refl, ◌∙◌, ap, subst}
use mathlib.Core.Bool.{Bool, true, false, ◌&&◌}
use mathlib.Core.List.{List}
use Prim.Native.Nat.{ℕ, zero, suc, ◌+◌, ◌-◌, ◌≤◌, ◌<◌}
use lib.Dec.{ltb}
use lib.ListN.{length, get_or}
use borrow.Author.Tests.{ltb-true}
use native.Mathlib.Omega.{arith}
use Rattle.characters.specs.Utf8.{decode_at}
use Rattle.utf8_check.specs.Check.{BLOCK, ascii, Clean}
use Rattle.characters.specs.declared.Decoded.TheVariants.{Code}
use Rattle.characters.proofs.Choice.{and_both}
use Rattle.characters.proofs.Decoding.{placed_code, decode_ascii}
use Rattle.characters.proofs.Characters.{bad_code}

-- Nothing is passed; one part and then another.
pub clean_none : (s : List ℕ) (at : ℕ) → at ≤ length s → Clean s at at
clean_none s at h = record { onward = omega arith; inside = h; same = refl }

pub clean_then : {s : List ℕ} {a b c : ℕ} → Clean s a b → Clean s b c → Clean s a c
clean_then p q = record { onward = omega arith; inside = q.inside; same = p.same ∙ q.same }

-- A character, and the characters of octets below 80.
pub clean_code : (s : List ℕ) (at v n : ℕ) → decode_at s at ≡ Code v n → Clean s at (at + n)
clean_code s at v n e =
    record { onward = omega arith; inside = (placed_code s at v n e).inside; same = bad_code s at v n e }

clean_low : (s : List ℕ) (at : ℕ) → at < length s → ltb (get_or s at 0) 0x80 ≡ true → Clean s at (at + 1)
clean_low s at h e =
    let l = ltb-true (get_or s at 0) 0x80 e in
    clean_code s at (get_or s at 0) 1 (decode_ascii s at h (omega arith))

pub clean_ascii : (s : List ℕ) (at n : ℕ) → at + n < length s → ascii s at n ≡ true → Clean s at (at + suc n)
clean_ascii s at zero h e = clean_low s at (omega arith) e
clean_ascii s at (suc n) h e =
    let p = and_both (ascii s at n) (ltb (get_or s (at + suc n) 0) 0x80) e in
    let f : at + suc n + 1 ≡ at + suc (suc n) = omega arith in
    subst (Clean s at) f (clean_then (clean_ascii s at n (omega arith) p.0) (clean_low s (at + suc n) h p.1))

-- ── Octets below 80, part by part ──

and_front : (a b c : Bool) → (a && (b && c)) ≡ (a && b && c)
and_front true b c = refl
and_front false b c = refl

-- A part, and the part behind it.
ascii_then : (s : List ℕ) (at b m n k : ℕ) → b ≡ at + suc m → k ≡ m + suc n → (ascii s at m && ascii s b n) ≡ ascii s at k
ascii_then s at b m zero k e f = let g : k ≡ suc m = omega arith in rw (e, g)
ascii_then s at b m (suc n) k e f =
    let g : k ≡ suc (m + suc n) = omega arith in
    let h : b + suc n ≡ at + suc (m + suc n) = omega arith in
    let more = ap (λ (t : Bool). t && ltb (get_or s (b + suc n) 0) 0x80) (ascii_then s at b m n (m + suc n) e refl) in
    rw (g, ← h) (and_front (ascii s at m) (ascii s b n) _ ∙ more)

-- The four parts of a block.
pub ascii_block : (s : List ℕ) (at : ℕ)
    → (ascii s at 3 && ascii s (at + 4) 3 && ascii s (at + 4 + 4) 3 && ascii s (at + 4 + 4 + 4) 3) ≡ ascii s at (BLOCK - 1)
ascii_block s at =
    ap (λ (t : Bool). t && ascii s (at + 4 + 4) 3 && ascii s (at + 4 + 4 + 4) 3) (ascii_then s at (at + 4) 3 3 7 (omega arith) refl)
    ∙ ap (λ (t : Bool). t && ascii s (at + 4 + 4 + 4) 3) (ascii_then s at (at + 4 + 4) 7 3 11 (omega arith) refl)
    ∙ ascii_then s at (at + 4 + 4 + 4) 11 3 15 (omega arith) refl
