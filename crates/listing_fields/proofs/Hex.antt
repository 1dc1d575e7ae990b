-- Bytes in hexadecimal, written one after another. Assumes nothing.
use mathlib.Core.Path.{◌≡◌, refl, ap}
use mathlib.Core.List.{List, [], ◌∷◌}
use Prim.Native.Nat.{ℕ, ◌+◌, ◌/◌, ◌%◌, ◌≤◌, ◌<◌}
use native.Mathlib.Numerals.{add-one}
use native.Mathlib.Omega.{arith}
use lib.ListN.{length, get_or, drop, drop_of_length-le}
use lib.Seq.{drop-cons}
use Rattle.std.specs.Char.{digit_char}
use Rattle.output.specs.Writing.{Put, PLACES}
use Rattle.output.proofs.Buffers.{put_then, Writing, write_start, write_more, write_end}
use Rattle.listing_fields.specs.Numbers.{hex_of}
use Rattle.listing_fields.specs.Fields.{text_field}
use Rattle.listing_fields.specs.Room.{Room}

pub two_put : (a b c : List ℕ) (at m r x y u v : ℕ) → x ≡ u → y ≡ v → Put a b at (x ∷ []) m → Put b c m (y ∷ []) r
    → Put a c at (u ∷ v ∷ []) r
two_put a b c at m r x y u v e f p q = rw (← e, ← f) (put_then a b c at m r (x ∷ []) (y ∷ []) p q)

-- ── The loop: what is still to be written from here on ──

pub record Hexing (s old b : List ℕ) (at i p : ℕ) : Type 0 where
  pub ahead : Writing old b at p (hex_of (drop i s)) (hex_of s)
  pub inside : i ≤ length s
  pub low : Room at (hex_of s)

pub hex_start : (s b : List ℕ) (at : ℕ) → Room at (hex_of s) → Hexing s b b at 0 at
hex_start s b at h = record { ahead = write_start b at (hex_of s); inside = omega arith; low = h }

module _ (s old b : List ℕ) (at i p : ℕ) (g : Hexing s old b at i p) where
  module _ (h : i < length s) where
    hex_next : hex_of (drop i s) ≡ digit_char (get_or s i 0 / 16) ∷ digit_char (get_or s i 0 % 16) ∷ hex_of (drop (i + 1) s)
    unfolding hex_of
    hex_next = rw (add-one i, drop-cons s i 0 h)

    pub hex_place : p < PLACES
    hex_place = omega (arith, ap length hex_next, g.ahead.used, g.low.fits)

    pub hex_more : (c : List ℕ) (r : ℕ) → Put b c p (digit_char (get_or s i 0 / 16) ∷ digit_char (get_or s i 0 % 16) ∷ []) r
        → Hexing s old c at (i + 1) r
    hex_more c r q =
        let w = rw hex_next at g.ahead in
        record {
          ahead = write_more old b c at p r (digit_char (get_or s i 0 / 16) ∷ digit_char (get_or s i 0 % 16) ∷ []) (hex_of (drop (i + 1) s)) (hex_of s) w q;
          inside = omega arith;
          low = g.low;
        }

  pub hex_end : length s ≤ i → Put old b at (hex_of s) p
  unfolding hex_of
  hex_end h =
      let e : hex_of (drop i s) ≡ [] = rw (drop_of_length-le s h) in
      write_end old b at p (hex_of s) (rw e at g.ahead)

-- ── A text ──

pub text_room : (s : List ℕ) (at m : ℕ) → (length s ≡ 0 → ⊥) → m ≡ at + 1 → Room at (text_field s) → Room m (hex_of s)
unfolding text_field
text_room [] at m e p h = absurd (e refl)
text_room (x ∷ xs) at m e p h = record { fits = omega arith }

pub text_none : (s a c : List ℕ) (at r : ℕ) → length s ≡ 0 → Put a c at (32 ∷ 45 ∷ []) r → Put a c at (text_field s) r
unfolding text_field
text_none [] a c at r e p = p
text_none (b ∷ bs) a c at r e p = absurd (omega arith)

pub text_some : (s a b c : List ℕ) (at m r : ℕ) → (length s ≡ 0 → ⊥) → Put a b at (32 ∷ []) m → Put b c m (hex_of s) r
    → Put a c at (text_field s) r
unfolding text_field
text_some [] a b c at m r e p q = absurd (e refl)
text_some (x ∷ xs) a b c at m r e p q = put_then a b c at m r (32 ∷ []) (hex_of (x ∷ xs)) p q
