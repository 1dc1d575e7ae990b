-- Laws of a character written into a buffer with no condition on it. Assumes nothing.
use Rattle.std.specs.Prelude.{Some, None}
use mathlib.Core.Path.{◌≡◌, refl}
use mathlib.Core.Bool.{true, false, and-false}
use mathlib.Core.List.{List}
use Prim.Native.Nat.{ℕ, ◌+◌, ◌≤◌, ◌<◌}
use lib.ListN.{length}
use lib.Seq.{sets}
use borrow.Author.Tests.{le-leb, lt-leb}
use Rattle.characters.specs.Utf8.{is_scalar, width, encode_char}
use Rattle.encoding.specs.Encoding.{has_room, encoded_at, buffer_after}

module _ (c at size : ℕ) where
  pub room_yes : is_scalar c ≡ true → at + width c ≤ size → has_room c at size ≡ true
  unfolding has_room
  room_yes e h = rw (e, le-leb (at + width c) size h)

  pub room_no_scalar : is_scalar c ≡ false → has_room c at size ≡ false
  unfolding has_room
  room_no_scalar e = rw e

  pub room_too_small : size < at + width c → has_room c at size ≡ false
  unfolding has_room
  room_too_small h = rw (lt-leb (at + width c) size h) (and-false (is_scalar c))

module _ (c at : ℕ) (buf : List ℕ) where
  pub encode_refused : has_room c at (length buf) ≡ false → (None ≡ encoded_at c at (length buf)) × (buf ≡ buffer_after c at buf)
  unfolding encoded_at buffer_after
  encode_refused e = rw e (refl, refl)

  pub encode_written : (n : ℕ) (out : List ℕ) → has_room c at (length buf) ≡ true → n ≡ width c → out ≡ sets buf at (encode_char c)
      → (Some n ≡ encoded_at c at (length buf)) × (out ≡ buffer_after c at buf)
  unfolding encoded_at buffer_after
  encode_written n out e f g = rw (e, f) (refl, g)
