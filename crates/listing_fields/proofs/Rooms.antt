-- Room for bytes that are written one part after another. Assumes nothing.
use mathlib.Core.List.{List, ◌++◌}
use Prim.Native.Nat.{ℕ, ◌≤◌}
use native.Mathlib.Omega.{arith}
use lib.ListN.{length-append}
use Rattle.output.specs.Writing.{Put, PLACES}
use Rattle.listing_fields.specs.Room.{Room}

pub room_place : (at : ℕ) (xs : List ℕ) → Room at xs → at ≤ PLACES
room_place at xs h = omega arith

-- Room for the first part.
pub room_front : (at : ℕ) (xs ys : List ℕ) → Room at (xs ++ ys) → Room at xs
room_front at xs ys h = record { fits = omega (arith, length-append xs ys) }

-- Room for the second, where the first was written.
pub room_then : (a b : List ℕ) (at r : ℕ) (xs ys : List ℕ) → Room at (xs ++ ys) → Put a b at xs r → Room r ys
room_then a b at r xs ys h p = record { fits = omega (arith, length-append xs ys) }
