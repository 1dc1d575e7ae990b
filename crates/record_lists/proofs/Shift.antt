-- What stands at a place of a slice stands at 0 of what the slice holds from there on. Assumes nothing.
use mathlib.Core.Path.{◌≡◌, sym, ◌∙◌, ap}
use mathlib.Core.List.{List, ◌++◌}
use Prim.Native.Nat.{ℕ, ◌+◌}
use lib.Dec.{leb}
use lib.ListN.{length, get_or, length-append}
use lib.Seq.{get_or-append-add}
use native.Mathlib.Nat.{add_assoc, add-zero}
use native.Mathlib.Omega.{arith}
use Rattle.records.specs.Kinds.{record_length, error_length}
use Rattle.record_reading.specs.Reading.{num32, span_at, kind_at, is_whole, record_at, is_whole_error, error_at}
use Rattle.record_reading.proofs.Places.{leb_same}

module _ (xs ys : List ℕ) where
  num_shift : (i : ℕ) → num32 (xs ++ ys) (length xs + i) ≡ num32 ys i
  unfolding num32
  num_shift i =
      rw (
        add_assoc (length xs) i 1,
        add_assoc (length xs) i 2,
        add_assoc (length xs) i 3,
        get_or-append-add xs ys i 0,
        get_or-append-add xs ys (i + 1) 0,
        get_or-append-add xs ys (i + 2) 0,
        get_or-append-add xs ys (i + 3) 0,
      )

  num_on : (i j : ℕ) → num32 (xs ++ ys) (length xs + i + j) ≡ num32 ys (i + j)
  num_on i j = rw (add_assoc (length xs) i j) (num_shift (i + j))

  span_shift : (i : ℕ) → span_at (xs ++ ys) (length xs + i) ≡ span_at ys i
  unfolding span_at
  span_shift i = rw (num_shift i, num_on i 4, num_on i 8, num_on i 12, num_on i 16, num_on i 20)

  pub kind_shift : kind_at (xs ++ ys) (length xs) ≡ kind_at ys 0
  unfolding kind_at
  kind_shift = ap (λ (n : ℕ). get_or (xs ++ ys) n 0) (sym (add-zero (length xs))) ∙ get_or-append-add xs ys 0 0

  room_shift : (n : ℕ) → leb (length xs + n) (length (xs ++ ys)) ≡ leb (0 + n) (length ys)
  room_shift n =
      leb_same (length xs + n) (length (xs ++ ys)) (0 + n) (length ys) (λ h. omega (arith, length-append xs ys)) (λ h. omega (arith, length-append xs ys))

  pub whole_shift : is_whole (xs ++ ys) (length xs) ≡ is_whole ys 0
  unfolding is_whole
  whole_shift = rw (kind_shift, room_shift (record_length (kind_at ys 0)))

  pub record_shift : record_at (xs ++ ys) (length xs) ≡ record_at ys 0
  unfolding record_at
  record_shift = rw (kind_shift, span_shift 1, num_shift 25, num_shift 29)

  pub whole_error_shift : is_whole_error (xs ++ ys) (length xs) ≡ is_whole_error ys 0
  unfolding is_whole_error
  whole_error_shift = rw (kind_shift, room_shift (error_length (kind_at ys 0)))

  pub error_shift : error_at (xs ++ ys) (length xs) ≡ error_at ys 0
  unfolding error_at
  error_shift = rw (kind_shift, span_shift 1, num_shift 25)
