-- What the writer of one element promises.
use Rattle.std.specs.Prelude.{◌≡◌, Bool, false, List, ℕ, get_or, Result, Ok, Err}
use Rattle.characters.specs.Utf8.{chars_at}
use Rattle.classes.specs.Classes.{OTHER, class_of}
use Rattle.skipping.specs.Skips.{is_skipped}
use Rattle.print_places.specs.declared.Flawed.{Flawed}
use Rattle.print_places.specs.Places.{right_from, Emits}
use Rattle.print_places.specs.declared.Written.{Written}

-- At a place stands something of the class `k` that is not skipped.
pub record Chosen (s : List ℕ) (from k : ℕ) : Type 0 where
  pub class_is : k ≡ class_of (get_or s from 0)
  pub some : k ≡ OTHER → ⊥
  pub kept : is_skipped (chars_at s from) ≡ false

-- The element at a place was written, and whether a space is due behind it; or it has an error.
abbrev pub PrintedAt : List ℕ → ℕ → List ℕ → List ℕ → ℕ → Result (Written × Bool) Flawed → Type 0
PrintedAt s from out out' at (Ok (w, due)) = Emits due s from out out' at w
PrintedAt s from out out' at (Err e) = right_from s from ≡ false
