-- What the loop of a print promises.
use Rattle.std.specs.Prelude.{◌≡◌, Bool, true, false, List, [], ◌++◌, ℕ, ◌+◌, ◌*◌, ◌-◌, ◌≤◌, ◌<◌, get_or, Option, Some, None, Result, Ok, Err}
use Rattle.characters.specs.Utf8.{chars_at}
use Rattle.rules.specs.Script.{script_errors}
use Rattle.bridge.specs.Bridge.{placed, Within}
use Rattle.classes.specs.Classes.{OTHER, class_of}
use Rattle.skipping.specs.Skips.{is_skipped}
use Rattle.output.specs.Writing.{Put}
use Rattle.prints.specs.Print.{print_bytes}
use Rattle.prints.specs.Writing.{outside}
use Rattle.print_places.specs.declared.Flawed.{Flawed}
use Rattle.print_places.specs.Places.{still, no_errors, right_from}
use Rattle.print_places.specs.declared.Written.{Written}

-- The places of a print before a turn: more than any print has.
abbrev pub FRONT : ℕ
FRONT = 68719476736

-- No byte of a class of its own, and nothing that is skipped, stands at a place.
pub record Nothing (s : List ℕ) (from : ℕ) : Type 0 where
  pub class_is : class_of (get_or s from 0) ≡ OTHER
  pub kept : is_skipped (chars_at s from) ≡ false

-- Nothing is left from a place on.
pub record Ended (s : List ℕ) (from : ℕ) : Type 0 where
  pub right : right_from s from ≡ true
  pub all : (due : Bool) → still s (outside due) from ≡ []

-- Where nothing begins: nothing is left, or there is an error.
abbrev pub EndAt : List ℕ → ℕ → Result Unit Flawed → Type 0
EndAt s from (Ok u) = Ended s from
EndAt s from (Err e) = right_from s from ≡ false

-- A turn that wrote `w`, with a space due behind it where `due'` says so: what is to be written from `from` on is what was written, and then
-- what is to be written from the next place on.
pub record Goes (s : List ℕ) (from : ℕ) (due : Bool) (out out' : List ℕ) (at : ℕ) (w : Written) (due' : Bool) : Type 0 where
  pub bytes : List ℕ
  pub put : Put out out' at bytes w.out
  pub same : still s (outside due) from ≡ bytes ++ still s (outside due') w.at
  pub right : right_from s from ≡ right_from s w.at
  pub within : Within s (placed w.at)
  pub forth : from < w.at
  pub small : w.out ≤ at + 65 * (w.at - from)

-- The end: nothing was written.
pub record Ends (s : List ℕ) (from : ℕ) (due : Bool) (out out' : List ℕ) : Type 0 where
  pub kept : out' ≡ out
  pub right : right_from s from ≡ true
  pub all : still s (outside due) from ≡ []

-- A turn, or the end; or there is an error.
abbrev pub TurnAt : List ℕ → ℕ → Bool → List ℕ → List ℕ → ℕ → Result (Option (Written × Bool)) Flawed → Type 0
TurnAt s from due out out' at (Ok (Some (w, due'))) = Goes s from due out out' at w due'
TurnAt s from due out out' at (Ok None) = Ends s from due out out'
TurnAt s from due out out' at (Err e) = right_from s from ≡ false

-- The whole print was written at the front of the buffer, `n` bytes, and the script has no error; or it has one.
abbrev pub WalkedAt : List ℕ → List ℕ → List ℕ → Result ℕ Flawed → Type 0
WalkedAt s out out' (Ok n) = (script_errors s ≡ []) × Put out out' 0 (print_bytes s) n
WalkedAt s out out' (Err e) = no_errors (script_errors s) ≡ false
