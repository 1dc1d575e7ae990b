-- White space and comments passed by their places.
use Rattle.std.specs.Prelude.{◌≡◌, false, List, ℕ, ◌≤◌, ◌<◌, get_or, Option, Some, None, Result, Ok, Err}
use Rattle.characters.specs.Space.{is_white}
use Rattle.characters.specs.Utf8.{chars_at}
use Rattle.rules.specs.Scan.{next}
use Rattle.bridge.specs.Bridge.{placed, Within}
use Rattle.walks.specs.Openings.{opens_line, opens_block}
use Rattle.classes.specs.Classes.{SPACE, class_of}
use Rattle.skipping.specs.Skips.{is_skipped}
use Rattle.prints.specs.Writing.{State}
use Rattle.print_places.specs.declared.Flawed.{Flawed}
use Rattle.print_places.specs.Places.{still, right_from}
use Rattle.print_skips.specs.declared.Stop.{Stop}

-- From one place to another nothing is printed, and no error is recorded.
pub record Passed (s : List ℕ) (from to : ℕ) : Type 0 where
  pub same : (state : State) → still s state from ≡ still s state to
  pub right : right_from s from ≡ right_from s to
  pub within : Within s (placed to)
  pub forth : from ≤ to

-- White space from one place to another. There is none only where none stands at the first.
pub record SomeWhite (s : List ℕ) (from to : ℕ) : Type 0 where
  pub passed : Passed s from to
  pub stops : to ≡ from → next is_white (chars_at s from) ≡ false

-- White space of one byte each, up to a byte that is none, of the class that is told.
pub record BlanksTo (s : List ℕ) (from : ℕ) (r : Stop) : Type 0 where
  pub passed : Passed s from r.at
  pub class_is : r.class ≡ class_of (get_or s r.at 0)
  pub stops : r.class ≡ SPACE → ⊥

-- White space, behind which there is no more, and the class of the byte there.
pub record WhiteTo (s : List ℕ) (from : ℕ) (r : Stop) : Type 0 where
  pub passed : Passed s from r.at
  pub class_is : r.class ≡ class_of (get_or s r.at 0)
  pub stops : next is_white (chars_at s r.at) ≡ false

-- A comment from one place to another, or none; or one that is not closed, which is an error.
abbrev pub CommentAt : List ℕ → ℕ → Result (Option ℕ) Flawed → Type 0
CommentAt s at (Ok (Some to)) = Passed s at to × (at < to)
CommentAt s at (Ok None) = (opens_line (chars_at s at) ≡ false) × (opens_block (chars_at s at) ≡ false)
CommentAt s at (Err e) = right_from s at ≡ false

-- All white space and comments from a place on were passed; or the last comment is not closed, which is an error.
pub record Skipped (s : List ℕ) (from : ℕ) (g : Stop) : Type 0 where
  pub passed : Passed s from g.at
  pub class_is : g.class ≡ class_of (get_or s g.at 0)
  pub stops : is_skipped (chars_at s g.at) ≡ false

abbrev pub SkippedAt : List ℕ → ℕ → Result Stop Flawed → Type 0
SkippedAt s from (Ok g) = Skipped s from g
SkippedAt s from (Err e) = right_from s from ≡ false
