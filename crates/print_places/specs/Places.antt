-- What is still to be printed from a place on, and what the writers of elements promise each other. Lines and columns play no part in a
-- print, so all of it goes by places.
use Rattle.std.specs.Prelude.{◌≡◌, Bool, true, false, List, [], ◌∷◌, ◌++◌, map, ℕ, ◌+◌, ◌*◌, ◌-◌, ◌≤◌, ◌<◌, Result, Ok, Err}
use Rattle.characters.specs.Utf8.{chars_at}
use Rattle.rules.specs.Tokens.{TokenizeError}
use Rattle.rules.specs.Lexer.{Lexed, eof}
use Rattle.rules.specs.Script.{as_bytes}
use Rattle.cursor.specs.Cursor.{left}
use Rattle.cursor.specs.declared.Cursor.TheVariants.{Outside}
use Rattle.bridge.specs.Bridge.{placed, Within}
use Rattle.output.specs.Writing.{Put}
use Rattle.prints.specs.Records.{quote_at}
use Rattle.prints.specs.Writing.{State, outside, due_space, write_tokens}
use Rattle.print_places.specs.declared.Flawed.{Flawed}
use Rattle.print_places.specs.declared.Written.{Written}

-- What the rules still give from a place on, outside of strings.
abbrev pub lexed_from : List ℕ → ℕ → Lexed
lexed_from s at = left (Outside (placed at)) (chars_at s at)

-- What is still to be written where the rules still give `r`: for its tokens, up to EOF.
unfoldable pub still_of : List ℕ → State → Lexed → List ℕ
still_of s state r = write_tokens (quote_at s) state (map as_bytes (r.body ++ (eof r.stop ∷ [])))

abbrev pub still : List ℕ → State → ℕ → List ℕ
still s state at = still_of s state (lexed_from s at)

-- No error is recorded.
unfoldable pub no_errors : List TokenizeError → Bool
no_errors [] = true
no_errors (e ∷ es) = false

abbrev pub right_from : List ℕ → ℕ → Bool
right_from s at = no_errors (lexed_from s at).errors

-- How many bytes are printed at most for each byte of the script: more than there can be, so that places fit.
abbrev pub GROWTH : ℕ
GROWTH = 64

-- The element at the place `from` was written at `at` of the print: what is to be written from there on is a space where one is due,
-- the element, and what is to be written behind it; `due'` says whether a space is due then.
pub record Emits (due' : Bool) (s : List ℕ) (from : ℕ) (out out' : List ℕ) (at : ℕ) (w : Written) : Type 0 where
  pub bytes : List ℕ
  pub put : Put out out' at bytes w.out
  pub same : (due : Bool) → still s (outside due) from ≡ due_space due ++ (bytes ++ still s (outside due') w.at)
  pub right : right_from s from ≡ right_from s w.at
  pub within : Within s (placed w.at)
  pub forth : from < w.at
  pub small : w.out ≤ at + GROWTH * (w.at - from)

-- The element was written, or it has an error.
abbrev pub EmittedAt : Bool → List ℕ → ℕ → List ℕ → List ℕ → ℕ → Result Written Flawed → Type 0
EmittedAt due' s from out out' at (Ok w) = Emits due' s from out out' at w
EmittedAt due' s from out out' at (Err e) = right_from s from ≡ false
