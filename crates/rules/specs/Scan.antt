-- Looking ahead: what a text begins with, and how far a run of characters goes.
use Rattle.std.specs.Prelude.{Bool, true, false, ◌&&◌, [], ◌∷◌, ◌++◌, if◌then◌else◌}
use Rattle.characters.specs.Choice.{◌is◌}
use Rattle.rules.specs.Text.{Char, Text}

-- The next character passes the test (`peek_char`).
unfoldable pub next : (Char → Bool) → Text → Bool
next p [] = false
next p (c ∷ cs) = p c

-- The text begins with these characters (`peek_n(1) == .. && peek_n(2) == ..`).
unfoldable pub starts_with : Text → Text → Bool
starts_with [] cs = true
starts_with (p ∷ ps) [] = false
starts_with (p ∷ ps) (c ∷ cs) = c is p && starts_with ps cs

-- What a step takes from the front of a text, and what it leaves.
pub record Part : Type 0 where
  pub taken : Text
  pub left : Text

abbrev pub nothing : Text → Part
nothing cs = record { taken = []; left = cs }

abbrev pub takes : Char → Part → Part
takes c a = record { taken = c ∷ a.taken; left = a.left }

-- All the characters in front that pass the test.
unfoldable pub run : (Char → Bool) → Text → Part
run p [] = nothing []
run p (c ∷ cs) = let more = takes c (run p cs) in if p c then more else nothing (c ∷ cs)

-- One character, if it passes the test.
unfoldable pub one_char : (Char → Bool) → Text → Part
one_char p [] = nothing []
one_char p (c ∷ cs) = if p c then takes c (nothing cs) else nothing (c ∷ cs)

-- What `f` takes, and then what `g` takes of what `f` leaves.
infixr 20 ◌and_then◌
abbrev pub ◌and_then◌ : (Text → Part) → (Text → Part) → Text → Part
(f and_then g) cs =
    let a = f cs in
    let b = g a.left in
    record { taken = a.taken ++ b.taken; left = b.left }

-- What stands before the first place where a closing mark begins; `open_end` if there is no such place, and then it is all the text.
pub record Upto : Type 0 where
  pub before : Text
  pub open_end : Bool

abbrev pub passes : Char → Upto → Upto
passes c u = record { before = c ∷ u.before; open_end = u.open_end }

unfoldable pub up_to : Text → Text → Upto
up_to mark [] = record { before = []; open_end = true }
up_to mark (c ∷ cs) =
    let more = passes c (up_to mark cs) in
    if starts_with mark (c ∷ cs) then record { before = []; open_end = false } else more

-- The closing mark, where there is one.
abbrev pub closing : Text → Upto → Text
closing mark u = if u.open_end then [] else mark
