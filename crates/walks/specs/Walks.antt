-- What walks to a closing mark promise.
use Rattle.std.specs.Prelude.{◌≡◌, Bool, not, List, [], ◌∷◌, ℕ, if◌then◌else◌}
use Rattle.characters.specs.Utf8.{chars_at}
use Rattle.spans.specs.declared.Position.{Position}
use Rattle.rules.specs.Text.{Char, Text, text, LF}
use Rattle.rules.specs.Scan.{starts_with, up_to}
use Rattle.bridge.specs.Bridge.{Reach, onward}
use Rattle.walks.specs.declared.Closing.{Closing}

-- The closing marks: of block comments, raw strings and `${`; and the line feed, before which a line comment ends.
abbrev pub star_slash : Text
star_slash = text "*/"

abbrev pub quotes : Text
quotes = text "\"\"\""

abbrev pub brace : Text
brace = text "}"

abbrev pub feed : Text
feed = LF ∷ []

-- From `p` the walk passes what stands before the mark, and says whether the mark was found.
pub record UpToAt (mark : Text) (s : List ℕ) (p : Position) (c : Closing) : Type 0 where
  pub reach : Reach s p (up_to mark (chars_at s p.offset)).before c.at
  pub same : (up_to mark (chars_at s p.offset)).open_end ≡ not c.found

-- `Answers` tells at which places the mark stands.
abbrev pub Tells : (ℕ → Bool → Type 0) → Text → List ℕ → Type 0
Tells Answers mark s = (at : ℕ) (b : Bool) → Answers at b → b ≡ starts_with mark (chars_at s at)

-- The same, of any mark that begins with `first` and of which `Answers` tells where it stands.
abbrev pub UpToTold : (ℕ → Bool → Type 0) → Char → List ℕ → Position → Closing → Type 0
UpToTold Answers first s p c = (ms : Text) → Tells Answers (first ∷ ms) s → UpToAt (first ∷ ms) s p c

-- Behind a closing mark of `n` characters, or where the text ran out.
unfoldable pub behind_mark : Closing → ℕ → Position
behind_mark c n = if c.found then onward c.at n else c.at
