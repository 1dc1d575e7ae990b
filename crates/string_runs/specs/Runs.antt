-- What a row of units promises.
use Rattle.std.specs.Prelude.{◌≡◌, false, List, [], ◌++◌, ℕ, ◌+◌, ◌*◌, ◌≤◌, length, take}
use Rattle.characters.specs.Utf8.{chars_at, encode}
use Rattle.spans.specs.declared.Position.{Position}
use Rattle.rules.specs.Text.{Text}
use Rattle.rules.specs.Tokens.{TokenizeError}
use Rattle.cursor.specs.Strings.{stands, units_made, units_errors, units_ahead}
use Rattle.bridge.specs.Bridge.{Reach}
use Rattle.output.specs.Writing.{Put}
use Rattle.string_runs.specs.declared.Run.{Run}
use Rattle.records.specs.Fields.{LONGEST_ERROR}
use Rattle.records.specs.Layout.{error_bytes}

-- The bytes of a buffer that are in use before a string: more than all the texts or errors of a script take, and so far below PLACES that
-- what the string adds still has places. The units of a string make LIMIT bytes at most.
abbrev pub USED : ℕ
USED = 1099511627776

-- The bytes used so far are few enough that every sum of a script's texts and errors fits. It is asked and is no type, as PLACES of output.
pub record Room (ut ue : ℕ) : Type 0 where
  pub texts : ut ≤ USED
  pub errors : ue ≤ USED

-- The characters from a position on that belong to the units there, what these make, and their errors.
abbrev pub run_chars : List ℕ → Position → Text
run_chars s p = take (units_ahead (chars_at s p.offset)) (chars_at s p.offset)

abbrev pub run_made : List ℕ → Position → Text
run_made s p = units_made (units_ahead (chars_at s p.offset)) (chars_at s p.offset)

abbrev pub run_errors : List ℕ → Position → List TokenizeError
run_errors s p = units_errors (units_ahead (chars_at s p.offset)) p (chars_at s p.offset)

-- Units from `p` to `q` make the bytes `bs`, and `es` as errors: the units from `p` on are these, and then the units from `q` on.
pub record Units (s : List ℕ) (p q : Position) (bs es : List ℕ) : Type 0 where
  pub chars : Text
  pub reach : Reach s p chars q
  pub front : run_chars s p ≡ chars ++ run_chars s q
  pub made : encode (run_made s p) ≡ bs ++ encode (run_made s q)
  pub errors : error_bytes (run_errors s p) ≡ es ++ error_bytes (run_errors s q)
  pub small : p.offset + length bs ≤ q.offset
  pub few : LONGEST_ERROR * p.offset + length es ≤ LONGEST_ERROR * q.offset

-- Units from `p` to `q` without errors; what they make is written at `ut` of the texts. How far `q` lies is left open: a row of units
-- goes on from there.
pub record Wrote (s : List ℕ) (p q : Position) (texts texts' : List ℕ) (ut mt : ℕ) : Type 0 where
  pub bytes : List ℕ
  pub units : Units s p q bytes []
  pub made : Put texts texts' ut bytes mt

-- The units from `p` on, up to where none stands: what they make is written at `ut` of the texts, their errors at `ue` of the errors.
-- They make no more bytes than they have, and their errors LONGEST_ERROR bytes at most for each.
pub record RunAt (s : List ℕ) (p : Position) (texts texts' : List ℕ) (ut : ℕ) (errors errors' : List ℕ) (ue : ℕ) (r : Run) : Type 0 where
  pub reach : Reach s p (run_chars s p) r.at
  pub stops : stands (chars_at s r.at.offset) ≡ false
  pub made : Put texts texts' ut (encode (run_made s p)) r.texts
  pub noted : Put errors errors' ue (error_bytes (run_errors s p)) r.errors
  pub small : p.offset + length (encode (run_made s p)) ≤ r.at.offset
  pub few : LONGEST_ERROR * p.offset + length (error_bytes (run_errors s p)) ≤ LONGEST_ERROR * r.at.offset
