-- Questions 1 to 5 (document 01, "Questions before the answer").
use Rattle.std.specs.Prelude.{◌≡◌, not, List, ℕ, leb, length, drop, if◌then◌else◌, Option, Some, None, Result, Ok, Err}
use Rattle.characters.specs.Utf8.{first_bad, bad_class}
use Rattle.refusals.specs.declared.Refusal.{Refusal}
use Rattle.refusals.specs.Refusals.{RefusedLength, RefusedTokens, RefusedTexts, RefusedErrors, refusal_number, refusal_figure}
use Rattle.refusals.specs.Answers.{Answer, got, refused}
use Rattle.rules.specs.Script.{LIMIT}
use Rattle.room.specs.declared.Used.{Used}
use Rattle.questions.specs.declared.script.Script.{Script}

-- Question 2, by the first bad sequence. The figure counts the mark.
unfoldable pub ask_utf8 : List ℕ → Option ℕ → Answer (Unit {0})
ask_utf8 s None = got tt
ask_utf8 s (Some p) = refused (bad_class (drop p s)) p

-- Questions 1 and 2.
unfoldable pub ask_text : List ℕ → Answer (Unit {0})
ask_text s = if not (leb (length s) LIMIT) then refused RefusedLength (length s) else ask_utf8 s (first_bad s)

-- They were asked of the script `s`: on a yes the answer is the script that passed, with the same bytes.
abbrev pub Asked : List ℕ → Result Script Refusal → Type 0
Asked s (Ok x) = (got tt ≡ ask_text s) × (x.bytes.now ≡ s)
Asked s (Err x) = refused (refusal_number x) (refusal_figure x) ≡ ask_text s

-- Questions 3, 4 and 5: buffers of these sizes hold what is needed.
unfoldable pub ask_room : Used → ℕ → ℕ → ℕ → Answer (Unit {0})
ask_room u tokens texts errors =
    if not (leb u.tokens tokens) then refused RefusedTokens u.tokens
    else if not (leb u.texts texts) then refused RefusedTexts u.texts
    else if not (leb u.errors errors) then refused RefusedErrors u.errors
    else got tt
