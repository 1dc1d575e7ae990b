-- Where a step begins.
use Rattle.std.specs.Prelude.{Bool, true, false, List, ℕ, ◌≤◌}
use Rattle.spans.specs.declared.Position.{Position}
use Rattle.bridge.specs.Bridge as bridge
use Rattle.steps.specs.declared.Cursor.{Cursor}
use Rattle.steps.specs.declared.Step.{Step}
use Rattle.steps.specs.declared.Step.TheVariants as step
use Rattle.steps.specs.Step.{AfterString, GivenBy, rest_outside, Stepped}
use Rattle.scanner.specs.declared.Entry.{Entry}

-- A step outside of strings is begun at `q`: what it gives from there is what the step from `c` gives.
pub record Begins (s : List ℕ) (c : Cursor) (texts₀ : List ℕ) (usedTexts : ℕ) (errors₀ : List ℕ) (usedErrors : ℕ)
    (q : Position) (used : ℕ) (texts₁ errors₁ : List ℕ) : Type 0 where
  pub within : bridge.Within s q
  pub few : used ≤ AfterString
  pub onward : (x : Step) (texts₂ errors₂ : List ℕ) → GivenBy (rest_outside s q) s texts₁ usedTexts errors₁ used x texts₂ errors₂
      → Stepped s c texts₀ usedTexts errors₀ usedErrors x texts₂ errors₂

abbrev pub known_entry : Step → Position → ℕ → Entry
known_entry x p used = record { step = x; at = p; errors = used; known = true }

abbrev pub begun_entry : Position → ℕ → Entry
begun_entry p used = record { step = step.End; at = p; errors = used; known = false }

abbrev pub EnteredBy : Bool → List ℕ → Cursor → List ℕ → ℕ → List ℕ → ℕ → Entry → List ℕ → List ℕ → Type 0
EnteredBy true s c texts₀ usedTexts errors₀ usedErrors e texts₁ errors₁ =
    Stepped s c texts₀ usedTexts errors₀ usedErrors e.step texts₁ errors₁
EnteredBy false s c texts₀ usedTexts errors₀ usedErrors e texts₁ errors₁ =
    Begins s c texts₀ usedTexts errors₀ usedErrors e.at e.errors texts₁ errors₁

abbrev pub Entered : List ℕ → Cursor → List ℕ → ℕ → List ℕ → ℕ → Entry → List ℕ → List ℕ → Type 0
Entered s c texts₀ usedTexts errors₀ usedErrors e texts₁ errors₁ =
    EnteredBy e.known s c texts₀ usedTexts errors₀ usedErrors e texts₁ errors₁
