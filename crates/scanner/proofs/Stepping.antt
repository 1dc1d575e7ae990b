-- Steps from a cursor, outside of strings and inside of them. Assumes nothing.
use mathlib.Core.Path.{◌≡◌, sym, subst}
use mathlib.Core.Bool.{Bool, true, false}
use mathlib.Core.List.{List}
use Prim.Native.Nat.{ℕ, ◌≤◌}
use native.Mathlib.Omega.{arith}
use Rattle.characters.specs.Utf8.{chars_at}
use Rattle.spans.specs.declared.Position.{Position}
use Rattle.cursor.specs.Cursor.{left}
use Rattle.cursor.specs.declared.Cursor.TheVariants as cur
use Rattle.bridge.specs.Bridge.{Within}
use Rattle.steps.specs.declared.Cursor.{Cursor}
use Rattle.steps.specs.declared.Token as code
use Rattle.steps.specs.declared.Step.{Step}
use Rattle.steps.specs.declared.Step.TheVariants as step
use Rattle.steps.specs.declared.Within.TheVariants.{Outside, Inside, Ended}
use Rattle.steps.specs.Step.{Rest, rest_of, rest_within, rest, nothing_left, Good, Used, GivesOf, GivenBy, Stepped, rest_outside}
use Rattle.scanner.specs.declared.Entry.{Entry}
use Rattle.scanner.specs.Entry.{Begins, EnteredBy, Entered}

module _ (s texts : List ℕ) (ut : ℕ) (errors : List ℕ) (ue : ℕ) (texts' errors' : List ℕ) (c : Cursor) where
  stepped : (r : Rest) (x : Step) → rest s c ≡ r → GivenBy r s texts ut errors ue x texts' errors' → Stepped s c texts ut errors ue x texts' errors'
  stepped r (step.Token t c') e g = subst (λ (y : Rest). GivesOf y s texts ut errors ue t c' texts' errors') (sym e) g
  stepped r step.End e g = absurd g

  pub stepped_outside : (x : Step) → c.within ≡ Outside → GivenBy (rest_outside s c.at) s texts ut errors ue x texts' errors'
      → Stepped s c texts ut errors ue x texts' errors'
  unfolding rest rest_within
  stepped_outside x e g = stepped (rest_outside s c.at) x (rw e) g

  pub stepped_inside : (start : Position) (x : Step) → c.within ≡ Inside start.offset start.line start.col
      → GivenBy (rest_of (left (cur.InString start c.at) (chars_at s c.at.offset))) s texts ut errors ue x texts' errors'
      → Stepped s c texts ut errors ue x texts' errors'
  unfolding rest rest_within
  stepped_inside start x e g = stepped (rest_of (left (cur.InString start c.at) (chars_at s c.at.offset))) x (rw e) g

  -- The same of a piece that is known to be the step.
  pub stepped_piece : (start : Position) (t : code.Token) (c' : Cursor) (x : Step) → x ≡ step.Token t c'
      → c.within ≡ Inside start.offset start.line start.col
      → GivesOf (rest_of (left (cur.InString start c.at) (chars_at s c.at.offset))) s texts ut errors ue t c' texts' errors'
      → Stepped s c texts ut errors ue x texts' errors'
  stepped_piece start t c' x e w g =
      subst (λ (y : Step). Stepped s c texts ut errors ue y texts' errors') (sym e) (stepped_inside start (step.Token t c') w g)

-- Where a step from a cursor begins: at the cursor, or behind a string that gave no more.
module _ (s texts : List ℕ) (ut : ℕ) (errors : List ℕ) (ue : ℕ) (c : Cursor) where
  pub begins_outside : Good s c → Used ut ue → c.within ≡ Outside → Begins s c texts ut errors ue c.at ue texts errors
  begins_outside g u e =
      record {
        within = g.at;
        few = omega (arith, u.errors);
        onward = λ x texts' errors' h. stepped_outside s texts ut errors ue texts' errors' c x e h;
      }

  pub begins_inside : (start q : Position) (used : ℕ) (texts₁ errors₁ : List ℕ) → Within s q → used ≤ 5368709120
      → c.within ≡ Inside start.offset start.line start.col
      → ((x : Step) (texts' errors' : List ℕ) → GivenBy (rest_outside s q) s texts₁ ut errors₁ used x texts' errors'
      → GivenBy (rest_of (left (cur.InString start c.at) (chars_at s c.at.offset))) s texts ut errors ue x texts' errors')
      → Begins s c texts ut errors ue q used texts₁ errors₁
  begins_inside start q used texts₁ errors₁ i few e h =
      record {
        within = i;
        few = few;
        onward = λ x texts' errors' g. stepped_inside s texts ut errors ue texts' errors' c start x e (h x texts' errors' g);
      }

module _ (s : List ℕ) (c : Cursor) (texts : List ℕ) (ut : ℕ) (errors : List ℕ) (ue : ℕ) (texts' errors' : List ℕ) where
  pub entered_known : (e : Entry) → e.known ≡ true → Entered s c texts ut errors ue e texts' errors'
      → Stepped s c texts ut errors ue e.step texts' errors'
  entered_known e k h = subst (λ (b : Bool). EnteredBy b s c texts ut errors ue e texts' errors') k h

  pub entered_begun : (e : Entry) → e.known ≡ false → Entered s c texts ut errors ue e texts' errors'
      → Begins s c texts ut errors ue e.at e.errors texts' errors'
  entered_begun e k h = subst (λ (b : Bool). EnteredBy b s c texts ut errors ue e texts' errors') k h

  pub entry_is : (e f : Entry) → e ≡ f → Entered s c texts ut errors ue f texts' errors' → Entered s c texts ut errors ue e texts' errors'
  entry_is e f k h = subst (λ (x : Entry). Entered s c texts ut errors ue x texts' errors') (sym k) h

pub stepped_end : (s : List ℕ) (c : Cursor) → c.within ≡ Ended → rest s c ≡ nothing_left
unfolding rest rest_within
stepped_end s c e = rw e
