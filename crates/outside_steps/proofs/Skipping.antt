-- Steps behind what was skipped: a token, or the end. Assumes nothing.
use mathlib.Core.Path.{◌≡◌}
use mathlib.Core.Bool.{true, false}
use mathlib.Core.List.{List}
use Prim.Native.Nat.{ℕ}
use Rattle.characters.specs.Utf8.{chars_at}
use Rattle.spans.specs.declared.Position.{Position}
use Rattle.cursor.specs.declared.Cursor.TheVariants as cur
use Rattle.skipping.specs.declared.Skipped.{Skipped}
use Rattle.skipping.specs.Skips.{SkippedAt}
use Rattle.steps.specs.declared.Step.{Step}
use Rattle.steps.specs.declared.Within.TheVariants.{Ended}
use Rattle.steps.specs.Step.{GivesOf, GivenBy, rest_outside}
use Rattle.steps.specs.Tokens.{end_token}
use Rattle.steps.proofs.Giving.{end_gives, before_gives, before_given}

module _ (s : List ℕ) (p : Position) (texts : List ℕ) (ut : ℕ) (errors errors' : List ℕ) (ue : ℕ) (r : Skipped) (k : SkippedAt s p errors errors' ue r) where
  -- The text ran out in a comment.
  pub skipped_end : r.ran_out ≡ true
      → GivesOf (rest_outside s p) s texts ut errors ue (end_token r.at (record { texts = ut; errors = r.errors }) true) (record { at = r.at; within = Ended }) texts errors'
  skipped_end e =
      before_gives s (cur.Outside p) (chars_at s p.offset) (cur.Outside r.at) (chars_at s r.at.offset) k.recorded r.ran_out texts ut errors errors' ue r.errors
      (end_token r.at (record { texts = ut; errors = r.errors }) false) (end_token r.at (record { texts = ut; errors = r.errors }) true) (record { at = r.at; within = Ended }) texts errors' k.yields k.written
      (end_gives s r.at texts ut errors' r.errors k.within (k.all e)) (rw e)

  -- A step behind it.
  pub skipped_given : (texts' errors'' : List ℕ) (x : Step) → r.ran_out ≡ false
      → GivenBy (rest_outside s r.at) s texts ut errors' r.errors x texts' errors'' → GivenBy (rest_outside s p) s texts ut errors ue x texts' errors''
  skipped_given texts' errors'' x e g =
      before_given s texts ut errors' r.errors texts' errors'' (cur.Outside p) (chars_at s p.offset) (cur.Outside r.at) (chars_at s r.at.offset) k.recorded r.ran_out
      errors ue x e k.yields k.written g
