-- A print's loop between two turns. Assumes nothing.
use Rattle.std.specs.Prelude.{Ok, Err}
use mathlib.Core.Path.{◌≡◌, refl, sym, ◌∙◌, subst}
use mathlib.Core.Bool.{Bool, true, false, true≢false}
use mathlib.Core.List.{List, [], ◌∷◌}
use Prim.Native.Nat.{ℕ, ◌+◌, ◌*◌, ◌-◌, ◌≤◌, ◌<◌}
use native.Mathlib.Omega.{arith}
use lib.ListN.{length}
use Rattle.characters.specs.Utf8.{chars_at, chars_of}
use Rattle.byte_order_mark.specs.Mark.{after_mark}
use Rattle.rules.specs.Tokens.{TokenizeError}
use Rattle.rules.specs.Lexer.{tokens, errors}
use Rattle.rules.specs.Script.{accepted, script_text, script_tokens, script_errors}
use Rattle.cursor.specs.Cursor.{left}
use Rattle.bridge.specs.Bridge.{placed, Within}
use Rattle.records.proofs.Filling.{Ahead, ahead_start, ahead_step, ahead_end}
use Rattle.list_loop.proofs.Loop.{begin_good}
use Rattle.prints.specs.Print.{print_bytes}
use Rattle.prints.specs.Records.{quote_at}
use Rattle.prints.specs.Writing.{outside, write_tokens}
use Rattle.prints.proofs.Stepwise.{print_tokens}
use Rattle.print_places.specs.declared.Flawed.{Flawed}
use Rattle.print_places.specs.Places.{still, still_of, no_errors, right_from}
use Rattle.print_places.specs.declared.Written.{Written}
use Rattle.print_loop.specs.Loops.{FRONT, Goes, Ends, TurnAt, WalkedAt}

-- The text `s` of the script was printed up to the place `from`: `at` bytes are written, and the buffer was `out₀`. What is still to be
-- written completes the print.
pub record Walking (script s out₀ out : List ℕ) (from : ℕ) (due : Bool) (at : ℕ) : Type 0 where
  pub within : Within s (placed from)
  pub ahead : Ahead out₀ out at (still s (outside due) from) (print_bytes script)
  pub right : no_errors (script_errors script) ≡ right_from s from
  pub small : at ≤ 65 * from

-- ── The beginning ──

begin_still : (script : List ℕ) → still (after_mark script) (outside false) 0 ≡ write_tokens (quote_at (after_mark script)) (outside false) (script_tokens script)
unfolding still_of left chars_at chars_of script_text script_tokens tokens
begin_still script = refl

begin_right : (script : List ℕ) → no_errors (script_errors script) ≡ right_from (after_mark script) 0
unfolding left chars_at chars_of script_text script_errors errors
begin_right script = refl

pub walk_start : (script s out : List ℕ) → s ≡ after_mark script → accepted script ≡ true → Walking script s out out 0 false 0
walk_start script s out e ok =
    subst (λ (t : List ℕ). Walking script t out out 0 false 0) (sym e)
    (record {
      within = (begin_good script ok).at;
      ahead =
          subst (λ (l : List ℕ). Ahead out out 0 l (print_bytes script)) (print_tokens script ok ∙ sym (begin_still script)) (ahead_start out (print_bytes script));
      right = begin_right script;
      small = omega arith;
    })

-- ── A turn, and the end ──

no_errors_lem : (es : List TokenizeError) → no_errors es ≡ true → es ≡ []
unfolding no_errors
no_errors_lem [] e = refl
no_errors_lem (x ∷ es) e = absurd (true≢false (sym e))

module _ (script s out₀ out : List ℕ) (from : ℕ) (due : Bool) (at : ℕ) (y : Walking script s out₀ out from due at) where
  -- Places of a turn.
  pub walk_front : at ≤ FRONT
  walk_front = omega (arith, y.small, y.within.inside, y.within.size)

  -- An error.
  pub walk_wrong : (out' : List ℕ) (e : Flawed) → TurnAt s from due out out' at (Err e) → WalkedAt script out₀ out' (Err e)
  walk_wrong out' e w = y.right ∙ w

  -- An element more.
  module _ (out' : List ℕ) (w : Written) (due' : Bool) (g : Goes s from due out out' at w due') where
    pub walk_more : Walking script s out₀ out' w.at due' w.out
    walk_more =
        record {
          within = g.within;
          ahead =
              ahead_step out₀ out at (still s (outside due) from) (print_bytes script) g.bytes (still s (outside due') w.at) g.same y.ahead out' w.out
              g.put.written g.put.place;
          right = y.right ∙ g.right;
          small = omega (arith, y.small, g.small, g.forth);
        }

    pub walk_forth : length s - w.at < length s - from
    walk_forth = omega (arith, g.forth, g.within.inside)

  -- All is written.
  pub walk_end : (out' : List ℕ) → Ends s from due out out' → WalkedAt script out₀ out' (Ok at)
  walk_end out' g =
      let (a, b) = ahead_end out₀ out at (still s (outside due) from) (print_bytes script) g.all y.ahead in
      (no_errors_lem (script_errors script) (y.right ∙ g.right), record { written = g.kept ∙ a; place = b ∙ zero_plus (length (print_bytes script)) })
    where
      zero_plus : (n : ℕ) → n ≡ 0 + n
      zero_plus n = omega arith
