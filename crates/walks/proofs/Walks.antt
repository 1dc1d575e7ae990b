-- Laws of walks to a closing mark. Assumes nothing.
use Rattle.std.specs.Prelude.{if◌then◌else◌}
use mathlib.Core.Path.{◌≡◌, refl, sym, ◌∙◌, ap}
use mathlib.Core.Bool.{Bool, true, false, ◌&&◌, not}
use mathlib.Core.List.{List, [], ◌∷◌, ◌++◌}
use Prim.Native.Nat.{ℕ, ◌+◌, ◌-◌}
use lib.Dec.{leb}
use native.Mathlib.Omega.{arith}
use borrow.Author.Tests.{not-true}
use Rattle.characters.specs.Choice.{◌is◌}
use Rattle.characters.specs.Utf8.{chars_at}
use Rattle.characters.proofs.Choice.{and_both}
use Rattle.spans.specs.declared.Position.{Position}
use Rattle.rules.specs.Text.{Char, Text, LF}
use Rattle.rules.specs.Scan.{starts_with, takes, nothing, Part, run, passes, Upto, up_to}
use Rattle.rules.specs.Comments.{not_lf}
use Rattle.bridge.specs.Bridge.{Within, Reach, Letter, Cut, onward, is_plain, Stops, PastRun}
use Rattle.bridge.proofs.Reaches.{reach_nil, reach_join, cut_reach}
use Rattle.walks.specs.Walks.{UpToAt}
use Rattle.walks.specs.declared.Closing.{Closing}

-- ── The rule ──

up_to_none : (mark : Text) → up_to mark [] ≡ record { before = []; open_end = true }
unfolding up_to
up_to_none mark = refl

up_to_here : (m : Char) (ms cs : Text) → starts_with (m ∷ ms) cs ≡ true → up_to (m ∷ ms) cs ≡ record { before = []; open_end = false }
unfolding up_to starts_with
up_to_here m ms [] h = cc
up_to_here m ms (c ∷ cs) h = rw h

up_to_on : (mark : Text) (c : Char) (cs : Text) → starts_with mark (c ∷ cs) ≡ false → up_to mark (c ∷ cs) ≡ passes c (up_to mark cs)
unfolding up_to
up_to_on mark c cs h = rw h

-- The characters before a line feed are those up to the mark that a line feed is.
pub run_up_to : (cs : Text) → (run not_lf cs).taken ≡ (up_to (LF ∷ []) cs).before
unfolding run up_to starts_with
run_up_to [] = refl
run_up_to (c ∷ cs) = go (c is LF) (run_up_to cs)
  where
    go : (b : Bool) → (run not_lf cs).taken ≡ (up_to (LF ∷ []) cs).before
        → (if not b then takes c (run not_lf cs) else nothing (c ∷ cs)).taken
        ≡ (if b && true then record { before = []; open_end = false } else passes c (up_to (LF ∷ []) cs)).before
    go true e = refl
    go false e = ap (λ (t : Text). c ∷ t) e

-- ── Plain characters ──

-- What a walk to a mark passes together, where `stop` begins the mark.
abbrev pub plain_to : Char → Char → Bool
plain_to stop = is_plain stop stop stop

pub same_stops : (stop : Char) → Letter stop → Stops stop stop stop
same_stops stop l = record { first = l.1; second = l.1; third = l.1 }

-- No mark that begins with `stop` begins at such a character.
plain_starts : (stop : Char) (ms : Text) (c : Char) (cs : Text) → plain_to stop c ≡ true → starts_with (stop ∷ ms) (c ∷ cs) ≡ false
unfolding is_plain starts_with
plain_starts stop ms c cs e = rw (not-true (c is stop) (and_both (leb 11 c && not (c is stop) && not (c is stop)) (not (c is stop)) e).1)

-- A part in front of what stands before a mark.
abbrev passes_all : Text → Upto → Upto
passes_all t u = record { before = t ++ u.before; open_end = u.open_end }

up_to_plain : (m : Char) (ms cs : Text) → up_to (m ∷ ms) cs ≡ passes_all (run (plain_to m) cs).taken (up_to (m ∷ ms) (run (plain_to m) cs).left)
unfolding run
up_to_plain m ms [] = refl
up_to_plain m ms (c ∷ cs) = go (plain_to m c) refl (up_to_plain m ms cs)
  where
    go : (b : Bool) → plain_to m c ≡ b → up_to (m ∷ ms) cs ≡ passes_all (run (plain_to m) cs).taken (up_to (m ∷ ms) (run (plain_to m) cs).left)
        → up_to (m ∷ ms) (c ∷ cs) ≡ passes_all (if b then takes c (run (plain_to m) cs) else nothing (c ∷ cs)).taken
        (up_to (m ∷ ms) (if b then takes c (run (plain_to m) cs) else nothing (c ∷ cs)).left)
    go true e y = up_to_on (m ∷ ms) c cs (plain_starts m ms c cs e) ∙ ap (passes c) y
    go false e y = refl

-- ── The walk ──

module _ (m : Char) (ms : Text) (s : List ℕ) (p : Position) where
  pub upto_end : Within s p → chars_at s p.offset ≡ [] → UpToAt (m ∷ ms) s p (record { at = p; found = false })
  upto_end w e = let u = ap (up_to (m ∷ ms)) e ∙ up_to_none (m ∷ ms) in record { reach = rw u (reach_nil s p w); same = rw u }

  -- The test `b` says whether the mark stands here.
  pub upto_stop : (b : Bool) → b ≡ starts_with (m ∷ ms) (chars_at s p.offset) → b ≡ true → Within s p
      → UpToAt (m ∷ ms) s p (record { at = p; found = true })
  upto_stop b e t w =
      let u = up_to_here m ms (chars_at s p.offset) (sym e ∙ t) in
      record { reach = rw u (reach_nil s p w); same = rw u }

  pub upto_more : (b : Bool) → b ≡ starts_with (m ∷ ms) (chars_at s p.offset) → b ≡ false → (c : ℕ) (q : Position) → Reach s p (c ∷ []) q
      → (k : Closing) → UpToAt (m ∷ ms) s q k → UpToAt (m ∷ ms) s p k
  upto_more b e t c q r k x =
      let u : up_to (m ∷ ms) (chars_at s p.offset) ≡ passes c (up_to (m ∷ ms) (chars_at s q.offset)) =
      ap (up_to (m ∷ ms)) r.chars ∙ up_to_on (m ∷ ms) c (chars_at s q.offset) (ap (starts_with (m ∷ ms)) (sym r.chars) ∙ (sym e ∙ t)) in
      record {
        reach = rw u (reach_join s p q k.at (c ∷ []) (up_to (m ∷ ms) (chars_at s q.offset)).before r x.reach);
        same = rw u x.same;
      }

-- A part of one line that is cut up to the place `to`, as a position: from it on, what the part leaves.
pub cut_onward : (s : List ℕ) (p : Position) (a : Part) (to : ℕ) (q : Position) → Within s p → Cut s p.offset a to
    → q ≡ onward p (to - p.offset) → Reach s p a.taken q × (chars_at s q.offset ≡ a.left)
cut_onward s p a to q w k x =
    let f = k.forth in
    let n : p.offset + (to - p.offset) ≡ to = omega arith in
    let o : q.offset ≡ to = ap (λ (z : Position). z.offset) x ∙ n in
    (rw x (cut_reach s p a (to - p.offset) w (rw n k)), ap (chars_at s) o ∙ k.left)

-- The loop: whatever ends the walk from here ends it from where it began.
abbrev pub Walking : Text → List ℕ → Position → Position → Type 0
Walking mark s from at = Within s at × ((k : Closing) → UpToAt mark s at k → UpToAt mark s from k)

-- Past plain characters from where the loop stands.
pub walking_on : (m : Char) (ms : Text) (s : List ℕ) (from at : Position) → Walking (m ∷ ms) s from at → (q : Position)
    → PastRun (plain_to m) s at q → Walking (m ∷ ms) s from q
walking_on m ms s from at (w, more) q k =
    let c = run (plain_to m) (chars_at s at.offset) in
    let u : up_to (m ∷ ms) (chars_at s at.offset) ≡ passes_all c.taken (up_to (m ∷ ms) (chars_at s q.offset)) =
    up_to_plain m ms (chars_at s at.offset) ∙ ap (λ (t : Text). passes_all c.taken (up_to (m ∷ ms) t)) (sym k.left) in
    let on : (y : Closing) → UpToAt (m ∷ ms) s q y → UpToAt (m ∷ ms) s at y =
    λ y z. record {
      reach = rw u (reach_join s at q y.at c.taken (up_to (m ∷ ms) (chars_at s q.offset)).before k.reach z.reach);
      same = rw u z.same;
    } in
    (k.reach.within, λ y z. more y (on y z))
