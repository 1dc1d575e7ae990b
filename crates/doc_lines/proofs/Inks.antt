-- Walks past ASCII characters that are no white space. Assumes nothing.
use Rattle.std.specs.Prelude.{if◌then◌else◌}
use mathlib.Core.Path.{◌≡◌, sym, ◌∙◌, ap, subst}
use mathlib.Core.Bool.{Bool, true, false, and-false}
use mathlib.Core.List.{List}
use mathlib.Core.Logic.{⊎_elim}
use Prim.Native.Nat.{ℕ, zero, suc, ◌+◌, ◌-◌, ◌≤◌, ◌<◌}
use native.Mathlib.Omega.{arith}
use lib.Dec.{ltb}
use lib.ListN.{length, get_or}
use borrow.Author.Tests.{lt-ltb, le-ltb, ne_eqb}
use Rattle.characters.specs.Space.{is_white}
use Rattle.characters.proofs.Choice.{within_bounds, le_or_lt}
use Rattle.characters.proofs.Spaces.{white_ink}
use Rattle.rules.specs.Text.{Char, LF}
use Rattle.doc_lines.specs.Lines.{CharAt, in_line, is_blank, is_ink, Inked}
use Rattle.doc_lines.proofs.Places.{Ending, ending_more, byte_here}

-- ── One of them ──

ink_bounds : (c : Char) → is_ink c ≡ true → (0x21 ≤ c) × (c ≤ 0x7F)
unfolding is_ink
ink_bounds c e = within_bounds 0x21 0x7F c e

ink_solid : (c : Char) → is_ink c ≡ true → is_white c ≡ false
unfolding is_ink
ink_solid c e = white_ink c e

ink_in : (split : Bool) (c : Char) → is_ink c ≡ true → in_line split c ≡ true
unfolding in_line
ink_in split c e = let b = (ink_bounds c e).0 in let n : c ≡ LF → ⊥ = λ f. omega arith in rw (ne_eqb c LF n, and-false split)

ink_no : (split : Bool) (c : Char) → is_ink c ≡ true → is_blank split c ≡ false
unfolding is_blank
ink_no split c e = rw (ink_solid c e)

ink_here : (s : List ℕ) (at : ℕ) → at < length s → is_ink (get_or s at 0) ≡ true → CharAt s at (get_or s at 0) (at + 1)
ink_here s at h e = byte_here s at h (omega (arith, (ink_bounds (get_or s at 0) e).1))

-- ── Behind it ──

module _ (split : Bool) (s : List ℕ) (from : ℕ) where
  ink_passed : (n at to : ℕ) → at + suc n ≤ length s → ((i : ℕ) → at ≤ i → i < at + suc n → is_ink (get_or s i 0) ≡ true)
      → Ending (in_line split) s from at to → Ending (in_line split) s from (at + suc n) (at + suc n)
  ink_passed zero at to h f k =
      let e = f at (omega arith) (omega arith) in
      ending_more split s from at to k (get_or s at 0) (at + 1) (ink_here s at (omega arith) e) (at + 1)
      (sym (ap (λ (w : Bool). if w then to else (at + 1)) (ink_solid (get_or s at 0) e))) (ink_in split (get_or s at 0) e)
  ink_passed (suc n) at to h f k =
      let e = f at (omega arith) (omega arith) in
      let one =
      ending_more split s from at to k (get_or s at 0) (at + 1) (ink_here s at (omega arith) e) (at + 1)
      (sym (ap (λ (w : Bool). if w then to else (at + 1)) (ink_solid (get_or s at 0) e))) (ink_in split (get_or s at 0) e) in
      let g : at + 1 + suc n ≡ at + suc (suc n) = omega arith in
      subst (λ (m : ℕ). Ending (in_line split) s from m m) g
      (ink_passed n (at + 1) (at + 1) (omega arith) (λ i a b. f i (omega arith) (omega arith)) one)

  pub ending_ink : (at to q end : ℕ) → Ending (in_line split) s from at to → Inked s at q → end ≡ (if ltb at q then q else to)
      → Ending (in_line split) s from q end
  ending_ink at to q end k i e = ⊎_elim none some (le_or_lt q at)
    where
      none : q ≤ at → Ending (in_line split) s from q end
      none l =
          let g : q ≡ at = omega (arith, i.forth) in
          let f : end ≡ to = e ∙ ap (λ (b : Bool). if b then q else to) (le-ltb at q l) in
          rw (g, f) k

      some : at < q → Ending (in_line split) s from q end
      some l =
          let n : ℕ = q - at - 1 in
          let g : at + suc n ≡ q = omega arith in
          let f : end ≡ q = e ∙ ap (λ (b : Bool). if b then q else to) (lt-ltb at q l) in
          rw f (subst (λ (m : ℕ). Ending (in_line split) s from m m) g
          (ink_passed n at to (omega (arith, i.inside)) (λ j a b. sym (i.passed j a (omega arith))) k))
