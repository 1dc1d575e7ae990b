-- Tokens that end one past their last character, and errors that span their whole segment. Assumes nothing.
use Rattle.std.specs.Prelude.{if◌then◌else◌}
use mathlib.Core.Path.{◌≡◌, refl, sym, ◌∙◌, ap, subst}
use mathlib.Core.Bool.{Bool, true, false, not}
use mathlib.Core.List.{List, [], ◌∷◌}
use mathlib.Core.Option.{none}
use Prim.Native.Nat.{ℕ, ◌<◌}
use lib.ListN.{length}
use lib.Seq.{take-length}
use native.Mathlib.Omega.{arith}
use Rattle.characters.specs.Utf8.{bytes}
use Rattle.characters.proofs.Widths.{width_bounds}
use Rattle.spans.specs.declared.Position.{Position}
use Rattle.rules.specs.Text.{Char, Text}
use Rattle.rules.specs.Segment.{piece, fault, Segment, one_token}
use Rattle.rules.specs.Lexer.{advances, span, place_in, tokens_of, errors_of}
use Rattle.bridge.specs.Bridge.{Reach}
use Rattle.walks.specs.Errors.{unclosed}
use Rattle.walks.specs.Segments.{segment_at, OneToken}
use Rattle.walks.proofs.Enclosed.{reach_offset}

-- A reach past a character leads on.
pub reach_forth : (s : List ℕ) (p q : Position) (c : Char) (t : Text) → Reach s p (c ∷ t) q → p.offset < q.offset
unfolding bytes
reach_forth s p q c t r = omega (arith, reach_offset s p q (c ∷ t) r, width_bounds c)

module _ (p q : Position) (g : Segment) (m : q ≡ advances p g.chars) where
  whole_place : place_in p g (length g.chars) ≡ q
  whole_place = ap (advances p) (take-length g.chars) ∙ sym m

  -- The error of a segment in which the text ran out.
  pub whole_error : (k : ℕ) (found : Bool) → g.open_end ≡ not found
      → g.faults ≡ (if g.open_end then fault k 0 (length g.chars) ∷ [] else []) → errors_of p g g.faults ≡ unclosed found k p q
  unfolding errors_of advances unclosed
  whole_error k found o e =
      ap (errors_of p g) (e ∙ ap (λ (b : Bool). if b then fault k 0 (length g.chars) ∷ [] else []) o) ∙ go found
    where
      go : (b : Bool) → errors_of p g (if not b then fault k 0 (length g.chars) ∷ [] else []) ≡ unclosed b k p q
      go true = refl
      go false = ap (λ (r : Position). record { kind = k; span = span p r; char = none } ∷ []) whole_place

-- The segment `g` at a position is one token.
module _ (s : List ℕ) (p q : Position) (g : Segment) (k : ℕ) (t : Text) (c : Char) (more : Text)
    (e : segment_at s p ≡ g) (o : g.sort ≡ one_token) (n : g.chars ≡ c ∷ more) (r : Reach s p g.chars q) where
  pub one_token_lem : (i : ℕ) (end : Position) → g.pieces ≡ piece k t i ∷ [] → end ≡ place_in p g i → OneToken s p k t end q
  unfolding tokens_of
  one_token_lem i end x m =
      record {
        sort = ap (λ (h : Segment). h.sort) e ∙ o;
        token = ap (λ (h : Segment). tokens_of p h h.pieces) e
            ∙ (ap (tokens_of p g) x ∙ ap (λ (y : Position). record { kind = k; text = t; span = span p y } ∷ []) (sym m));
        reach = subst (λ (h : Segment). Reach s p h.chars q) (sym e) r;
        forth = reach_forth s p q c more (subst (λ (l : Text). Reach s p l q) n r);
      }

  -- It ends one past its last character.
  pub one_token_whole : g.pieces ≡ piece k t (length g.chars) ∷ [] → OneToken s p k t q q
  one_token_whole x = one_token_lem (length g.chars) q x (sym (whole_place p q g r.moved))
