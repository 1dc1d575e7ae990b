-- A mark, what stands behind it up to a closing mark, and the closing mark, where there is one. Assumes nothing.
use Rattle.std.specs.Prelude.{if◌then◌else◌}
use mathlib.Core.Path.{◌≡◌, refl, sym, ◌∙◌, ap, subst}
use mathlib.Core.Bool.{Bool, true, false, not}
use mathlib.Core.List.{List, [], ◌++◌, append_assoc, append_cancel_left}
use Prim.Native.Nat.{ℕ, ◌+◌, ◌≤◌}
use lib.ListN.{length, drop}
use lib.Seq.{drop-append_seam, slice}
use native.Mathlib.Omega.{arith}
use Rattle.characters.specs.Utf8.{chars_at, bytes, encode}
use Rattle.characters.proofs.Texts.{chars_slice}
use Rattle.spans.specs.declared.Position.{Position}
use Rattle.rules.specs.Text.{Text}
use Rattle.rules.specs.Scan.{starts_with, run, Upto, up_to, closing}
use Rattle.rules.specs.Comments.{not_lf}
use Rattle.rules.proofs.Front.{up_to_splits}
use Rattle.rules.proofs.Placed.{advances_offset}
use Rattle.bridge.specs.Bridge.{Within, Reach, onward, Flat}
use Rattle.bridge.proofs.Bytes.{starts_self}
use Rattle.bridge.proofs.Reaches.{reach_nil, reach_join, flat_reach}
use Rattle.walks.specs.Walks.{feed, UpToAt, behind_mark}
use Rattle.walks.specs.declared.Closing.{Closing}
use Rattle.walks.proofs.Walks.{run_up_to}

-- ── Where a reach leads ──

module _ (s : List ℕ) (p q : Position) (t : Text) (r : Reach s p t q) where
  pub reach_offset : q.offset ≡ p.offset + bytes t
  reach_offset = ap (λ (x : Position). x.offset) r.moved ∙ advances_offset p t

  pub reach_on : p.offset ≤ q.offset
  reach_on = omega (arith, reach_offset)

  pub reach_drop : drop (length t) (chars_at s p.offset) ≡ chars_at s q.offset
  reach_drop = ap (drop (length t)) r.chars ∙ drop-append_seam t (chars_at s q.offset)

  -- The characters passed are the part of the text between.
  pub reach_slice : p.offset ≤ length s → slice p.offset q.offset s ≡ encode t
  reach_slice h =
      ap (λ (n : ℕ). slice p.offset n s) reach_offset ∙ chars_slice s p.offset t (chars_at s q.offset) h r.chars

-- A mark that stands at a position.
pub begin_reach : (begin : Text) (s : List ℕ) (p q : Position) → Flat begin → Within s p → starts_with begin (chars_at s p.offset) ≡ true
    → q ≡ onward p (length begin) → Reach s p begin q
begin_reach begin s p q f w e m = subst (λ (x : Position). Reach s p begin x) (sym m) (flat_reach s p begin f w e)

-- ── Where a walk ended ──

module _ (mark : Text) (s : List ℕ) (p : Position) (c : Closing) (x : UpToAt mark s p c) where
  -- What the walk left: the mark and what follows it; or nothing.
  left_is : chars_at s c.at.offset ≡ closing mark (up_to mark (chars_at s p.offset)) ++ (up_to_splits mark (chars_at s p.offset)).0
  left_is =
      let u = up_to mark (chars_at s p.offset) in
      let k = up_to_splits mark (chars_at s p.offset) in
      append_cancel_left u.before (chars_at s c.at.offset) (closing mark u ++ k.0)
      (sym x.reach.chars ∙ (sym k.1 ∙ append_assoc u.before (closing mark u) k.0))

  pub upto_closes : c.found ≡ true → starts_with mark (chars_at s c.at.offset) ≡ true
  upto_closes h =
      let u = up_to mark (chars_at s p.offset) in
      let k = up_to_splits mark (chars_at s p.offset) in
      let o : u.open_end ≡ false = x.same ∙ ap not h in
      let m : chars_at s c.at.offset ≡ mark ++ k.0 = left_is ∙ ap (λ (b : Bool). (if b then [] else mark) ++ k.0) o in
      ap (starts_with mark) m ∙ starts_self mark k.0

  pub upto_all : c.found ≡ false → chars_at s c.at.offset ≡ []
  upto_all h =
      let u = up_to mark (chars_at s p.offset) in
      let k = up_to_splits mark (chars_at s p.offset) in
      let o : u.open_end ≡ true = x.same ∙ ap not h in
      left_is ∙ ap (λ (b : Bool). (if b then [] else mark) ++ k.0) o ∙ k.2 o

  -- Past the mark.
  pub reach_mark : Flat mark → Reach s c.at (closing mark (up_to mark (chars_at s p.offset))) (behind_mark c (length mark))
  unfolding behind_mark
  reach_mark f = go c.found refl
    where
      go : (b : Bool) → c.found ≡ b → Reach s c.at (closing mark (up_to mark (chars_at s p.offset))) (if b then onward c.at (length mark) else c.at)
      go true h =
          subst (λ (o : Bool). Reach s c.at (if o then [] else mark) (onward c.at (length mark))) (sym (x.same ∙ ap not h))
          (flat_reach s c.at mark f x.reach.within (upto_closes h))
      go false h =
          subst (λ (o : Bool). Reach s c.at (if o then [] else mark) c.at) (sym (x.same ∙ ap not h))
          (reach_nil s c.at x.reach.within)

  pub upto_on : Flat mark → (end : Position) → end ≡ behind_mark c (length mark) → (c.at.offset ≤ end.offset) × (end.offset ≤ length s)
  upto_on f end e =
      let r = subst (λ (x : Position). Reach s c.at (closing mark (up_to mark (chars_at s p.offset))) x) (sym e) (reach_mark f) in
      (reach_on s c.at end _ r, r.within.inside)

-- ── From mark to mark ──

module _ (begin mark : Text) (s : List ℕ) (p q : Position) (c : Closing) (r : Reach s p begin q) (x : UpToAt mark s q c) where
  -- What stands behind the opening mark, as the rules say it.
  pub same_upto : up_to mark (drop (length begin) (chars_at s p.offset)) ≡ up_to mark (chars_at s q.offset)
  same_upto = ap (up_to mark) (reach_drop s p q begin r)

  pub enclosed : Flat mark
      → Reach s p
      (begin
      ++ ((up_to mark (drop (length begin) (chars_at s p.offset))).before
      ++ closing mark (up_to mark (drop (length begin) (chars_at s p.offset)))))
      (behind_mark c (length mark))
  enclosed f =
      let u = up_to mark (chars_at s q.offset) in
      subst (λ (v : Upto). Reach s p (begin ++ (v.before ++ closing mark v)) (behind_mark c (length mark))) (sym same_upto)
      (reach_join s p q (behind_mark c (length mark)) begin (u.before ++ closing mark u) r
      (reach_join s q c.at (behind_mark c (length mark)) u.before (closing mark u) x.reach (reach_mark mark s q c x f)))

-- A mark, and what stands behind it on its line.
pub line_reach : (begin : Text) (s : List ℕ) (p q : Position) (c : Closing) → Reach s p begin q → UpToAt feed s q c
    → Reach s p (begin ++ (run not_lf (drop (length begin) (chars_at s p.offset))).taken) c.at
line_reach begin s p q c r x =
    subst (λ (t : Text). Reach s p (begin ++ t) c.at)
    (sym (run_up_to (drop (length begin) (chars_at s p.offset)) ∙ ap (λ (u : Upto). u.before) (same_upto begin feed s p q c r x)))
    (reach_join s p q c.at begin (up_to feed (chars_at s q.offset)).before r x.reach)
