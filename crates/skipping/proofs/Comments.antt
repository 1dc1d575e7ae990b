-- Comments that are skipped, by what the walks found. Assumes nothing.
use Rattle.std.specs.Prelude.{if◌then◌else◌}
use mathlib.Core.Path.{◌≡◌, refl, sym, ◌∙◌, ap, subst}
use mathlib.Core.Bool.{Bool, true, false, not, true≢false}
use mathlib.Core.List.{List, []}
use Prim.Native.Nat.{ℕ}
use lib.ListN.{drop}
use native.Mathlib.Omega.{arith}
use Rattle.characters.specs.Utf8.{chars_at}
use Rattle.characters.proofs.Choice.{and_both}
use Rattle.spans.specs.declared.Position.{Position}
use Rattle.rules.specs.Text.{Text, text}
use Rattle.rules.specs.Scan.{starts_with, Upto, up_to}
use Rattle.rules.specs.Tables.{UnterminatedBlockComment}
use Rattle.rules.specs.Segment.{Segment}
use Rattle.rules.specs.Comments.{line_comment, block_comment}
use Rattle.rules.specs.Lexer.{errors_of}
use Rattle.bridge.specs.Bridge.{Reach, onward}
use Rattle.walks.specs.Walks.{star_slash, feed, UpToAt, behind_mark}
use Rattle.walks.specs.Openings.{opens_line, opens_doc, opens_block}
use Rattle.skipping.specs.Skips.{PastComment}
use Rattle.walks.specs.declared.Closing.{Closing}
use Rattle.walks.proofs.Openings.{line_segment, block_segment}
use Rattle.walks.proofs.Enclosed.{upto_all, same_upto, enclosed, line_reach}
use Rattle.walks.proofs.Errors.{closed_none}
use Rattle.walks.proofs.Whole.{reach_forth, whole_error}

pub behind_all : (mark : Text) (s : List ℕ) (p : Position) (c : Closing) (n : ℕ) → UpToAt mark s p c → c.found ≡ false
    → chars_at s (behind_mark c n).offset ≡ []
unfolding behind_mark
behind_all mark s p c n x e =
    ap (λ (b : Bool). chars_at s (if b then onward c.at n else c.at).offset) e ∙ upto_all mark s p c x e

-- The marks that comments begin with.
pub line_starts : (cs : Text) → opens_line cs ≡ true → starts_with (text "//") cs ≡ true
unfolding opens_line
line_starts cs e = (and_both (starts_with (text "//") cs) (not (starts_with (text "///") cs)) e).0

pub block_starts : (cs : Text) → opens_block cs ≡ true → starts_with (text "/*") cs ≡ true
unfolding opens_block
block_starts cs e = (and_both (starts_with (text "/*") cs) (not (opens_doc cs)) e).0

module _ (s : List ℕ) (p q : Position) (c : Closing) where
  pub line_past : opens_line (chars_at s p.offset) ≡ true → Reach s p (text "//") q → UpToAt feed s q c
      → PastComment s p (record { at = c.at; found = true })
  unfolding line_comment errors_of
  line_past e b x =
      let g = line_segment (chars_at s p.offset) e in
      let r = line_reach (text "//") s p q c b x in
      record {
        sort = ap (λ (h : Segment). h.sort) g;
        tokens = ap (λ (h : Segment). h.pieces) g;
        errors = ap (λ (h : Segment). errors_of p h h.faults) g ∙ sym (closed_none true UnterminatedBlockComment p c.at refl);
        open_end = ap (λ (h : Segment). h.open_end) g;
        reach = subst (λ (h : Segment). Reach s p h.chars c.at) (sym g) r;
        forth = reach_forth s p c.at _ _ r;
        all = λ h. absurd (true≢false h);
      }

  pub block_past : opens_block (chars_at s p.offset) ≡ true → Reach s p (text "/*") q → UpToAt star_slash s q c
      → PastComment s p (record { at = behind_mark c 2; found = c.found })
  unfolding block_comment
  block_past e b x =
      let u = up_to star_slash (drop 2 (chars_at s p.offset)) in
      let g = block_segment (chars_at s p.offset) e in
      let r = enclosed (text "/*") star_slash s p q c b x (omega arith) in
      let o : u.open_end ≡ not c.found =
      ap (λ (v : Upto). v.open_end) (same_upto (text "/*") star_slash s p q c b x) ∙ x.same in
      record {
        sort = ap (λ (h : Segment). h.sort) g;
        tokens = ap (λ (h : Segment). h.pieces) g;
        errors = ap (λ (h : Segment). errors_of p h h.faults) g
            ∙ whole_error p (behind_mark c 2) (block_comment u) r.moved UnterminatedBlockComment c.found o refl;
        open_end = ap (λ (h : Segment). h.open_end) g ∙ o;
        reach = subst (λ (h : Segment). Reach s p h.chars (behind_mark c 2)) (sym g) r;
        forth = reach_forth s p (behind_mark c 2) _ _ r;
        all = behind_all star_slash s q c 2 x;
      }
