-- White space and comments, passed by their places. Assumes nothing.
use Rattle.std.specs.Prelude.{if◌then◌else◌}
use mathlib.Core.Path.{◌≡◌, refl, sym, ◌∙◌, ap, subst}
use mathlib.Core.Bool.{Bool, true, false}
use mathlib.Core.List.{List, [], ◌∷◌}
use Prim.Native.Nat.{ℕ, ◌+◌, ◌<◌}
use lib.ListN.{get_or}
use native.Mathlib.Omega.{arith}
use borrow.Author.Tests.{ne_eqb, lt-leb}
use Rattle.characters.specs.Choice.{◌is◌, within}
use Rattle.characters.specs.Space.{is_white}
use Rattle.characters.specs.Utf8.{chars_at}
use Rattle.characters.proofs.Widths.{width_one}
use Rattle.spans.specs.declared.Position.{Position}
use Rattle.rules.specs.Text.{is_digit, is_letter, is_ident_start}
use Rattle.rules.specs.Scan.{next}
use Rattle.rules.specs.Tables.{UnterminatedBlockComment}
use Rattle.rules.specs.Lexer.{advance, skip}
use Rattle.cursor.specs.Cursor.{left}
use Rattle.cursor.specs.declared.Cursor.TheVariants.{Outside}
use Rattle.bridge.specs.Bridge.{placed, Within, Reach, exactly}
use Rattle.bridge.proofs.Tests.{low_is}
use Rattle.bridge.proofs.Bytes.{byte_next}
use Rattle.bridge.proofs.Reaches.{advance_offset}
use Rattle.lexemes.proofs.Lists.{all_below, below}
use Rattle.classes.specs.Classes.{OTHER, SLASH, SPACE, mark_chars, place_from, class_of}
use Rattle.classes.proofs.Laws.{class_low}
use Rattle.walks.specs.Openings.{opens_line, opens_block}
use Rattle.walks.specs.Errors.{unclosed}
use Rattle.walks.specs.declared.Closing.{Closing}
use Rattle.walks.proofs.Starts.{starts_no}
use Rattle.walks.proofs.Errors.{unclosed_one}
use Rattle.skipping.specs.Skips.{PastComment}
use Rattle.skipping.proofs.Slashes.{slash, line_no, block_no}
use Rattle.skipping.proofs.Stops.{stops_here}
use Rattle.skipping.proofs.Skips as skips
use Rattle.print_places.specs.Places.{lexed_from, no_errors, right_from}
use Rattle.print_places.proofs.Tokens.{wrong_some, none_still, none_right}
use Rattle.print_places.proofs.Elements.{within_placed, still_placed, right_placed}
use Rattle.print_skips.specs.Gaps.{Passed, Skipped}

-- ── One after another ──

pub passed_none : (s : List ℕ) (at : ℕ) → Within s (placed at) → Passed s at at
passed_none s at w = record { same = λ state. refl; right = refl; within = w; forth = omega arith }

pub passed_join : (s : List ℕ) (from mid to : ℕ) → Passed s from mid → Passed s mid to → Passed s from to
passed_join s from mid to x y =
    record {
      same = λ state. x.same state ∙ y.same state;
      right = x.right ∙ y.right;
      within = y.within;
      forth = omega (arith, x.forth, y.forth);
    }

-- What yields nothing is passed.
gap_passed : (s : List ℕ) (from : ℕ) (q : Position) → skips.Gap s (placed from) q → Passed s from q.offset
gap_passed s from q g =
    let r = left (Outside q) (chars_at s q.offset) in
    record {
      same = λ state. none_still s state [] false (lexed_from s from) r g.yields ∙ still_placed s state q;
      right = none_right [] false (lexed_from s from) r g.yields refl ∙ right_placed s q;
      within = within_placed s q g.within;
      forth = g.forth;
    }

-- ── White space ──

-- One character.
pub white_passed : (s : List ℕ) (from c : ℕ) (q : Position) → Reach s (placed from) (c ∷ []) q → from < q.offset → is_white c ≡ true
    → Passed s from q.offset
white_passed s from c q r h w =
    subst (Passed s from) (skips.behind_offset s (placed from) q c r)
    (gap_passed s from (skip (placed from) c) (skips.white_gap s (placed from) q c r w h))

-- The class of white space, by one test at the characters of ASCII.
space_test : all_below (λ b. if class_of b is SPACE then is_white b else true) 128 ≡ true
unfolding all_below class_of is_white is_digit is_ident_start is_letter place_from mark_chars within
space_test = refl

space_white : (b : ℕ) → class_of b ≡ SPACE → is_white b ≡ true
space_white b e =
    let t = below (λ b. if class_of b is SPACE then is_white b else true) 128 space_test b (class_low b (omega (arith, e))) in
    rw e at t

white_space_lem : (b : ℕ) → b < 128 → is_white b ≡ true → class_of b ≡ SPACE
unfolding class_of
white_space_lem b l e = rw (lt-leb 128 b l, e)

not_space : (b : ℕ) → b < 128 → (class_of b ≡ SPACE → ⊥) → is_white b ≡ false
not_space b l n = go (is_white b) refl
  where
    go : (x : Bool) → is_white b ≡ x → is_white b ≡ false
    go true e = absurd (n (white_space_lem b l e))
    go false e = e

module _ (s : List ℕ) (at : ℕ) (w : Within s (placed at)) where
  -- One byte of it.
  pub space_passed : class_of (get_or s at 0) ≡ SPACE → Passed s at (at + 1)
  space_passed e =
      let b = get_or s at 0 in
      let l = class_low b (omega (arith, e)) in
      let t = space_white b e in
      let q = advance (placed at) b in
      let (r, h) = skips.byte_reach s (placed at) w (omega arith) q t refl in
      let n : q.offset ≡ at + 1 = advance_offset (placed at) b ∙ ap (λ (k : ℕ). at + k) (width_one b (omega arith)) in
      subst (Passed s at) n (white_passed s at b q r h t)

  -- None stands at a byte of another class.
  pub class_stops : (class_of (get_or s at 0) ≡ OTHER → ⊥) → (class_of (get_or s at 0) ≡ SPACE → ⊥) → next is_white (chars_at s at) ≡ false
  class_stops o n =
      let b = get_or s at 0 in
      let l : b < 128 = class_low b (omega (arith, o)) in
      skips.byte_none s (placed at) w (omega arith) (not_space b l n)

-- ── Comments ──

module _ (s : List ℕ) (from : ℕ) (c : Closing) (x : PastComment s (placed from) c) where
  pub comment_wrong : c.found ≡ false → right_from s from ≡ false
  unfolding no_errors
  comment_wrong e =
      wrong_some [] (unclosed false UnterminatedBlockComment (placed from) c.at) true (lexed_from s from) (left (Outside c.at) (chars_at s c.at.offset))
      (skips.comment_yields_by s (placed from) c x false e)
      (ap no_errors (unclosed_one false UnterminatedBlockComment (placed from) c.at refl))

  pub comment_passed : c.found ≡ true → Passed s from c.at.offset × (from < c.at.offset)
  comment_passed e = (gap_passed s from c.at (skips.comment_gap s (placed from) c x e), x.forth)

-- ── The end ──

-- Nothing that is passed stands there.
pub skipped_all : (s : List ℕ) (from at k : ℕ) → Passed s from at → k ≡ class_of (get_or s at 0) → next is_white (chars_at s at) ≡ false
    → opens_line (chars_at s at) ≡ false → opens_block (chars_at s at) ≡ false → Skipped s from (record { at = at; class = k })
skipped_all s from at k x c w l b = record { passed = x; class_is = c; stops = stops_here (chars_at s at) w l b }

-- No comment begins without a slash.
pub skipped_other : (s : List ℕ) (from at k : ℕ) → Passed s from at → k ≡ class_of (get_or s at 0) → next is_white (chars_at s at) ≡ false
    → (k ≡ SLASH → ⊥) → Skipped s from (record { at = at; class = k })
skipped_other s from at k x c w d =
    let e : get_or s at 0 ≡ 47 → ⊥ = λ z. d (c ∙ (ap class_of z ∙ slash_class)) in
    let n : next (exactly 47) (chars_at s at) ≡ false = byte_next (exactly 47) (low_is 1 47 (omega arith) (omega arith)) s at ∙ ne_eqb (get_or s at 0) 47 e in
    skipped_all s from at k x c w (sym (line_no s at (starts_no s at 47 slash (47 ∷ []) n))) (sym (block_no s at (starts_no s at 47 slash (42 ∷ []) n)))
  where
    slash_class : class_of 47 ≡ SLASH
    slash_class = unfold class_of is_white is_digit is_ident_start is_letter place_from mark_chars within in refl
