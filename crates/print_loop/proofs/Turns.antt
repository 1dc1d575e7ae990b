-- One turn of a print's loop. Assumes nothing.
use mathlib.Core.Path.{◌≡◌, refl, sym, ap, ◌∙◌, subst}
use mathlib.Core.Bool.{Bool, true, false}
use mathlib.Core.List.{List, [], ◌∷◌, ◌++◌, append_assoc}
use Prim.Native.Nat.{ℕ, ◌≤◌}
use native.Mathlib.Omega.{arith}
use lib.ListN.{length}
use Rattle.characters.specs.Utf8.{chars_at}
use Rattle.rules.specs.Text.{Text, Char}
use Rattle.rules.specs.Scan.{next}
use Rattle.rules.specs.Tokens.{TokenizeError}
use Rattle.rules.specs.Segment.{Segment}
use Rattle.rules.specs.Marks.{unexpected}
use Rattle.rules.specs.Lexer.{segment, errors_of, Lexed, after, lex}
use Rattle.rules.proofs.Front.{segment_takes}
use Rattle.cursor.specs.Cursor.{left}
use Rattle.cursor.specs.declared.Cursor.TheVariants.{Outside}
use Rattle.cursor.proofs.Inside.{lex_step}
use Rattle.cursor.proofs.Steps.{left_end}
use Rattle.bridge.specs.Bridge.{placed}
use Rattle.multiline.specs.Tokens.{begins_nothing}
use Rattle.multiline.proofs.BeginsNothing.{unexpected_segment}
use Rattle.skipping.proofs.Stops.{kept_white}
use Rattle.word_tokens.proofs.Others.{other_nothing}
use Rattle.output.specs.Writing.{Put}
use Rattle.output.proofs.Buffers.{put_then}
use Rattle.prints.specs.Writing.{outside, closing_quote, due_space, write_tokens}
use Rattle.print_places.specs.Places.{lexed_from, still, still_of, no_errors, right_from, Emits}
use Rattle.print_places.specs.declared.Written.{Written}
use Rattle.print_skips.specs.Gaps.{Passed}
use Rattle.print_loop.specs.Loops.{Nothing, Ended, Goes, Ends}

-- ── An element ──

pub due_length : (due : Bool) → length (due_space due) ≤ 1
unfolding due_space
due_length true = omega arith
due_length false = omega arith

module _ (s : List ℕ) (from start : ℕ) (k : Passed s from start) (due : Bool) (out mid out' : List ℕ) (at place : ℕ)
    (p : Put out mid at (due_space due) place) where
  pub emitted_goes : (w : Written) (due' : Bool) → Emits due' s start mid out' place w → Goes s from due out out' at w due'
  emitted_goes w due' e =
      let S = still s (outside due') w.at in
      record {
        bytes = due_space due ++ e.bytes;
        put = put_then out mid out' at place w.out (due_space due) e.bytes p e.put;
        same = k.same (outside due) ∙ (e.same due ∙ sym (append_assoc (due_space due) e.bytes S));
        right = k.right ∙ e.right;
        within = e.within;
        forth = omega (arith, k.forth, e.forth);
        small = omega (arith, k.forth, e.forth, e.small, p.place, due_length due);
      }

-- ── The end of the text, and a character that begins nothing ──

pub nothing_left : (s : List ℕ) (from : ℕ) → chars_at s from ≡ [] → Ended s from
nothing_left s from e =
    let same : lexed_from s from ≡ record { body = []; errors = []; open_end = false; stop = placed from }
    = ap (left (Outside (placed from))) e ∙ left_end (placed from) in
    record {
      right = ap (λ (l : Lexed). no_errors l.errors) same ∙ none;
      all = λ due. ap (still_of s (outside due)) same ∙ ended due;
    }
  where
    none : no_errors [] ≡ true
    none = unfold no_errors in refl

    ended : (due : Bool) → still_of s (outside due) (record { body = []; errors = []; open_end = false; stop = placed from }) ≡ []
    ended due = unfold still_of write_tokens closing_quote in refl

module _ (s : List ℕ) (from : ℕ) (n : Nothing s from) (c : Char) (cs : Text) (e : chars_at s from ≡ c ∷ cs) where
  begins : begins_nothing c ≡ true
  unfolding next
  begins = subst (λ (l : Text). next begins_nothing l ≡ true) e (other_nothing s from c cs e (kept_white (chars_at s from) n.kept) n.class_is)

  some_error : (g : Segment) (rest : List TokenizeError) → g ≡ unexpected c → no_errors (errors_of (placed from) g g.faults ++ rest) ≡ false
  unfolding unexpected errors_of no_errors
  some_error g rest f = rw f

  pub unexpected_wrong : right_from s from ≡ false
  unfolding left
  unexpected_wrong =
      let g = segment (c ∷ cs) in
      ap (λ (l : Text). no_errors (lex 0 (placed from) l).errors) e
      ∙ (ap (λ (l : Lexed). no_errors l.errors) (lex_step (placed from) c cs)
      ∙ some_error g (lex 0 (after (placed from) g) (segment_takes c cs).rest).errors (unexpected_segment c cs begins))

-- ── A turn without an element ──

-- The end behind what was skipped.
pub end_turn : (s : List ℕ) (from start : ℕ) → Passed s from start → (due : Bool) (out : List ℕ) → Ended s start → Ends s from due out out
end_turn s from start k due out w = record { kept = refl; right = k.right ∙ w.right; all = k.same (outside due) ∙ w.all due }
