-- The characters of a part of a text, for callers that hand one over. Assumes nothing.
use mathlib.Core.Path.{◌≡◌, sym, ◌∙◌, ap, subst}
use mathlib.Core.List.{List, ◌++◌}
use Prim.Native.Nat.{ℕ, ◌+◌, ◌-◌, ◌≤◌}
use native.Mathlib.Nat.{add-sub_cancel_left}
use lib.ListN.{take, drop, length}
use lib.Seq.{slice}
use Rattle.characters.specs.Utf8.{Scalars, chars_at, chars_of, bytes}
use Rattle.characters.proofs.Characters.{chars_at_lem}
use Rattle.characters.proofs.Texts.{encode_chars, chars_scalar, scalars_split, chars_part, chars_slice}

module _ (s : List ℕ) (at : ℕ) (t rest : List ℕ) (e : chars_at s at ≡ t ++ rest) where
  scalars : Scalars t
  scalars = (scalars_split t rest (subst Scalars (sym (chars_at_lem s at) ∙ e) (chars_scalar (drop at s)))).0

  -- The part from a place on, past the characters `t`, has just these characters: as `slice`, and as the code's `&text[at..to]`.
  pub slice_chars : (to : ℕ) → at ≤ length s → to ≡ at + bytes t → chars_of (slice at to s) ≡ t
  slice_chars to h f =
      ap (λ (n : ℕ). chars_of (slice at n s)) f ∙ ap chars_of (chars_slice s at t rest h e) ∙ encode_chars t scalars

  pub part_chars : (to : ℕ) → to ≡ at + bytes t → chars_of (take (to - at) (drop at s)) ≡ t
  part_chars to f =
      ap (λ (n : ℕ). chars_of (take n (drop at s))) (ap (λ (n : ℕ). n - at) f ∙ add-sub_cancel_left at (bytes t))
      ∙ ap chars_of (chars_part s at t rest e)
      ∙ encode_chars t scalars
