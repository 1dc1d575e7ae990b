-- Laws of what stands between the quotes of a character literal, at positions of a text. Assumes nothing.
use Rattle.std.specs.Prelude.{Option, Some, None, unwrap_or}
use mathlib.Core.Path.{◌≡◌, refl, sym, ◌∙◌, ap, subst}
use mathlib.Core.Bool.{true, false}
use mathlib.Core.List.{List, [], ◌∷◌}
use mathlib.Core.Option.{none, some}
use Prim.Native.Nat.{ℕ, ◌+◌, ◌≤◌, ◌<◌}
use lib.ListN.{drop}
use native.Mathlib.Omega.{arith}
use borrow.Author.Tests.{eq-eqb, ne_eqb}
use Rattle.characters.specs.Utf8.{chars_at, Scalars, width, bytes}
use Rattle.characters.proofs.Widths.{scalar_bounds}
use Rattle.characters.proofs.Characters.{chars_at_lem}
use Rattle.characters.proofs.Texts.{chars_scalar}
use Rattle.spans.specs.declared.Position.{Position}
use Rattle.rules.specs.Text.{Text}
use Rattle.rules.specs.Tables.{ESCAPES, lookup}
use Rattle.rules.specs.Strings.{plain_escape, escape}
use Rattle.cursor.specs.Strings.{StringUnit, plain_unit}
use Rattle.bridge.specs.Bridge.{value_of, Within, Reach}
use Rattle.bridge.proofs.Reaches.{reach_nil, reach_join}
use Rattle.walks.proofs.Enclosed.{reach_offset}
use Rattle.string_units.specs.declared.Made.TheVariants as made
use Rattle.string_units.specs.declared.Unit as code
use Rattle.string_units.specs.Units.{unicode_unit, UnitAt}
use Rattle.bridge.proofs.Values.{value_some, value_none}
use Rattle.escapes.proofs.Letters.{escape_small}
use Rattle.string_units.proofs.UnitLaws.{char_unit, no_error, plain_unit_lem}
use Rattle.characters.proofs.Widths.{width_one}
use Rattle.letters.specs.Letters.{escape_letter, letter_of, runs_out}

-- A character of a text can be encoded.
pub char_bound : (s : List ℕ) (at c : ℕ) (cs : Text) → chars_at s at ≡ c ∷ cs → c ≤ 0x10FFFF
char_bound s at c cs e = (scalar_bounds c (subst Scalars (sym (chars_at_lem s at) ∙ e) (chars_scalar (drop at s))).0).0

-- ── Escapes ──

pub letter_unicode : (e : ℕ) (cs : Text) → e ≡ 117 → escape_letter e cs ≡ unicode_unit cs
unfolding escape_letter unicode_unit escape
letter_unicode e cs x = rw x

module _ (s : List ℕ) (p r : Position) (e : ℕ) (k : Reach s p (92 ∷ e ∷ []) r) (cs : Text) (n : e ≡ 117 → ⊥) where
  two_on : r.offset ≡ p.offset + (1 + (width e + 0))
  unfolding bytes width
  two_on = reach_offset s p r (92 ∷ e ∷ []) k

  made_one : (c : ℕ) → c ≤ 0x10FFFF → p.offset + width c ≤ r.offset → p.offset < r.offset
      → UnitAt s p (record { chars = 92 ∷ e ∷ []; made = c ∷ []; faults = [] }) (record { next = r; made = made.Char c; mistake = None })
  made_one c l w h =
      char_unit s p r (record { chars = 92 ∷ e ∷ []; made = c ∷ []; faults = [] }) None k h (no_error p (92 ∷ e ∷ []) (c ∷ [])) c refl l w

  -- A letter that is no escape's stands for itself.
  pub letter_itself : e ≤ 0x10FFFF → lookup e ESCAPES ≡ none
      → UnitAt s p (escape_letter e cs) (record { next = r; made = made.Char e; mistake = None })
  unfolding escape_letter escape plain_escape
  letter_itself l y = let o = two_on in rw (ne_eqb e 117 n, y) (made_one e l (omega arith) (omega arith))

  pub letter_escape : (v : ℕ) → lookup e ESCAPES ≡ some v
      → UnitAt s p (escape_letter e cs) (record { next = r; made = made.Char v; mistake = None })
  unfolding escape_letter escape plain_escape
  letter_escape v y =
      let o = two_on in
      let l = escape_small e v y in
      let w = width_one v l in
      rw (ne_eqb e 117 n, y) (made_one v (omega arith) (omega arith) (omega arith))

  -- The letter `v` that an escape stands for, or its own.
  pub letter_or : (o : Option ℕ) (v : ℕ) → e ≤ 0x10FFFF → o ≡ value_of (lookup e ESCAPES) → v ≡ unwrap_or o e
      → UnitAt s p (escape_letter e cs) (record { next = r; made = made.Char v; mistake = None })
  letter_or None v l f g = rw g (letter_itself l (value_none (lookup e ESCAPES) (sym f)))
  letter_or (Some x) v l f g = rw g (letter_escape x (value_some (lookup e ESCAPES) x (sym f)))

-- ── What stands behind the opening quote ──

pub ends_now : (s : List ℕ) (p : Position) → Within s p → chars_at s p.offset ≡ []
    → (runs_out (chars_at s p.offset) ≡ true) × Reach s p (chars_at s p.offset) p × (chars_at s p.offset ≡ [])
unfolding runs_out
ends_now s p w e = (rw e, subst (λ (t : Text). Reach s p t p) (sym e) (reach_nil s p w), e)

module _ (s : List ℕ) (p q : Position) (c : ℕ) (r : Reach s p (c ∷ []) q) where
  pub ends_behind : c ≡ 92 → chars_at s q.offset ≡ []
      → (runs_out (chars_at s p.offset) ≡ true) × Reach s p (chars_at s p.offset) q × (chars_at s q.offset ≡ [])
  unfolding runs_out
  ends_behind x e =
      let t : chars_at s p.offset ≡ c ∷ [] = r.chars ∙ ap (λ (l : Text). c ∷ l) e in
      (ap runs_out t ∙ eq-eqb c 92 x, subst (λ (l : Text). Reach s p l q) (sym t) r, e)

  plain_is : (cs : Text) → (c ≡ 92 → ⊥) → (runs_out (c ∷ cs) ≡ false) × (letter_of (c ∷ cs) ≡ plain_unit c)
  unfolding runs_out letter_of
  plain_is [] n = (ne_eqb c 92 n, refl)
  plain_is (d ∷ cs) n = (refl, rw (ne_eqb c 92 n))

  pub letter_plain : Within s p → p.offset < q.offset → (c ≡ 92 → ⊥)
      → (runs_out (chars_at s p.offset) ≡ false) × UnitAt s p (letter_of (chars_at s p.offset)) (record { next = q; made = made.Own; mistake = None })
  letter_plain w h n =
      let x = plain_is (chars_at s q.offset) n in (
        ap runs_out r.chars ∙ x.0,
        subst (λ (u : StringUnit). UnitAt s p u (record { next = q; made = made.Own; mistake = None })) (sym (ap letter_of r.chars ∙ x.1)) (plain_unit_lem s p q c w r h),
      )

  module _ (e : ℕ) (t : Position) (k : Reach s q (e ∷ []) t) (x : c ≡ 92) where
    pub back_two : Reach s p (92 ∷ e ∷ []) t
    back_two = subst (λ (d : ℕ). Reach s p (d ∷ e ∷ []) t) x (reach_join s p q t (c ∷ []) (e ∷ []) r k)

    pub letter_behind : (u : code.Unit) → UnitAt s p (escape_letter e (chars_at s t.offset)) u
        → (runs_out (chars_at s p.offset) ≡ false) × UnitAt s p (letter_of (chars_at s p.offset)) u
    unfolding runs_out letter_of
    letter_behind u y =
        let l : chars_at s p.offset ≡ c ∷ e ∷ chars_at s t.offset = r.chars ∙ ap (λ (l : Text). c ∷ l) k.chars in
        let b = eq-eqb c 92 x in
        (ap runs_out l, subst (λ (v : StringUnit). UnitAt s p v u) (sym (ap letter_of l ∙ rw b)) y)
