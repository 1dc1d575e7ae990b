-- Laws of `Reach`: from one position past characters to another. Assumes nothing.
use mathlib.Core.Path.{◌≡◌, refl, sym, ◌∙◌, ap}
use mathlib.Core.Bool.{true}
use mathlib.Core.List.{List, [], ◌∷◌, ◌++◌, append_assoc}
use Prim.Native.Nat.{ℕ, suc, ◌+◌, ◌≤◌, ◌<◌}
use lib.ListN.{length, get_or}
use native.Mathlib.Omega.{arith}
use native.Mathlib.Nat.{add-zero}
use native.Mathlib.Numerals.{add-one}
use borrow.Author.Tests.{eqb-true, eq-eqb, ne_eqb}
use Rattle.characters.specs.Choice.{◌is◌}
use Rattle.characters.specs.Utf8.{decode_at, chars_at, width, bytes, is_valid}
use Rattle.characters.specs.Valid.{bad_from}
use Rattle.characters.specs.declared.Decoded.TheVariants.{Code}
use Rattle.characters.proofs.Choice.{if_all}
use Rattle.characters.proofs.Decoding.{placed_code, decode_ascii}
use Rattle.characters.proofs.Characters.{chars_code, bad_code}
use Rattle.characters.proofs.Widths.{width_one, width_bounds}
use Rattle.spans.specs.declared.Position.{Position}
use Rattle.rules.specs.Text.{Text, LF}
use Rattle.rules.specs.Scan.{next, starts_with, Part}
use Rattle.rules.specs.Lexer.{advance, advances}
use Rattle.rules.specs.Script.{LIMIT}
use Rattle.rules.proofs.Placed.{advances_offset}
use Rattle.bridge.specs.Bridge.{Within, Fits, Reach, onward, exactly, Flat, Cut}
use Rattle.bridge.proofs.Tests.{low_is}
use Rattle.bridge.proofs.Bytes.{next_cons, starts_first, starts_rest, starts_self}
use Rattle.bridge.proofs.Cuts.{cut_length}

-- ── Positions ──

pub advances_append : (p : Position) (t u : Text) → advances p (t ++ u) ≡ advances (advances p t) u
unfolding advances
advances_append p [] u = refl
advances_append p (c ∷ t) u = advances_append (advance p c) t u

module _ (p : Position) (c : ℕ) where
  pub advance_offset : (advance p c).offset ≡ p.offset + width c
  unfolding advance
  advance_offset = if_all (λ (x : Position). x.offset ≡ p.offset + width c) (c is LF) (λ _. refl) (λ _. refl)

  pub advance_line : (advance p c).line ≤ p.line + 1
  unfolding advance
  advance_line = if_all (λ (x : Position). x.line ≤ p.line + 1) (c is LF) (λ _. omega arith) (λ _. omega arith)

  pub advance_col : (advance p c).col ≤ p.col + 1
  unfolding advance
  advance_col = if_all (λ (x : Position). x.col ≤ p.col + 1) (c is LF) (λ _. omega arith) (λ _. omega arith)

-- Past a line feed, and past another character, of `n` bytes.
pub advance_feed : (p : Position) (c n : ℕ) → n ≡ width c → c ≡ LF
    → record { offset = p.offset + n; line = p.line + 1; col = 1 } ≡ advance p c
unfolding advance
advance_feed p c n w e = rw (w, eq-eqb c LF e, add-one p.line)

pub advance_along : (p : Position) (c n : ℕ) → n ≡ width c → (c ≡ LF → ⊥)
    → record { offset = p.offset + n; line = p.line; col = p.col + 1 } ≡ advance p c
unfolding advance
advance_along p c n w e = rw (w, ne_eqb c LF e, add-one p.col)

-- In a text there is room for as many bytes more.
pub within_fits : (s : List ℕ) (p : Position) (n : ℕ) → Within s p → n ≤ LIMIT → Fits p n
within_fits s p n w h = let z = w.size in let i = w.inside in record { places = omega arith; lines = w.lines; columns = w.columns }

-- ── Reaches one after the other ──

pub reach_nil : (s : List ℕ) (p : Position) → Within s p → Reach s p [] p
unfolding advances
reach_nil s p w = record { chars = refl; moved = refl; within = w }

pub reach_join : (s : List ℕ) (p q r : Position) (t u : Text) → Reach s p t q → Reach s q u r → Reach s p (t ++ u) r
reach_join s p q r t u x y =
    record {
      chars = x.chars ∙ (ap (λ (v : Text). t ++ v) y.chars ∙ sym (append_assoc t u (chars_at s r.offset)));
      moved = y.moved ∙ (ap (λ (v : Position). advances v u) x.moved ∙ sym (advances_append p t u));
      within = y.within;
    }

-- Lines and columns do not outgrow the offsets.
advances_few : (p : Position) (t : Text) → p.line ≤ p.offset + 1 → p.col ≤ p.offset + 2
    → ((advances p t).line ≤ (advances p t).offset + 1) × ((advances p t).col ≤ (advances p t).offset + 2)
unfolding advances
advances_few p [] l k = (l, k)
advances_few p (c ∷ t) l k =
    advances_few (advance p c) t (omega (arith, advance_line p c, advance_offset p c, width_bounds c))
    (omega (arith, advance_col p c, advance_offset p c, width_bounds c))

-- The same characters from another position at the same place.
pub reach_again : (s : List ℕ) (p q p' : Position) (t : Text) → Reach s p t q → p'.offset ≡ p.offset → Within s p'
    → Reach s p' t (advances p' t) × ((advances p' t).offset ≡ q.offset)
reach_again s p q p' t r e w =
    let o : (advances p' t).offset ≡ q.offset
    = advances_offset p' t ∙ (ap (λ (n : ℕ). n + bytes t) e ∙ (sym (advances_offset p t) ∙ ap (λ (v : Position). v.offset) (sym r.moved))) in
    let f = advances_few p' t w.lines w.columns in (
      record {
        chars = ap (chars_at s) e ∙ (r.chars ∙ ap (λ (n : ℕ). t ++ chars_at s n) (sym o));
        moved = refl;
        within = record {
          size = w.size;
          inside = omega (arith, o, r.within.inside);
          valid = ap (λ (n : ℕ). is_valid (bad_from s n)) o ∙ r.within.valid;
          lines = f.0;
          columns = f.1;
        };
      },
      o,
    )

-- The position after a decoded character.
pub next_char : (s : List ℕ) (p q : Position) (c n : ℕ) → Within s p → decode_at s p.offset ≡ Code c n → q ≡ advance p c
    → Reach s p (c ∷ []) q × (p.offset < q.offset)
unfolding advances
next_char s p q c n w e m =
    let d = placed_code s p.offset c n e in
    let x : q.offset ≡ p.offset + n = ap (λ (v : Position). v.offset) m ∙ (advance_offset p c ∙ rw (← d.width_is)) in
    let l : q.line ≤ p.line + 1 = rw (ap (λ (v : Position). v.line) m) (advance_line p c) in
    let k : q.col ≤ p.col + 1 = rw (ap (λ (v : Position). v.col) m) (advance_col p c) in (
      record {
        chars = chars_code s p.offset c n e ∙ ap (λ (i : ℕ). c ∷ chars_at s i) (sym x);
        moved = m;
        within = record {
          size = w.size;
          inside = omega arith;
          valid = ap is_valid (ap (bad_from s) x ∙ sym (bad_code s p.offset c n e)) ∙ w.valid;
          lines = omega arith;
          columns = omega arith;
        };
      },
      omega arith,
    )

-- ── Marks and words as positions ──

pub onward_zero : (p : Position) → p ≡ onward p 0
onward_zero p = rw (add-zero p.offset, add-zero p.col)

pub onward_suc : (p : Position) (n : ℕ) → onward (onward p 1) n ≡ onward p (suc n)
onward_suc p n =
    let a : p.offset + 1 + n ≡ p.offset + suc n = omega arith in
    let b : p.col + 1 + n ≡ p.col + suc n = omega arith in
    rw (a, b)

-- A flat character moves one column on.
pub advance_flat : (p : Position) (c : ℕ) → 11 ≤ c → c ≤ 0x7F → advance p c ≡ onward p 1
unfolding advance
advance_flat p c l u =
    let a : suc p.col ≡ p.col + 1 = omega arith in
    rw (ne_eqb c 10 (λ x. omega arith), width_one c u, a)

-- A flat text moves as many columns on as it has characters.
pub advances_flat : (p : Position) (t : Text) → Flat t → advances p t ≡ onward p (length t)
unfolding advances
advances_flat p [] f = onward_zero p
advances_flat p (c ∷ t) f =
    ap (λ (q : Position). advances q t) (advance_flat p c f.0 f.1)
    ∙ (advances_flat (onward p 1) t f.2 ∙ onward_suc p (length t))

-- One flat character.
pub one_on : (s : List ℕ) (p : Position) (c : ℕ) → 11 ≤ c → c ≤ 0x7F → Within s p
    → next (exactly c) (chars_at s p.offset) ≡ true → Reach s p (c ∷ []) (onward p 1)
one_on s p c l u w e =
    let b = next_cons (exactly c) (low_is 1 c (omega arith) u) s p.offset e in
    let g = eqb-true (get_or s p.offset 0) c b.2 in
    let d : decode_at s p.offset ≡ Code c 1 = rw g at (decode_ascii s p.offset b.0 (omega arith)) in
    (next_char s p (onward p 1) c 1 w d (sym (advance_flat p c l u))).0

-- A flat text that stands at a position.
pub flat_reach : (s : List ℕ) (p : Position) (t : Text) → Flat t → Within s p → starts_with t (chars_at s p.offset) ≡ true
    → Reach s p t (onward p (length t))
flat_reach s p [] f w e = rw (← (onward_zero p)) (reach_nil s p w)
flat_reach s p (c ∷ t) f w e =
    let r = one_on s p c f.0 f.1 w (starts_first c t (chars_at s p.offset) e) in
    let e₁ : starts_with t (chars_at s (p.offset + 1)) ≡ true =
    starts_rest c c t (chars_at s (p.offset + 1)) (rw r.chars at e) in
    rw (← (onward_suc p (length t)))
    (reach_join s p (onward p 1) (onward (onward p 1) (length t)) (c ∷ []) t r (flat_reach s (onward p 1) t f.2 r.within e₁))

-- A word that stands at a position.
pub word_reach : (s : List ℕ) (p : Position) (t : Text) (n : ℕ) → Flat t → Within s p
    → chars_at s p.offset ≡ t ++ chars_at s (p.offset + n) → length t ≡ n → Reach s p t (onward p n)
word_reach s p t n f w e l =
    rw (← l) (flat_reach s p t f w (rw e (starts_self t (chars_at s (p.offset + n)))))

-- A part of one line that is cut at a position.
pub cut_reach : (s : List ℕ) (p : Position) (a : Part) (n : ℕ) → Within s p → Cut s p.offset a (p.offset + n)
    → Reach s p a.taken (onward p n)
cut_reach s p a n w k =
    let l : length a.taken ≡ n = omega (arith, cut_length s p.offset (p.offset + n) a k) in
    word_reach s p a.taken n k.flat w k.whole l
