-- Laws of the parts of a string's piece. Assumes nothing.
use Rattle.std.specs.Prelude.{Option, Some, None, is_some}
use mathlib.Core.Path.{◌≡◌, refl, sym, ◌∙◌, ap, ap₂, subst}
use mathlib.Core.Bool.{Bool, true, false, not, false≢true}
use mathlib.Core.List.{List, [], ◌∷◌, ◌++◌}
use Prim.Native.Nat.{ℕ, ◌+◌, ◌≤◌, ◌<◌}
use native.Mathlib.Omega.{arith}
use borrow.Author.Tests.{le-leb}
use lib.ListN.{length, take}
use lib.Seq.{slice}
use Rattle.characters.specs.Utf8.{chars_at, encode, encode_char}
use Rattle.characters.proofs.Texts.{bytes_least}
use Rattle.spans.specs.declared.Position.{Position}
use Rattle.rules.specs.Text.{Text, ch, is_empty}
use Rattle.rules.specs.Scan.{next}
use Rattle.rules.specs.Tokens.{TokenizeError}
use Rattle.rules.specs.Segment.{Fault, Segment, string, skipped}
use Rattle.rules.specs.Lexer.{advances, errors_of}
use Rattle.rules.proofs.Ahead.{is_eq}
use Rattle.rules.proofs.Placed.{advances_offset}
use Rattle.cursor.specs.Strings.{StringUnit, unit_of, stands, unit_errors, units_made, units_errors}
use Rattle.cursor.proofs.Units.{made_none, errors_none, ahead_stops, unit_made, unit_errors_lem, whole_unit}
use Rattle.bridge.specs.Bridge.{placed, Within, Reach, exactly, onward, RunEnd}
use Rattle.bridge.proofs.Reaches.{reach_again}
use Rattle.records.specs.Records.{head_bytes, error_record}
use Rattle.records.specs.Layout.{error_record_of, error_bytes}
use Rattle.escapes.specs.Escapes.{short_escape}
use Rattle.walks.proofs.Errors.{errors_size_lem}
use Rattle.string_units.specs.declared.Made.{Made}
use Rattle.string_units.specs.declared.Made.TheVariants as made
use Rattle.string_units.specs.declared.Mistake.{Mistake}
use Rattle.string_units.specs.declared.Mistake.TheVariants as mistake
use Rattle.string_units.specs.declared.Unit as code
use Rattle.string_units.specs.Units.{made_bytes, IsChar, mistakes, UnitAt}
use Rattle.string_runs.specs.Runs.{run_chars, run_made, run_errors, Units}
use Rattle.string_runs.proofs.RunLaws.{itself}
use Rattle.string_runs.proofs.Rows.{units_whole, units_plain, units_short, short_low}
use Rattle.text_parts.specs.Parts.{part_bytes, PartWithin}
use Rattle.text_parts.specs.Units.{part_of, text_left, GoesOn, NextAt}
use Rattle.text_parts.specs.declared.Part.{Part}
use Rattle.text_parts.specs.declared.Part.TheVariants as part
use Rattle.text_parts.specs.declared.units.Step.{Step}

-- ── Where no unit stands ──

-- At a quote.
quote_stands : (cs : Text) → next (exactly (ch "\"")) cs ≡ true → stands cs ≡ false
unfolding next stands
quote_stands [] e = refl
quote_stands (c ∷ cs) e = let q : c ≡ ch "\"" = is_eq c (ch "\"") e in rw q

pub quote_over : (s : List ℕ) (at : ℕ) → next (exactly (ch "\"")) (chars_at s at) ≡ true → stands (chars_at s at) ≡ false
quote_over s at e = quote_stands (chars_at s at) e

module _ (s : List ℕ) (p : Position) (h : stands (chars_at s p.offset) ≡ false) where
  pub units_over : run_made s p ≡ []
  units_over =
      ap (λ (k : ℕ). units_made k (chars_at s p.offset)) (ahead_stops (chars_at s p.offset) h) ∙ made_none (chars_at s p.offset)

  pub left_over : text_left s p ≡ []
  unfolding encode
  left_over = ap encode units_over

  pub errors_over : run_errors s p ≡ []
  errors_over =
      ap (λ (k : ℕ). units_errors k p (chars_at s p.offset)) (ahead_stops (chars_at s p.offset) h)
      ∙ errors_none p (chars_at s p.offset)

  pub chars_over : run_chars s p ≡ []
  chars_over = ap (λ (k : ℕ). take k (chars_at s p.offset)) (ahead_stops (chars_at s p.offset) h)

-- ── A part more ──

pub next_left : (s : List ℕ) (p : Position) (r : Step) (g : GoesOn s p r) → text_left s p ≡ part_bytes s r.part ++ text_left s g.end
next_left s p r g = g.units.made

-- ── What a unit makes ──

part_made : (s : List ℕ) (from to : ℕ) (m : Made) → part_bytes s (part_of from to m) ≡ made_bytes s from to m
part_made s from to made.Nothing = refl
part_made s from to made.Own = refl
part_made s from to (made.Char c) = refl

part_inside : (s : List ℕ) (from to : ℕ) (m : Made) → from < to → to ≤ length s → IsChar m → PartWithin s (part_of from to m)
part_inside s from to made.Nothing h i k = tt
part_inside s from to made.Own h i k = (h, i)
part_inside s from to (made.Char c) h i k = k

-- ── The errors of a unit ──

-- Whether there are some does not depend on where it stands.
errors_empty : (p q : Position) (g : Segment) (xs : List Fault) → is_empty (error_bytes (errors_of p g xs)) ≡ is_empty (error_bytes (errors_of q g xs))
unfolding errors_of error_bytes error_record_of error_record head_bytes is_empty
errors_empty p q g [] = refl
errors_empty p q g (x ∷ xs) = refl

unit_empty : (p q : Position) (u : StringUnit) → is_empty (error_bytes (unit_errors p u)) ≡ is_empty (error_bytes (unit_errors q u))
unfolding unit_errors
unit_empty p q u = errors_empty p q (skipped string u.chars u.faults false) u.faults

bad_noted : (p : Position) (m : Option Mistake) → is_some m ≡ not (is_empty (error_bytes (mistakes p m)))
unfolding error_bytes error_record_of error_record head_bytes is_empty
bad_noted p None = refl
bad_noted p (Some mistake.BadUnicode) = refl
bad_noted p (Some (mistake.BadEscape e)) = refl

-- ── The kinds of parts ──

pub plain_on : (s : List ℕ) (from to : ℕ) → RunEnd itself s from to → from < to → NextAt s from (Some (record { part = part.Bytes from to; at = to; plain = true; bad = false }))
unfolding is_empty
plain_on s from to f h p e w =
    let (q, d, k) = f p e w in
    record {
      notes = [];
      end = q;
      ends = d;
      units = subst (λ (l : List ℕ). Units s p q l []) (ap₂ (λ (m n : ℕ). slice m n s) e d) (units_plain s p q w k);
      inside = (h, omega (arith, k.reach.within.inside));
      plain = λ _. (sym (ap₂ part.Bytes e d), k);
      bad = refl;
      forth = omega arith;
    }

pub none_on : (s : List ℕ) (at : ℕ) → stands (chars_at s at) ≡ false → NextAt s at None
none_on s at h p e w = rw e h

pub short_on : (s : List ℕ) (at v : ℕ) → short_escape s at ≡ Some v
    → NextAt s at (Some (record { part = part.Char v; at = at + 2; plain = false; bad = false }))
unfolding is_empty encode_char
short_on s at v e p d w =
    let f = ap (short_escape s) d ∙ e in
    let l = short_low s p w v f in
    record {
      notes = [];
      end = onward p 2;
      ends = ap (λ (n : ℕ). n + 2) d;
      units = rw (le-leb v 0x7F l) (units_short s p w v f (onward p 2) refl);
      inside = omega arith;
      plain = λ e. absurd (false≢true e);
      bad = refl;
      forth = omega arith;
    }

module _ (s : List ℕ) (p : Position) (w : Within s p) (u : code.Unit) (h : stands (chars_at s p.offset) ≡ true)
    (y : UnitAt s (placed p.offset) (unit_of (chars_at s p.offset)) u) where
  abbrev unit : StringUnit
  unit = unit_of (chars_at s p.offset)

  abbrev behind : Position
  behind = advances p unit.chars

  reached : Reach s p unit.chars behind × (behind.offset ≡ u.next.offset)
  reached = reach_again s (placed p.offset) u.next p unit.chars y.reach refl w

  unit_units : Units s p behind (made_bytes s p.offset u.next.offset u.made) (error_bytes (unit_errors p unit))
  unit_units =
      let cs = chars_at s p.offset in
      let rest = chars_at s behind.offset in
      let e = reached.0.chars in
      let f = whole_unit cs rest h e in
      let n = reached.1 in
      units_whole s p behind unit.chars _ _ f reached.0 (ap encode (unit_made cs rest h e) ∙ y.made) (ap error_bytes (unit_errors_lem cs rest h e p))
      (omega (arith, n, y.small, ap length y.made))
      (omega (arith, n, advances_offset p unit.chars, bytes_least unit.chars, errors_size_lem (unit_errors p unit), ap length (unit_errors_lem cs rest h e p), f.few p))

  pub unit_goes : (x : Part) (b : Bool) → x ≡ part_of p.offset u.next.offset u.made → b ≡ is_some u.mistake
      → GoesOn s p (record { part = x; at = u.next.offset; plain = false; bad = b })
  unit_goes x b e g =
      let m = u.made in
      let to = u.next.offset in
      record {
        notes = error_bytes (unit_errors p unit);
        end = behind;
        ends = reached.1;
        units =
            subst (λ (l : List ℕ). Units s p behind l (error_bytes (unit_errors p unit))) (sym (ap (part_bytes s) e ∙ part_made s p.offset to m)) unit_units;
        inside = subst (PartWithin s) (sym e) (part_inside s p.offset to m y.forth y.reach.within.inside y.char);
        plain = λ e. absurd (false≢true e);
        bad = g ∙ (bad_noted (placed p.offset) u.mistake ∙ ap (λ (es : List TokenizeError). not (is_empty (error_bytes es))) (sym y.errors) ∙ ap not (unit_empty (placed p.offset) p unit));
        forth = omega (arith, y.forth, reached.1);
      }

pub unit_on : (s : List ℕ) (at : ℕ) (u : code.Unit) (x : Part) (b : Bool)
    → (stands (chars_at s at) ≡ true) × UnitAt s (placed at) (unit_of (chars_at s at)) u → x ≡ part_of at u.next.offset u.made → b ≡ is_some u.mistake
    → NextAt s at (Some (record { part = x; at = u.next.offset; plain = false; bad = b }))
unit_on s at u x b f e g p d w =
    let y = subst (λ (n : ℕ). (stands (chars_at s n) ≡ true) × UnitAt s (placed n) (unit_of (chars_at s n)) u) (sym d) f in
    unit_goes s p w u y.0 y.1 x b (e ∙ ap (λ (n : ℕ). part_of n u.next.offset u.made) (sym d)) g
