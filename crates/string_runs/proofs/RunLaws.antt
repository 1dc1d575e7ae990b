-- Laws of what one unit writes, and of characters that stand for themselves. Assumes nothing.
use Rattle.std.specs.Prelude.{if◌then◌else◌, Option, Some, None}
use mathlib.Core.Path.{◌≡◌, refl, sym, ◌∙◌, ap, ap₂, subst}
use mathlib.Core.Bool.{Bool, true, false, true≢false}
use mathlib.Core.List.{List, [], ◌∷◌, ◌++◌}
use mathlib.Core.Option.{none, some}
use Prim.Native.Nat.{ℕ, ◌-◌, ◌≤◌}
use lib.ListN.{length, take, drop, length-append}
use native.Mathlib.Omega.{arith}
use Rattle.std.proofs.lemmas.Slice.{between_is}
use Rattle.spans.specs.declared.Position.{Position}
use Rattle.spans.specs.declared.Span.{Span}
use Rattle.rules.specs.Text.{Char, Text, ch}
use Rattle.rules.specs.Scan.{run, takes, nothing}
use Rattle.rules.specs.Tables.{BadUnicodeEscape, BadEscape}
use Rattle.rules.specs.Tokens.{TokenizeError}
use Rattle.rules.specs.Lexer.{advances, span}
use Rattle.cursor.specs.Strings.{StringUnit, plain_unit, unit_of, stands, unit_errors, units_made, units_errors}
use Rattle.cursor.proofs.Units.{Whole, made_none, errors_none, whole_none, unit_made, unit_errors_lem, whole_unit, whole_join}
use Rattle.records.specs.declared.errors.ErrorKind.{ErrorKind}
use Rattle.records.specs.declared.errors.ErrorKind.TheVariants as kind
use Rattle.records.specs.Errors.{error_of}
use Rattle.bridge.specs.Bridge.{onward, is_plain}
use Rattle.output.specs.Writing.{Put}
use Rattle.walks.proofs.Errors.{put_one, errors_size_lem}
use Rattle.string_units.specs.declared.Made.{Made}
use Rattle.string_units.specs.declared.Mistake.{Mistake}
use Rattle.string_units.specs.declared.Mistake.TheVariants as mistake
use Rattle.records.specs.Layout.{error_record_of, error_bytes}
use Rattle.string_units.specs.Units.{made_of, made_bytes, span_behind, mistakes}
use Rattle.string_units.proofs.UnitLaws.{no_error, stands_plain}

-- ── Errors as bytes ──

pub error_few : (e : TokenizeError) → length (error_bytes (e ∷ [])) ≤ 29
error_few e = omega (arith, errors_size_lem (e ∷ []))

pub mistakes_few : (p : Position) (m : Option Mistake) → length (error_bytes (mistakes p m)) ≤ 29
unfolding error_bytes
mistakes_few p None = omega arith
mistakes_few p (Some mistake.BadUnicode) = error_few _
mistakes_few p (Some (mistake.BadEscape e)) = error_few _

-- ── What one unit writes ──

pub made_put : (old new own : List ℕ) (at r : ℕ) (m n : Made) → m ≡ n → Put old new at (made_of own n) r → Put old new at (made_of own m) r
made_put old new own at r m n e w = subst (λ (x : Made). Put old new at (made_of own x) r) (sym e) w

-- Its own bytes, as the code lends them.
pub made_part : (s : List ℕ) (from to : ℕ) (m : Made) {old new : List ℕ} {at r : ℕ} → Put old new at (made_of (take (to - from) (drop from s)) m) r
    → Put old new at (made_bytes s from to m) r
made_part s from to m p = rw (← between_is s from to) p

module _ (old new : List ℕ) (at r : ℕ) (p : Position) where
  pub mistake_put : (m n : Option Mistake) → m ≡ n → Put old new at (error_bytes (mistakes p n)) r → Put old new at (error_bytes (mistakes p m)) r
  mistake_put m n e w = subst (λ (x : Option Mistake). Put old new at (error_bytes (mistakes p x)) r) (sym e) w

  -- An error behind the backslash.
  pub unicode_put : Put old new at (error_record_of (error_of (record { kind = kind.BadUnicodeEscape; span = span_behind p }))) r
      → Put old new at (error_bytes (mistakes p (Some mistake.BadUnicode))) r
  unicode_put w = put_one old new at r (record { kind = BadUnicodeEscape; span = span_behind p; char = none }) w

  pub escape_put : (e : ℕ) → Put old new at (error_record_of (error_of (record { kind = kind.BadEscape e; span = span_behind p }))) r
      → Put old new at (error_bytes (mistakes p (Some (mistake.BadEscape e)))) r
  escape_put e w = put_one old new at r (record { kind = BadEscape; span = span_behind p; char = some e }) w

  pub behind_put : (k : ErrorKind) (q : Position) (s : Span) → q ≡ onward p 1 → s ≡ span q q
      → Put old new at (error_record_of (error_of (record { kind = k; span = s }))) r → Put old new at (error_record_of (error_of (record { kind = k; span = span_behind p }))) r
  behind_put k q s x y w =
      subst (λ (z : Span). Put old new at (error_record_of (error_of (record { kind = k; span = z }))) r) (y ∙ ap (λ (z : Position). span z z) x) w

-- ── Characters that stand for themselves ──

-- A character that stands for itself whatever follows it: no control character up to the line feed, quote, dollar sign or backslash.
abbrev pub itself : Char → Bool
itself = is_plain (ch "\"") (ch "$") (ch "\\")

plain_not : (c d : ℕ) → itself c ≡ true → itself d ≡ false → c ≡ d → ⊥
plain_not c d e f x = true≢false (sym e ∙ (ap itself x ∙ f))

plain_stands : (c : Char) (cs : Text) → itself c ≡ true → (stands (c ∷ cs) ≡ true) × (unit_of (c ∷ cs) ≡ plain_unit c)
unfolding is_plain
plain_stands c cs e =
    stands_plain c cs (plain_not c 10 e refl) (plain_not c 34 e refl) (plain_not c 92 e refl) (plain_not c 36 e refl)

-- A text `t` in front of `rest` that makes itself.
pub record Itself (cs t rest : Text) : Type 0 where
  pub whole : Whole cs t rest
  pub made : units_made (length t) cs ≡ t
  pub errors : (p : Position) → units_errors (length t) p cs ≡ []

itself_none : (cs : Text) → Itself cs [] cs
itself_none cs = record { whole = whole_none cs; made = made_none cs; errors = λ p. errors_none p cs }

-- One such character.
module _ (c : Char) (cs : Text) (e : itself c ≡ true) where
  unit_is : unit_of (c ∷ cs) ≡ plain_unit c
  unit_is = (plain_stands c cs e).1

  unit_splits : c ∷ cs ≡ (unit_of (c ∷ cs)).chars ++ cs
  unfolding plain_unit
  unit_splits = ap (λ (u : StringUnit). u.chars ++ cs) (sym unit_is)

  itself_one : Itself (c ∷ cs) (c ∷ []) cs
  unfolding plain_unit
  itself_one =
      let h = (plain_stands c cs e).0 in
      let l : (unit_of (c ∷ cs)).chars ≡ c ∷ [] = ap (λ (u : StringUnit). u.chars) unit_is in
      record {
        whole = subst (λ (t : Text). Whole (c ∷ cs) t cs) l (whole_unit (c ∷ cs) cs h unit_splits);
        made = subst (λ (t : Text). units_made (length t) (c ∷ cs) ≡ (unit_of (c ∷ cs)).made) l (unit_made (c ∷ cs) cs h unit_splits) ∙ ap (λ (u : StringUnit). u.made) unit_is;
        errors = λ p. subst (λ (t : Text). units_errors (length t) p (c ∷ cs) ≡ unit_errors p (unit_of (c ∷ cs))) l (unit_errors_lem (c ∷ cs) cs h unit_splits p)
            ∙ (ap (unit_errors p) unit_is ∙ no_error p (c ∷ []) (c ∷ []));
      }

itself_join : (cs t mid u rest : Text) → Itself cs t mid → Itself mid u rest → Itself cs (t ++ u) rest
itself_join cs t mid u rest a b =
    let n = length-append t u in
    record {
      whole = whole_join cs t mid u rest a.whole b.whole;
      made = rw n (a.whole.made_more (length u) ∙ ap₂ (λ (v w : Text). v ++ w) a.made b.made);
      errors = λ p. rw n (a.whole.errors_more (length u) p ∙ ap₂ (λ (v w : List TokenizeError). v ++ w) (a.errors p) (b.errors (advances p t)));
    }

pub plain_itself : (cs : Text) → Itself cs (run itself cs).taken (run itself cs).left
unfolding run
plain_itself [] = itself_none []
plain_itself (c ∷ cs) = go (itself c) refl (plain_itself cs)
  where
    go : (b : Bool) → itself c ≡ b → Itself cs (run itself cs).taken (run itself cs).left
        → Itself (c ∷ cs) (if b then takes c (run itself cs) else nothing (c ∷ cs)).taken (if b then takes c (run itself cs) else nothing (c ∷ cs)).left
    go true e y = itself_join (c ∷ cs) (c ∷ []) cs (run itself cs).taken (run itself cs).left (itself_one c cs e) y
    go false e y = itself_none (c ∷ cs)
