-- Plain characters of a string are written as they stand. Assumes nothing.
use Rattle.std.specs.Prelude.{if◌then◌else◌}
use mathlib.Core.Path.{◌≡◌, refl, sym, ap, ◌∙◌}
use mathlib.Core.Bool.{Bool, true, false, ◌&&◌, not, true≢false}
use mathlib.Core.List.{List, [], ◌∷◌, ◌++◌}
use Prim.Native.Nat.{ℕ}
use native.Mathlib.Omega.{arith}
use lib.Seq.{slice}
use Rattle.characters.specs.Choice.{◌is◌}
use Rattle.characters.specs.Utf8.{chars_at, encode}
use Rattle.spans.specs.declared.Position.{Position}
use Rattle.rules.specs.Text.{Char, Text, ch, LF}
use Rattle.rules.specs.Scan.{run, takes, nothing}
use Rattle.rules.proofs.Ahead.{is_not}
use Rattle.bridge.specs.Bridge.{Within, is_plain, PastRun}
use Rattle.walks.proofs.Enclosed.{reach_slice}
use Rattle.prints.specs.Print.{escaped, escapes, literal}
use Rattle.prints.proofs.Bytewise.{escapes_encode}
use Rattle.print_escapes.proofs.Sizes.{literal_false}
use Rattle.text_parts.specs.Parts.{part_bytes}
use Rattle.text_parts.specs.Units.{GoesOn}
use Rattle.text_parts.specs.declared.units.Step.{Step}
use Rattle.print_strings.specs.Strings.{emitted_part}

-- A character that is neither up to the line feed nor a quote, a dollar sign or a backslash.
abbrev plain : Char → Bool
plain = is_plain (ch "\"") (ch "$") (ch "\\")

plain_not : (c d : ℕ) → plain c ≡ true → plain d ≡ false → (c is d) ≡ false
plain_not c d e f = is_not c d (λ x. true≢false (sym e ∙ (ap plain x ∙ f)))

plain_bare : (c : Char) → plain c ≡ true → escaped (ch "\"") c ≡ c ∷ []
unfolding escaped is_plain
plain_bare c e = rw (plain_not c (ch "\\") e refl, plain_not c (ch "\"") e refl, plain_not c LF e refl, plain_not c (ch "$") e refl)

run_bare : (cs : Text) → escapes (ch "\"") (run plain cs).taken ≡ (run plain cs).taken
unfolding run escapes
run_bare [] = refl
run_bare (c ∷ cs) = go (plain c) refl (run_bare cs)
  where
    go : (b : Bool) → plain c ≡ b → escapes (ch "\"") (run plain cs).taken ≡ (run plain cs).taken
        → escapes (ch "\"") (if b then takes c (run plain cs) else nothing (c ∷ cs)).taken ≡ (if b then takes c (run plain cs) else nothing (c ∷ cs)).taken
    go true e h = ap (λ (l : Text). l ++ escapes (ch "\"") (run plain cs).taken) (plain_bare c e) ∙ ap (λ (l : Text). c ∷ l) h
    go false e h = refl

-- Plain characters, from one position to another.
past_bare : (s : List ℕ) (p q : Position) → Within s p → PastRun plain s p q
    → literal false (slice p.offset q.offset s) ≡ slice p.offset q.offset s
past_bare s p q w k =
    let t = (run plain (chars_at s p.offset)).taken in
    let e : slice p.offset q.offset s ≡ encode t = reach_slice s p q t k.reach w.inside in
    rw e (literal_false (encode t) ∙ (escapes_encode (ch "\"") t (omega arith) ∙ ap encode (run_bare (chars_at s p.offset))))

and_both : (a b : Bool) → (a && not b) ≡ true → (a ≡ true) × (b ≡ false)
and_both true false e = (refl, refl)
and_both true true e = absurd (true≢false (sym e))
and_both false b e = absurd (true≢false (sym e))

-- A part that says so, where no `$name` stands right before it.
pub part_bare : (s : List ℕ) (p : Position) (r : Step) (named b : Bool) → Within s p → GoesOn s p r → b ≡ (r.plain && not named) → b ≡ true
    → emitted_part named s r.part ≡ part_bytes s r.part
part_bare s p r named b w g e f =
    let (h, n) = and_both r.plain named (sym e ∙ f) in
    let (x, k) = g.plain h in
    rw (n, x) (past_bare s p g.end w k)
