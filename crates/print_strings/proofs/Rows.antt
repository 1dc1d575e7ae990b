-- The units of a string written one part after another. Assumes nothing.
use Rattle.std.specs.Prelude.{Some, None, Ok, Err}
use mathlib.Core.Path.{◌≡◌, refl, sym, ap, ◌∙◌, subst}
use mathlib.Core.Bool.{Bool, true, false, ◌&&◌, not, true≢false, and-true, and-false}
use mathlib.Core.List.{List, [], ◌∷◌, ◌++◌, append-nil}
use Prim.Native.Nat.{ℕ, ◌+◌, ◌*◌, ◌-◌, ◌≤◌}
use native.Mathlib.Omega.{arith}
use lib.ListN.{length, length-append}
use lib.Seq.{slice, length-slice}
use Rattle.characters.specs.Utf8.{chars_at, encode, encode_char}
use Rattle.characters.proofs.Choice.{if_all}
use Rattle.characters.proofs.Widths.{char_length, width_bounds}
use Rattle.spans.specs.declared.Position.{Position}
use Rattle.rules.specs.Text.{Text, is_empty}
use Rattle.rules.specs.Tokens.{TokenizeError}
use Rattle.cursor.specs.Strings.{stands}
use Rattle.bridge.specs.Bridge.{Within, Reach}
use Rattle.output.specs.Writing.{Put}
use Rattle.output.proofs.Buffers.{put_none, put_then}
use Rattle.records.specs.Kinds.{has_code, error_length}
use Rattle.records.specs.Layout.{error_record_of, error_bytes}
use Rattle.records.proofs.Filling.{errors_cons, length_error_record}
use Rattle.string_runs.specs.Runs.{run_chars, run_made, run_errors, Units}
use Rattle.string_runs.proofs.Rows.{units_none, units_join}
use Rattle.prints.specs.Print.{literal}
use Rattle.prints.proofs.Bytewise.{empty_encode}
use Rattle.print_escapes.proofs.Sizes.{literal_length, literal_part}
use Rattle.print_places.specs.Places.{no_errors}
use Rattle.text_parts.specs.Parts.{part_bytes, PartWithin}
use Rattle.cursor.proofs.Pieces.{empty_nil}
use Rattle.text_parts.specs.Units.{GoesOn, NextAt}
use Rattle.print_places.specs.declared.Flawed.{Flawed}
use Rattle.text_parts.specs.declared.Part.{Part}
use Rattle.text_parts.specs.declared.Part.TheVariants as part
use Rattle.text_parts.specs.declared.units.Step.{Step}
use Rattle.text_parts.proofs.Strings.{units_over, errors_over, chars_over}
use Rattle.print_strings.specs.Strings.{named_behind, emitted_part, RowWritten, RowAt}

-- ── One part ──

some_bytes : (l : List ℕ) → 1 ≤ length l → is_empty l ≡ false
unfolding is_empty
some_bytes [] h = absurd (omega arith)
some_bytes (x ∷ l) h = refl

pub named_behind_lem : (s : List ℕ) (named : Bool) (x : Part) → PartWithin s x → named_behind named x ≡ (named && is_empty (part_bytes s x))
unfolding is_empty
named_behind_lem s named (part.Bytes from to) (h, i) =
    sym (ap (λ (b : Bool). named && b) (some_bytes (slice from to s) (omega (arith, length-slice from to s i))) ∙ and-false named)
named_behind_lem s named (part.Char c) h =
    sym (ap (λ (b : Bool). named && b) (some_bytes (encode_char c) (omega (arith, char_length c, width_bounds c))) ∙ and-false named)
named_behind_lem s named part.Nothing h = sym (and-true named)

-- A part is written as what it is.
pub part_put : (old new s : List ℕ) (named : Bool) (at r : ℕ) (x y : Part) → x ≡ y → Put old new at (emitted_part named s y) r
    → Put old new at (emitted_part named s x) r
part_put old new s named at r x y e w = subst (λ (z : Part). Put old new at (emitted_part named s z) r) (sym e) w

-- A part that is written as it stands, said of another name for it.
pub bare_by : (s : List ℕ) (named plain : Bool) (x y : Part) → x ≡ y → (plain ≡ true → emitted_part named s x ≡ part_bytes s x)
    → plain ≡ true → emitted_part named s y ≡ part_bytes s y
bare_by s named plain x y e f p = subst (λ (z : Part). emitted_part named s z ≡ part_bytes s z) e (f p)

pub nothing_put : (out s : List ℕ) (named : Bool) (at : ℕ) → Put out out at (emitted_part named s part.Nothing) at
unfolding literal
nothing_put out s named at = put_none out at

-- ── Parts one after another ──

-- The units from `p` to `c` were written, without an error.
pub record Rowing (s : List ℕ) (p : Position) (named : Bool) (out₀ out : List ℕ) (at : ℕ) (c : Position) (place : ℕ) (name : Bool) : Type 0 where
  pub bytes : List ℕ
  pub units : Units s p c bytes []
  pub put : Put out₀ out at (literal named bytes) place
  pub name_is : name ≡ (named && is_empty bytes)

pub row_start : (s : List ℕ) (p : Position) (named : Bool) (out : List ℕ) (at : ℕ) → Within s p → Rowing s p named out out at p at named
unfolding literal is_empty
row_start s p named out at w =
    record { bytes = []; units = units_none s p w; put = put_none out at; name_is = sym (and-true named) }

module _ (s : List ℕ) (p : Position) (named : Bool) (out₀ out : List ℕ) (at : ℕ) (c : Position) (place : ℕ) (name : Bool)
    (y : Rowing s p named out₀ out at c place name) where
  -- So much was written.
  pub row_small : place ≤ at + 6 * (c.offset - p.offset)
  row_small = omega (arith, y.put.place, literal_length named y.bytes, y.units.small)

  pub row_within : Within s c
  row_within = y.units.reach.within

  pub row_forth : p.offset ≤ c.offset
  row_forth = omega (arith, y.units.small)

  empty_both : (a b : List ℕ) → is_empty (a ++ b) ≡ (is_empty a && is_empty b)
  unfolding is_empty
  empty_both [] b = refl
  empty_both (x ∷ a) b = refl

  and_assoc : (a b c : Bool) → ((a && b) && c) ≡ (a && (b && c))
  and_assoc true b c = refl
  and_assoc false b c = refl

  -- A part more.
  pub row_more : (r : Step) (g : GoesOn s c r) → r.bad ≡ false → (out' : List ℕ) (place' : ℕ) (name' : Bool)
      → Put out out' place (emitted_part name s r.part) place' → name' ≡ named_behind name r.part
      → Rowing s p named out₀ out' at g.end place' name'
  row_more r g b out' place' name' w n =
      let l = part_bytes s r.part in
      let none : g.notes ≡ [] = empty_nil g.notes (not_not (is_empty g.notes) (sym g.bad ∙ b)) in
      let u : Units s c g.end l [] = subst (λ (es : List ℕ). Units s c g.end l es) none g.units in
      record {
        bytes = y.bytes ++ l;
        units = units_join s p c g.end y.bytes l [] [] y.units u;
        put =
            subst (λ (v : List ℕ). Put out₀ out' at v place') (sym (literal_part named y.bytes l))
            (put_then out₀ out out' at place place' (literal named y.bytes) (literal (named && is_empty y.bytes) l) y.put
            (subst (λ (b : Bool). Put out out' place (literal b l) place') y.name_is w));
        name_is =
            n
            ∙ (named_behind_lem s name r.part g.inside
            ∙ (ap (λ (b : Bool). b && is_empty l) y.name_is ∙ (and_assoc named (is_empty y.bytes) (is_empty l) ∙ ap (λ (b : Bool). named && b) (sym (empty_both y.bytes l)))));
      }
    where
      not_not : (b : Bool) → not b ≡ false → b ≡ true
      not_not true e = refl
      not_not false e = absurd (true≢false e)

  -- ── The end ──

  no_bytes : (es : List TokenizeError) → error_bytes es ≡ [] → es ≡ []
  no_bytes [] e = refl
  no_bytes (x ∷ es) e =
      absurd (omega (arith, ap length e, ap length (errors_cons x es), length-append (error_record_of x) (error_bytes es), length_error_record x, error_long x))
    where
      error_long : (x : TokenizeError) → 1 ≤ error_length x.kind
      error_long x = unfold error_length in (if_all (λ (n : ℕ). 1 ≤ n) (has_code x.kind) (λ _. omega arith) (λ _. omega arith))

  pub row_end : stands (chars_at s c.offset) ≡ false → RowWritten s p named out₀ out at (record { at = c; out = place; named = name })
  row_end h =
      let made : encode (run_made s p) ≡ y.bytes = y.units.made ∙ (ap (λ (t : Text). y.bytes ++ encode t) (units_over s c h) ∙ nothing_behind y.bytes) in
      let chars : run_chars s p ≡ y.units.chars
      = y.units.front ∙ (ap (λ (t : Text). y.units.chars ++ t) (chars_over s c h) ∙ append-nil y.units.chars) in
      record {
        reach = subst (λ (t : Text). Reach s p t c) (sym chars) y.units.reach;
        stops = h;
        right = no_bytes (run_errors s p) (y.units.errors ∙ ap error_bytes (errors_over s c h) ∙ no_error_bytes);
        put = subst (λ (v : List ℕ). Put out₀ out at (literal named v) place) (sym made) y.put;
        name = y.name_is ∙ ap (λ (b : Bool). named && b) (ap is_empty (sym made) ∙ empty_encode (run_made s p));
        forth = row_forth;
        small = row_small;
      }
    where
      nothing_behind : (l : List ℕ) → l ++ encode [] ≡ l
      nothing_behind l = unfold encode in (append-nil l)

      no_error_bytes : error_bytes [] ≡ []
      no_error_bytes = unfold error_bytes in refl

  -- An error in the next part.
  pub row_wrong : (r : Step) → GoesOn s c r → r.bad ≡ true → no_errors (run_errors s p) ≡ false
  row_wrong r g b = some_error (run_errors s p) (y.units.errors ∙ g.units.errors) (sym g.bad ∙ b)
    where
      some_error : (es : List TokenizeError) → error_bytes es ≡ g.notes ++ error_bytes (run_errors s g.end) → not (is_empty g.notes) ≡ true → no_errors es ≡ false
      some_error (x ∷ es) e f = unfold no_errors in refl
      some_error [] e f = go g.notes (sym (unfold error_bytes in e)) f
        where
          go : (ns : List ℕ) → ns ++ error_bytes (run_errors s g.end) ≡ [] → not (is_empty ns) ≡ true → no_errors [] ≡ false
          go [] e f = unfold is_empty in (absurd (true≢false (sym f)))
          go (n ∷ ns) e f = absurd (omega (arith, ap length e))

-- ── By places ──

-- The units from the place `from` to the place `c` were written, whatever lines and columns they have.
abbrev pub RowingAt : List ℕ → ℕ → Bool → List ℕ → List ℕ → ℕ → ℕ → ℕ → Bool → Type 0
RowingAt s from named out₀ out at c place name =
    (p : Position) → p.offset ≡ from → Within s p → (q : Position) × (q.offset ≡ c) × Rowing s p named out₀ out at q place name

pub row_begin : (s : List ℕ) (from : ℕ) (named : Bool) (out : List ℕ) (at : ℕ) → RowingAt s from named out out at from at named
row_begin s from named out at p e w = (p, e, row_start s p named out at w)

module _ (s : List ℕ) (from : ℕ) (named : Bool) (out₀ out : List ℕ) (at c place : ℕ) (name : Bool)
    (y : RowingAt s from named out₀ out at c place name) where
  pub row_on : (r : Step) → NextAt s c (Some r) → r.bad ≡ false → (out' : List ℕ) (place' : ℕ) (name' : Bool)
      → Put out out' place (emitted_part name s r.part) place' → name' ≡ named_behind name r.part
      → RowingAt s from named out₀ out' at r.at place' name'
  row_on r n b out' place' name' u v p e w =
      let (q, d, z) = y p e w in
      let g = n q d (row_within s p named out₀ out at q place name z) in
      (g.end, g.ends, row_more s p named out₀ out at q place name z r g b out' place' name' u v)

  pub row_bad : (r : Step) → NextAt s c (Some r) → r.bad ≡ true → (f : Flawed) → RowAt s from named out₀ out at (Err f)
  row_bad r n b f p e w =
      let (q, d, z) = y p e w in
      row_wrong s p named out₀ out at q place name z r (n q d (row_within s p named out₀ out at q place name z)) b

  pub row_over : NextAt s c None → RowAt s from named out₀ out at (Ok (record { at = c; out = place; named = name }))
  row_over n p e w =
      let (q, d, z) = y p e w in
      (q, d, row_end s p named out₀ out at q place name z (n q d (row_within s p named out₀ out at q place name z)))
