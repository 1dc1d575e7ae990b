-- Laws of one unit of a string. Assumes nothing.
use Rattle.std.specs.Prelude as std
use Rattle.std.specs.Prelude.{if◌then◌else◌, Some, None}
use mathlib.Core.Path.{◌≡◌, refl, sym, ◌∙◌, ap, subst}
use mathlib.Core.Bool.{Bool, true, false, not, true≢false, false≢true}
use mathlib.Core.List.{List, [], ◌∷◌, ◌++◌, append-nil}
use mathlib.Core.Option.{Option, none, some}
use Prim.Native.Nat.{ℕ, ◌+◌, ◌≤◌, ◌<◌}
use lib.Dec.{leb}
use lib.ListN.{length, take}
use lib.Seq.{slice}
use native.Mathlib.Omega.{arith}
use borrow.Author.Tests.{ne_eqb, leb-true, le-leb}
use Rattle.characters.specs.Choice.{within}
use Rattle.characters.specs.Utf8.{chars_at, is_scalar, width, bytes, encode, encode_char}
use Rattle.characters.proofs.Choice.{and_both}
use Rattle.characters.proofs.Texts.{encode_length}
use Rattle.spans.specs.declared.Position.{Position}
use Rattle.rules.specs.Text.{Char, Text}
use Rattle.rules.specs.Scan.{next}
use Rattle.rules.specs.Tables.{ESCAPES, lookup, BadUnicodeEscape, BadEscape}
use Rattle.rules.specs.Segment.{fault}
use Rattle.rules.specs.Strings.{hex_code, char_of, unicode_escape, plain_escape, other_escape, escape, is_interp_start}
use Rattle.rules.specs.Lexer.{advances, span, errors_of}
use Rattle.cursor.specs.Strings.{StringUnit, plain_unit, escape_unit, unit_of, stands, unit_errors}
use Rattle.bridge.specs.Bridge.{Within, Reach, onward}
use Rattle.bridge.proofs.Reaches.{reach_join, advance_flat, word_reach}
use Rattle.walks.proofs.Enclosed.{reach_offset, reach_slice}
use Rattle.string_units.specs.declared.Made.TheVariants as made
use Rattle.string_units.specs.declared.Mistake.{Mistake}
use Rattle.string_units.specs.declared.Mistake.TheVariants as mistake
use Rattle.string_units.specs.declared.Unit as code
use Rattle.string_units.specs.Units.{backslash, backslash_u, unicode_unit, mistakes, UnitAt, FoundAt, plain_found}
use Rattle.escapes.proofs.Digits.{digits_stand, four_below}
use Rattle.escapes.proofs.Letters.{escape_small}

-- ── What is passed, as bytes ──

reach_bytes : (s : List ℕ) (p q : Position) (t : Text) → p.offset ≤ length s → Reach s p t q → encode t ≡ slice p.offset q.offset s
reach_bytes s p q t h r = sym (reach_slice s p q t r h)

-- ── Units by what they make ──

module _ (s : List ℕ) (p q : Position) (u : StringUnit) (m : std.Option Mistake) (r : Reach s p u.chars q) (h : p.offset < q.offset)
    (e : unit_errors p u ≡ mistakes p m) where
  -- Nothing.
  pub empty_unit : u.made ≡ [] → UnitAt s p u (record { next = q; made = made.Nothing; mistake = m })
  unfolding encode
  empty_unit z = record { reach = r; made = rw z; errors = e; char = tt; forth = h; small = rw z (omega arith) }

  -- Its own characters.
  pub own_unit : p.offset ≤ length s → u.made ≡ u.chars → UnitAt s p u (record { next = q; made = made.Own; mistake = m })
  own_unit i z =
      let o = reach_offset s p q u.chars r in
      let l = encode_length u.chars in
      record { reach = r; made = rw z (reach_bytes s p q u.chars i r); errors = e; char = tt; forth = h; small = rw z (omega arith) }

  -- One character.
  pub char_unit : (c : ℕ) → u.made ≡ c ∷ [] → c ≤ 0x10FFFF → p.offset + width c ≤ q.offset
      → UnitAt s p u (record { next = q; made = made.Char c; mistake = m })
  unfolding encode bytes
  char_unit c z f k =
      let l = encode_length (c ∷ []) in
      record { reach = r; made = rw z (append-nil (encode_char c)); errors = e; char = f; forth = h; small = rw z (omega arith) }

-- ── Errors ──

-- An error stands behind the unit's first character, the backslash.
one_error : (p : Position) (t m : Text) (k : ℕ) (o : Option Char)
    → unit_errors p (record { chars = 92 ∷ t; made = m; faults = record { kind = k; from = 1; to = 1; char = o } ∷ [] })
    ≡ record { kind = k; span = span (onward p 1) (onward p 1); char = o } ∷ []
unfolding unit_errors errors_of advances
one_error p t m k o = rw (advance_flat p 92 (omega arith) (omega arith))

pub no_error : (p : Position) (t m : Text) → unit_errors p (record { chars = t; made = m; faults = [] }) ≡ []
unfolding unit_errors errors_of
no_error p t m = refl

-- ── Plain characters ──

pub plain_unit_lem : (s : List ℕ) (p q : Position) (c : ℕ) → Within s p → Reach s p (c ∷ []) q → p.offset < q.offset
    → UnitAt s p (plain_unit c) (record { next = q; made = made.Own; mistake = None })
unfolding plain_unit
plain_unit_lem s p q c w r h = own_unit s p q (plain_unit c) None r h (no_error p (c ∷ []) (c ∷ [])) w.inside refl

-- ── Four digits ──

scalar_char : (v : ℕ) → is_scalar v ≡ true → (char_of v ≡ v ∷ []) × (v ≤ 0x10FFFF)
unfolding char_of is_scalar
scalar_char v e =
    let x = and_both (leb v 0x10FFFF) (not (within 0xD800 0xDFFF v)) e in
    (go (within 0xD800 0xDFFF v) x.1, leb-true v 0x10FFFF x.0)
  where
    go : (b : Bool) → not b ≡ true → (if b then [] else v ∷ []) ≡ v ∷ []
    go true h = absurd (false≢true h)
    go false h = refl

surrogate_none : (v : ℕ) → v < 65536 → is_scalar v ≡ false → char_of v ≡ []
unfolding char_of is_scalar
surrogate_none v h e = go (within 0xD800 0xDFFF v) (rw (le-leb v 0x10FFFF (omega arith)) at e)
  where
    go : (b : Bool) → not b ≡ false → (if b then [] else v ∷ []) ≡ []
    go true h = refl
    go false h = absurd (true≢false h)

width_small : (v : ℕ) → v < 65536 → width v ≤ 3
unfolding width
width_small v h = rw (le-leb v 0xFFFF (omega arith)) (go (leb v 0x7F) (leb v 0x7FF))
  where
    go : (x y : Bool) → (if x then 1 else if y then 2 else 3) ≤ 3
    go true y = omega arith
    go false true = omega arith
    go false false = omega arith

module _ (s : List ℕ) (p r : Position) (b : Reach s p backslash_u r) where
  u_on : r.offset ≡ p.offset + 2
  unfolding bytes width
  u_on = reach_offset s p r backslash_u b

  -- No four digits.
  pub unicode_bad : hex_code 4 0 (chars_at s r.offset) ≡ none
      → UnitAt s p (unicode_unit (chars_at s r.offset)) (record { next = r; made = made.Nothing; mistake = Some mistake.BadUnicode })
  unfolding unicode_unit unicode_escape
  unicode_bad e =
      let o = u_on in
      rw e (empty_unit s p r (record { chars = backslash_u; made = []; faults = fault BadUnicodeEscape 1 1 ∷ [] }) (Some mistake.BadUnicode) b (omega arith)
      (one_error p (117 ∷ []) [] BadUnicodeEscape none) refl)

  module _ (v : ℕ) (n : Position) (q : n ≡ onward r 4) (e : hex_code 4 0 (chars_at s r.offset) ≡ some v) where
    abbrev four : Text
    four = take 4 (chars_at s r.offset)

    six : Reach s p (backslash_u ++ four) (onward r 4)
    six =
        let d = digits_stand s 4 0 v r.offset e in
        reach_join s p r (onward r 4) backslash_u four b (word_reach s r four 4 d.flat b.within d.chars d.size)

    -- Four digits that are a character.
    pub unicode_char : is_scalar v ≡ true
        → UnitAt s p (unicode_unit (chars_at s r.offset)) (record { next = n; made = made.Char v; mistake = None })
    unfolding unicode_unit unicode_escape
    unicode_char k =
        let x = scalar_char v k in
        let o = u_on in
        let l = width_small v (four_below v (chars_at s r.offset) e) in
        rw (e, q) (char_unit s p (onward r 4) (record { chars = backslash_u ++ four; made = char_of v; faults = [] }) None six (omega arith)
        (no_error p (backslash_u ++ four) (char_of v)) v x.0 x.1 (omega arith))

    -- Four digits that are none.
    pub unicode_none : is_scalar v ≡ false
        → UnitAt s p (unicode_unit (chars_at s r.offset)) (record { next = n; made = made.Nothing; mistake = None })
    unfolding unicode_unit unicode_escape
    unicode_none k =
        let o = u_on in
        let x = surrogate_none v (four_below v (chars_at s r.offset) e) k in
        rw (e, q) (empty_unit s p (onward r 4) (record { chars = backslash_u ++ four; made = char_of v; faults = [] }) None six (omega arith)
        (no_error p (backslash_u ++ four) (char_of v)) x)

-- ── Escapes ──

pub width_one : (v : ℕ) → v ≤ 0x7F → width v ≡ 1
unfolding width
width_one v h = rw (le-leb v 0x7F h)

module _ (s : List ℕ) (p q : Position) (b : Reach s p backslash q) where
  pub back_on : q.offset ≡ p.offset + 1
  unfolding bytes width
  back_on = reach_offset s p q backslash b

  -- A backslash at the end.
  pub escape_end : chars_at s q.offset ≡ []
      → UnitAt s p (escape_unit (chars_at s q.offset)) (record { next = q; made = made.Nothing; mistake = None })
  unfolding escape_unit
  escape_end e =
      let o = back_on in
      rw e (empty_unit s p q (record { chars = backslash; made = []; faults = [] }) None b (omega arith) (no_error p backslash []) refl)

  module _ (e : ℕ) (r : Position) (k : Reach s q (e ∷ []) r) (h : q.offset < r.offset) where
    pub two : Reach s p (92 ∷ e ∷ []) r
    two = reach_join s p q r (92 ∷ []) (e ∷ []) b k

    pub escape_unicode : e ≡ 117 → escape_unit (chars_at s q.offset) ≡ unicode_unit (chars_at s r.offset)
    unfolding escape_unit unicode_unit escape
    escape_unicode x = rw (k.chars, x)

    pub escape_char : (v : ℕ) → (e ≡ 117 → ⊥) → lookup e ESCAPES ≡ some v
        → UnitAt s p (escape_unit (chars_at s q.offset)) (record { next = r; made = made.Char v; mistake = None })
    unfolding escape_unit escape plain_escape
    escape_char v n y =
        let l = escape_small e v y in
        let w = width_one v l in
        let o = back_on in
        rw (k.chars, ne_eqb e 117 n, y)
        (char_unit s p r (record { chars = 92 ∷ e ∷ []; made = v ∷ []; faults = [] }) None two (omega arith)
        (no_error p (92 ∷ e ∷ []) (v ∷ [])) v refl (omega arith) (omega arith))

    pub escape_kept : p.offset ≤ length s → (e ≡ 117 → ⊥) → lookup e ESCAPES ≡ none
        → UnitAt s p (escape_unit (chars_at s q.offset)) (record { next = r; made = made.Own; mistake = Some (mistake.BadEscape e) })
    unfolding escape_unit escape plain_escape other_escape
    escape_kept i n y =
        let o = back_on in
        rw (k.chars, ne_eqb e 117 n, y)
        (own_unit s p r (record { chars = 92 ∷ e ∷ []; made = 92 ∷ e ∷ []; faults = record { kind = BadEscape; from = 1; to = 1; char = some e } ∷ [] })
        (Some (mistake.BadEscape e)) two (omega arith) (one_error p (e ∷ []) (92 ∷ e ∷ []) BadEscape (some e)) i refl)

-- ── Where a unit stands ──

module _ (c : ℕ) (cs : Text) where
  pub no_feed : c ≡ 10 → stands (c ∷ cs) ≡ false
  unfolding stands
  no_feed e = rw e

  pub no_quote : c ≡ 34 → stands (c ∷ cs) ≡ false
  unfolding stands
  no_quote e = rw e

  pub no_opening : c ≡ 36 → next is_interp_start cs ≡ true → stands (c ∷ cs) ≡ false
  unfolding stands
  no_opening e o = rw (e, o)

  pub stands_escape : c ≡ 92 → (stands (c ∷ cs) ≡ true) × (unit_of (c ∷ cs) ≡ escape_unit cs)
  unfolding stands unit_of
  stands_escape e = (rw e, rw e)

  pub stands_dollar : c ≡ 36 → next is_interp_start cs ≡ false → (stands (c ∷ cs) ≡ true) × (unit_of (c ∷ cs) ≡ plain_unit c)
  unfolding stands unit_of
  stands_dollar e o = (rw (e, o), rw e)

  pub stands_plain : (c ≡ 10 → ⊥) → (c ≡ 34 → ⊥) → (c ≡ 92 → ⊥) → (c ≡ 36 → ⊥)
      → (stands (c ∷ cs) ≡ true) × (unit_of (c ∷ cs) ≡ plain_unit c)
  unfolding stands unit_of
  stands_plain a b d e = (rw (ne_eqb c 10 a, ne_eqb c 34 b, ne_eqb c 36 e), rw (ne_eqb c 92 d))

pub stands_none : (cs : Text) → cs ≡ [] → stands cs ≡ false
unfolding stands
stands_none cs e = rw e

-- The unit at a position, by the character `c` that stands there, before `q`.
module _ (s : List ℕ) (p q : Position) (c : ℕ) (r : Reach s p (c ∷ []) q) where
  pub none_at : stands (c ∷ chars_at s q.offset) ≡ false → stands (chars_at s p.offset) ≡ false
  none_at e = rw r.chars e

  pub some_at : (u : StringUnit) (x : code.Unit) → (stands (c ∷ chars_at s q.offset) ≡ true) × (unit_of (c ∷ chars_at s q.offset) ≡ u) → UnitAt s p u x
      → (stands (chars_at s p.offset) ≡ true) × UnitAt s p (unit_of (chars_at s p.offset)) x
  some_at u x k m = (rw r.chars k.0, subst (λ (y : StringUnit). UnitAt s p y x) (sym (ap unit_of r.chars ∙ k.1)) m)

  pub plain_at : (f : std.Option code.Unit) → f ≡ plain_found q → Within s p → p.offset < q.offset
      → (stands (c ∷ chars_at s q.offset) ≡ true) × (unit_of (c ∷ chars_at s q.offset) ≡ plain_unit c) → FoundAt s p f
  plain_at f e w h k = rw e (some_at (plain_unit c) (record { next = q; made = made.Own; mistake = None }) k (plain_unit_lem s p q c w r h))
