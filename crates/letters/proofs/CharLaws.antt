-- Laws of the rule of character literals. Assumes nothing.
use Rattle.std.specs.Prelude.{if◌then◌else◌}
use mathlib.Core.Path.{◌≡◌, refl, ◌∙◌, ap, ap₂}
use mathlib.Core.Bool.{Bool, true, false, false≢true, true≢false}
use mathlib.Core.List.{List, [], ◌∷◌, ◌++◌, map, append_cancel_left}
use mathlib.Core.Option.{Option, none, some}
use Prim.Native.Nat.{ℕ}
use lib.ListN.{length, take, drop, take-append-drop}
use lib.Seq.{take-length}
use Rattle.characters.specs.Choice.{◌is◌, within}
use Rattle.characters.specs.Space.{is_white}
use Rattle.characters.proofs.Choice.{if_all}
use Rattle.spans.specs.declared.Position.{Position}
use Rattle.rules.specs.Text.{Char, Text, text}
use Rattle.rules.specs.Scan.{starts_with}
use Rattle.rules.specs.Tables.{ESCAPES, lookup, UnterminatedCharacter}
use Rattle.rules.specs.Tokens.{TokenizeError}
use Rattle.rules.specs.Segment.{Fault, fault, Segment, string, skipped}
use Rattle.rules.specs.Strings.{Escape, hex_code, unicode_escape, plain_escape, escape}
use Rattle.rules.specs.Characters.{char_token, close_char, char_escape, parse_char}
use Rattle.rules.specs.Lexer.{segment, advance, advances, span, place_in, errors_of}
use Rattle.rules.proofs.Ahead.{is_eq}
use Rattle.cursor.specs.Strings.{plain_unit, unit_errors}
use Rattle.cursor.specs.Cursor.{error_at}
use Rattle.cursor.proofs.Inside.{later_from, later_fault, later_escape, escape_later}
use Rattle.letters.specs.Letters.{escape_letter, letter_of, runs_out}

-- ── The rule by units ──

pub quote_parse : (cs : Text) → segment (39 ∷ cs) ≡ parse_char cs
unfolding segment is_white within
quote_parse cs = refl

-- The same text behind the same front.
behind : (a b r : Text) → a ++ b ≡ a ++ r → b ≡ r
behind a b r e = append_cancel_left a b r e

-- The faults of a letter, counted from the opening quote.
abbrev pub faults_of : Text → List Fault
faults_of cs = map (later_fault 1) (letter_of cs).faults

escape_parse : (c e : Char) (cs rest : Text) → c ∷ e ∷ cs ≡ (escape_letter e cs).chars ++ rest
    → char_escape (e ∷ cs)
    ≡ close_char (39 ∷ (escape_letter e cs).chars) (escape_letter e cs).made (map (later_fault 1) (escape_letter e cs).faults) rest
unfolding char_escape escape_letter
escape_parse c e cs rest k =
    let other : Escape = record { text = e ∷ []; extra = 0; faults = [] } in
    let x = escape 1 other e cs in
    let F : Escape → Text → Segment = λ y r. close_char (39 ∷ 92 ∷ e ∷ take y.extra cs) y.text y.faults r in
    ap (λ (y : Escape). F y (drop y.extra cs)) (escape_later 1 0 other other e cs refl)
    ∙ ap (λ (r : Text). F (later_escape 1 x) r) (behind (take x.extra cs) (drop x.extra cs) rest (take-append-drop x.extra cs ∙ ap (drop 2) k))

pub letter_parse : (cs rest : Text) → runs_out cs ≡ false → cs ≡ (letter_of cs).chars ++ rest
    → parse_char cs ≡ close_char (39 ∷ (letter_of cs).chars) (letter_of cs).made (faults_of cs) rest
unfolding runs_out letter_of parse_char plain_unit
letter_parse [] rest h e = absurd (true≢false h)
letter_parse (c ∷ []) rest h e = rw (h, ← (behind (c ∷ []) [] rest e))
letter_parse (c ∷ d ∷ cs) rest h e = go (c is 92) refl e
  where
    go : (b : Bool) → (c is 92) ≡ b → c ∷ d ∷ cs ≡ (if b then escape_letter d cs else plain_unit c).chars ++ rest
        → (if b then char_escape (d ∷ cs) else close_char (39 ∷ c ∷ []) (c ∷ []) [] (d ∷ cs))
        ≡ close_char (39 ∷ (if b then escape_letter d cs else plain_unit c).chars) (if b then escape_letter d cs else plain_unit c).made
        (map (later_fault 1) (if b then escape_letter d cs else plain_unit c).faults) rest
    go true q k = escape_parse c d cs rest k
    go false q k = rw (← (behind (c ∷ []) (d ∷ cs) rest k))

-- The text ran out: all that stands behind the opening quote was taken.
pub ran_out_parse : (cs : Text) → runs_out cs ≡ true
    → parse_char cs ≡ char_token (39 ∷ cs) [] (fault UnterminatedCharacter (length (39 ∷ cs)) (length (39 ∷ cs)) ∷ []) true
unfolding runs_out parse_char char_escape
ran_out_parse [] h = refl
ran_out_parse (c ∷ []) h = rw (is_eq c 92 h)
ran_out_parse (c ∷ d ∷ cs) h = absurd (false≢true h)

-- ── Errors ──

-- Faults right behind the first character.
abbrev Near : List Fault → Type 0
Near [] = Unit
Near (f ∷ fs) = (f.from ≡ 1) × (f.to ≡ 1) × Near fs

module _ (p q : Position) (g h : Segment) (a b : Text) (x : q ≡ advance p 39) (y : g.chars ≡ 39 ∷ 92 ∷ a) (z : h.chars ≡ 92 ∷ b) where
  near_place : (k : ℕ) → k ≡ 1 → place_in p g (later_from 1 k) ≡ place_in q h k
  unfolding later_from advances
  near_place k e = rw (e, y, z, x)

  near_errors : (fs : List Fault) → Near fs → errors_of p g (map (later_fault 1) fs) ≡ errors_of q h fs
  unfolding errors_of
  near_errors [] n = refl
  near_errors (f ∷ fs) n =
      let E : Position → Position → TokenizeError = λ u v. record { kind = f.kind; span = span u v; char = f.char } in
      ap₂ (λ (e : TokenizeError) (es : List TokenizeError). e ∷ es)
      (ap₂ E (near_place f.from n.0) (near_place f.to n.1)) (near_errors fs n.2)

escape_chars : (e : Char) (cs : Text) → (escape_letter e cs).chars ≡ 92 ∷ e ∷ take (escape 1 (record { text = e ∷ []; extra = 0; faults = [] }) e cs).extra cs
unfolding escape_letter
escape_chars e cs = refl

escape_near : (e : Char) (cs : Text) → Near (escape_letter e cs).faults
unfolding escape_letter escape unicode_escape plain_escape
escape_near e cs =
    if_all (λ (x : Escape). Near x.faults) (e is 117) (λ _. unicode (hex_code 4 0 cs)) (λ _. plain (lookup e ESCAPES))
  where
    unicode : (o : Option ℕ) → Near (unicode_escape 1 o).faults
    unicode none = (refl, refl, tt)
    unicode (some v) = tt

    plain : (o : Option Char) → Near (plain_escape (record { text = e ∷ []; extra = 0; faults = [] }) o).faults
    plain none = tt
    plain (some c) = tt

escape_errors : (p q : Position) (e : Char) (cs : Text) (g : Segment) (t : Text) → q ≡ advance p 39 → g.chars ≡ 39 ∷ ((escape_letter e cs).chars ++ t)
    → errors_of p g (map (later_fault 1) (escape_letter e cs).faults) ≡ unit_errors q (escape_letter e cs)
unfolding unit_errors
escape_errors p q e cs g t x y =
    let u = escape_letter e cs in
    near_errors p q g (skipped string u.chars u.faults false) _ _ x (y ∙ ap (λ (l : Text). 39 ∷ (l ++ t)) (escape_chars e cs)) (escape_chars e cs)
    u.faults (escape_near e cs)

pub letter_errors : (p q : Position) (cs : Text) (g : Segment) (t : Text) → q ≡ advance p 39 → g.chars ≡ 39 ∷ ((letter_of cs).chars ++ t)
    → errors_of p g (faults_of cs) ≡ unit_errors q (letter_of cs)
unfolding letter_of unit_errors plain_unit errors_of
letter_errors p q [] g t x y = refl
letter_errors p q (c ∷ []) g t x y = refl
letter_errors p q (c ∷ d ∷ cs) g t x y = go (c is 92) y
  where
    go : (b : Bool) → g.chars ≡ 39 ∷ ((if b then escape_letter d cs else plain_unit c).chars ++ t)
        → errors_of p g (map (later_fault 1) (if b then escape_letter d cs else plain_unit c).faults)
        ≡ unit_errors q (if b then escape_letter d cs else plain_unit c)
    go true y = escape_errors p q d cs g t x y
    go false y = refl

-- One error more, at the end of the segment.
pub errors_then : (p : Position) (g : Segment) (fs gs : List Fault) → errors_of p g (fs ++ gs) ≡ errors_of p g fs ++ errors_of p g gs
unfolding errors_of
errors_then p g [] gs = refl
errors_then p g (f ∷ fs) gs = rw (errors_then p g fs gs)

pub end_error : (p q : Position) (g : Segment) (n : ℕ) → n ≡ length g.chars → q ≡ advances p g.chars
    → errors_of p g (fault UnterminatedCharacter n n ∷ []) ≡ error_at UnterminatedCharacter q q ∷ []
unfolding errors_of
end_error p q g n e m = rw (e, take-length g.chars, ← m)

-- ── The closing quote ──

pub close_yes : (cs t rest : Text) (fs : List Fault) → starts_with (text "'") rest ≡ true → close_char cs t fs rest ≡ char_token (cs ++ text "'") t fs false
unfolding close_char
close_yes cs t rest fs e = rw e

pub close_no : (cs t rest : Text) (fs : List Fault) → starts_with (text "'") rest ≡ false
    → close_char cs t fs rest ≡ char_token cs t (fs ++ (fault UnterminatedCharacter (length cs) (length cs) ∷ [])) false
unfolding close_char
close_no cs t rest fs e = rw e
