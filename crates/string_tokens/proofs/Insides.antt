-- Pieces of strings that are found. Assumes nothing.
use mathlib.Core.Path.{◌≡◌, refl, sym, ap, ◌∙◌, subst}
use mathlib.Core.Bool.{Bool, true, false, not, true≢false}
use mathlib.Core.List.{List, [], ◌∷◌}
use Prim.Native.Nat.{ℕ, ◌+◌, ◌-◌}
use native.Mathlib.Omega.{arith}
use lib.ListN.{length}
use Rattle.characters.specs.Utf8.{chars_at, encode}
use Rattle.spans.specs.declared.Position.{Position}
use Rattle.rules.specs.Text.{Text, text}
use Rattle.rules.specs.Scan.{next, starts_with}
use Rattle.rules.specs.Tokens.{Token}
use Rattle.cursor.specs.Cursor.{held, left, position, and_then}
use Rattle.cursor.specs.declared.Cursor as cursor
use Rattle.cursor.specs.declared.Cursor.TheVariants as cur
use Rattle.cursor.proofs.Steps.{enters_string}
use Rattle.cursor.proofs.Inside.{left_inside}
use Rattle.records.specs.Records.{token_record}
use Rattle.records.specs.Layout.{record_of}
use Rattle.rules.specs.Script.{as_bytes}
use Rattle.bridge.specs.Bridge.{Within, exactly, onward}
use Rattle.bridge.proofs.Reaches.{advance_flat, one_on}
use Rattle.output.specs.Writing.{Put}
use Rattle.walks.specs.Walks.{quotes}
use Rattle.interpolations.specs.declared.Given.{Given}
use Rattle.strings.specs.declared.Piece.{Piece}
use Rattle.strings.specs.declared.Piece.TheVariants as piece
use Rattle.strings.specs.Pieces.{Gives, Over, PieceAt, token_of}
use Rattle.steps.specs.Step.{Good, GivenBy, rest_of, rest_outside}
use Rattle.steps.specs.declared.Step.{Step}
use Rattle.steps.proofs.Giving.{before_given}
use Rattle.steps.specs.Tokens.{cursor_of, is_ended, Found}
use Rattle.string_tokens.specs.Inside.{given_token, next_cursor}
use Rattle.steps.proofs.Entries.{made_is, made_entry}

next_is : (c : cursor.Cursor) → cursor_of (next_cursor c).within (next_cursor c).at ≡ c
next_is (cur.Outside p) = refl
next_is (cur.InString start p) = refl

next_at_lem : (c : cursor.Cursor) → (next_cursor c).at ≡ position c
next_at_lem (cur.Outside p) = refl
next_at_lem (cur.InString start p) = refl

next_goes : (c : cursor.Cursor) → is_ended (next_cursor c).within ≡ false
unfolding is_ended
next_goes (cur.Outside p) = refl
next_goes (cur.InString start p) = refl

next_good : (s : List ℕ) (c : cursor.Cursor) → Within s (position c) → Good s (next_cursor c)
next_good s (cur.Outside p) w = record { at = w }
next_good s (cur.InString start p) w = record { at = w }

module _ (s : List ℕ) (c : cursor.Cursor) (place : ℕ) (p start : Position) (first : Bool) (texts texts' : List ℕ) (ut : ℕ) (errors errors' : List ℕ) (ue : ℕ) (g : Given)
    (here : left c (chars_at s place) ≡ held (not first) start p [] (chars_at s p.offset))
    (x : Gives s p start first texts texts' ut errors errors' ue g) where
  abbrev found : Token
  found = token_of g.token x.text

  entry : token_record g.token.kind g.token.span g.token.offset g.token.length ≡ record_of ut (as_bytes found)
  entry =
      let n = x.made.place in
      rw (x.offset, x.size ∙ size_of) (made_entry ut found (ut + length (encode x.text)) x.kind_made refl)
    where
      size_of : length (encode x.text) ≡ ut + length (encode x.text) - ut
      size_of = omega arith

  pub piece_found : Found s c place texts ut errors ue (given_token g) (next_cursor g.next) texts' errors'
  piece_found =
      record {
        token = found;
        errors = x.recorded;
        yields =
            here
            ∙ (x.same
            ∙ ap (λ (n : cursor.Cursor). and_then (found ∷ []) x.recorded g.ran_out (left n (chars_at s (position g.next).offset))) (sym (next_is g.next))
            ∙ ap (λ (q : Position). and_then (found ∷ []) x.recorded g.ran_out (left (cursor_of (next_cursor g.next).within (next_cursor g.next).at) (chars_at s q.offset))) (sym (next_at_lem g.next)));
        written =
            record {
              kind = refl;
              entry = entry;
              texts = subst (λ (bs : List ℕ). Put texts texts' ut bs g.texts) (sym (made_is ut found x.kind_made)) x.made;
              errors = x.noted;
            };
        good = next_good s g.next x.within;
        goes_on = next_goes g.next;
      }

-- At an opening quote.
quotes_rest : (cs : Text) → starts_with quotes (34 ∷ cs) ≡ false → starts_with (text "\"\"") cs ≡ false
unfolding starts_with
quotes_rest cs e = e

pub quote_here : (s : List ℕ) (p : Position) → Within s p → next (exactly 34) (chars_at s p.offset) ≡ true → starts_with quotes (chars_at s p.offset) ≡ false
    → left (cur.Outside p) (chars_at s p.offset) ≡ held (not true) p (onward p 1) [] (chars_at s (onward p 1).offset)
quote_here s p w e q =
    let r = one_on s p 34 (omega arith) (omega arith) w e in
    let n : starts_with (text "\"\"") (chars_at s (p.offset + 1)) ≡ false = quotes_rest (chars_at s (p.offset + 1)) (subst (λ (l : Text). starts_with quotes l ≡ false) r.chars q) in
    ap (left (cur.Outside p)) r.chars
    ∙ (enters_string p (chars_at s (p.offset + 1)) n
    ∙ ap (λ (z : Position). held false p z [] (chars_at s (p.offset + 1))) (advance_flat p 34 (omega arith) (omega arith)))

pub inside_here : (s : List ℕ) (start p : Position)
    → left (cur.InString start p) (chars_at s p.offset) ≡ held (not false) start p [] (chars_at s p.offset)
inside_here s start p = left_inside start p (chars_at s p.offset)

-- A string that has only begun gives a token.
pub never_over : {A : Type 0} (s : List ℕ) (p start : Position) (texts texts' : List ℕ) (ut : ℕ) (errors errors' : List ℕ) (ue : ℕ) (x : Piece) (q : Position) (me : ℕ)
    → x ≡ piece.Over q me → PieceAt s p start true texts texts' ut errors errors' ue x → A
never_over s p start texts texts' ut errors errors' ue x q me e h =
    absurd (true≢false (subst (PieceAt s p start true texts texts' ut errors errors' ue) e h).later)

pub first_found : (s : List ℕ) (p q : Position) (texts texts' : List ℕ) (ut : ℕ) (errors errors' : List ℕ) (ue : ℕ) (x : Piece) (g : Given)
    → x ≡ piece.Token g → PieceAt s q p true texts texts' ut errors errors' ue x → q ≡ onward p 1 → Within s p
    → next (exactly 34) (chars_at s p.offset) ≡ true → starts_with quotes (chars_at s p.offset) ≡ false
    → Found s (cur.Outside p) p.offset texts ut errors ue (given_token g) (next_cursor g.next) texts' errors'
first_found s p q texts texts' ut errors errors' ue x g e h m w n k =
    piece_found s (cur.Outside p) p.offset q p true texts texts' ut errors errors' ue g
    (quote_here s p w n k ∙ ap (λ (z : Position). held false p z [] (chars_at s z.offset)) (sym m))
    (subst (PieceAt s q p true texts texts' ut errors errors' ue) e h)

pub later_found : (s : List ℕ) (p start : Position) (texts texts' : List ℕ) (ut : ℕ) (errors errors' : List ℕ) (ue : ℕ) (x : Piece) (g : Given)
    → x ≡ piece.Token g → PieceAt s p start false texts texts' ut errors errors' ue x
    → Found s (cur.InString start p) p.offset texts ut errors ue (given_token g) (next_cursor g.next) texts' errors'
later_found s p start texts texts' ut errors errors' ue x g e h =
    piece_found s (cur.InString start p) p.offset p start false texts texts' ut errors errors' ue g (inside_here s start p)
    (subst (PieceAt s p start false texts texts' ut errors errors' ue) e h)

-- The string is over: what is left is what is left outside, behind the errors.
pub over_is : (s : List ℕ) (p start : Position) (texts texts' : List ℕ) (ut : ℕ) (errors errors' : List ℕ) (ue : ℕ) (x : Piece) (q : Position) (me : ℕ)
    → x ≡ piece.Over q me → PieceAt s p start false texts texts' ut errors errors' ue x
    → Over s p start false texts texts' errors errors' ue q me
over_is s p start texts texts' ut errors errors' ue x q me e h = subst (PieceAt s p start false texts texts' ut errors errors' ue) e h

-- A step behind a string that is over.
pub over_given : (s : List ℕ) (p start : Position) (texts texts₁ : List ℕ) (ut : ℕ) (errors errors₁ : List ℕ) (ue : ℕ) (q : Position) (me : ℕ) (x : Step) (texts' errors' : List ℕ)
    → Over s p start false texts texts₁ errors errors₁ ue q me → GivenBy (rest_outside s q) s texts₁ ut errors₁ me x texts' errors'
    → GivenBy (rest_of (left (cur.InString start p) (chars_at s p.offset))) s texts ut errors ue x texts' errors'
over_given s p start texts texts₁ ut errors errors₁ ue q me x texts' errors' o g =
    before_given s texts ut errors₁ me texts' errors' (cur.InString start p) (chars_at s p.offset) (cur.Outside q) (chars_at s q.offset) o.recorded false errors ue x refl
    (inside_here s start p ∙ o.same) o.noted
    (subst (λ (t : List ℕ). GivenBy (rest_outside s q) s t ut errors₁ me x texts' errors') o.kept g)
