-- Steps that give a token or EOF, and errors recorded before them. Assumes nothing.
use mathlib.Core.Path.{◌≡◌, refl, sym, ap, ◌∙◌, subst}
use mathlib.Core.Bool.{Bool, true, false, ◌||◌}
use mathlib.Core.List.{List, [], ◌∷◌, ◌++◌, append_assoc}
use Prim.Native.Nat.{ℕ}
use native.Mathlib.Omega.{arith}
use lib.ListN.{length, length-append}
use lib.Seq.{sets}
use Rattle.characters.specs.Utf8.{chars_at}
use Rattle.characters.proofs.Buffers.{sets_append}
use Rattle.spans.specs.declared.Position.{Position}
use Rattle.rules.specs.Text.{Text}
use Rattle.rules.specs.Tokens.{Token, TokenizeError}
use Rattle.rules.specs.Lexer.{Lexed, eof}
use Rattle.rules.proofs.Join.{or_assoc}
use Rattle.cursor.specs.Cursor.{left, Yields, and_then as thenLexed}
use Rattle.cursor.specs.declared.Cursor as cursor
use Rattle.cursor.specs.declared.Cursor.TheVariants as cur
use Rattle.cursor.proofs.Steps.{left_end}
use Rattle.records.specs.Layout.{error_bytes}
use Rattle.records.proofs.Filling.{errors_append}
use Rattle.bridge.specs.Bridge.{Within}
use Rattle.output.specs.Writing.{Put}
use Rattle.output.proofs.Buffers.{put_none}
use Rattle.walks.proofs.Errors.{put_no}
use Rattle.steps.specs.Step.{Rest, rest_of, rest_within, rest, and_then, GivesOf, GivenBy, rest_outside}
use Rattle.steps.specs.Tokens.{end_token, cursor_of, is_ended, Found, FoundBy}
use Rattle.steps.specs.declared.Step.{Step}
use Rattle.steps.specs.declared.Step.TheVariants as step
use Rattle.steps.specs.declared.Cursor.{Cursor}
use Rattle.steps.specs.declared.Token as code
use Rattle.steps.specs.declared.Within as W
use Rattle.steps.specs.declared.Within.TheVariants.{Outside, Inside, Ended}
use Rattle.records.proofs.KindLaws.{eof_bare, eof_part}
use Rattle.steps.proofs.Entries.{made_none, bare_entry}

-- ── What is still to come ──

pub rest_then : (t : Token) (es : List TokenizeError) (o : Bool) (r : Lexed) → rest_of (thenLexed (t ∷ []) es o r) ≡ and_then t es o (rest_of r)
unfolding rest_of
rest_then t es o r = refl

-- A cursor that has not ended.
going : (w : W.Within) (p : Position) (cs : Text) → is_ended w ≡ false → rest_within w p cs ≡ rest_of (left (cursor_of w p) cs)
unfolding rest_within is_ended
going Outside p cs e = refl
going (Inside o l c) p cs e = refl
going Ended p cs e = absurd (let z : ◌≡◌ {A = Bool} true false = e in true_not z)
  where
    true_not : true ≡ false → ⊥
    true_not z = let y : ◌≡◌ {A = ℕ} 0 1 = cc in omega arith

rest_going : (s : List ℕ) (c : Cursor) → is_ended c.within ≡ false
    → rest s c ≡ rest_of (left (cursor_of c.within c.at) (chars_at s c.at.offset))
unfolding rest
rest_going s c e = going c.within c.at (chars_at s c.at.offset) e

-- A token that was found.
pub found_gives : (s : List ℕ) (c : cursor.Cursor) (place : ℕ) (texts : List ℕ) (ut : ℕ) (errors : List ℕ) (ue : ℕ) (t : code.Token) (c' : Cursor)
    (texts' errors' : List ℕ) → Found s c place texts ut errors ue t c' texts' errors'
    → GivesOf (rest_of (left c (chars_at s place))) s texts ut errors ue t c' texts' errors'
found_gives s c place texts ut errors ue t c' texts' errors' f =
    let w = f.written in
    record {
      token = f.token;
      errors = f.errors;
      same = ap rest_of f.yields
          ∙ (rest_then f.token f.errors t.ran_out (left (cursor_of c'.within c'.at) (chars_at s c'.at.offset))
          ∙ ap (and_then f.token f.errors t.ran_out) (sym (rest_going s c' f.goes_on)));
      kind = w.kind;
      entry = w.entry;
      text_written = w.texts.written;
      text_used = w.texts.place;
      errors_written = w.errors.written;
      errors_used = w.errors.place;
      good = f.good;
    }

-- ── EOF ──

module _ (s : List ℕ) (p : Position) (texts : List ℕ) (ut : ℕ) (errors : List ℕ) (ue : ℕ) (i : Within s p) (e : chars_at s p.offset ≡ []) where
  abbrev ended : Cursor
  ended = record { at = p; within = Ended }

  at_end : rest_outside s p ≡ and_then (eof p) [] false (rest s ended)
  unfolding rest_of rest rest_within
  at_end = ap (λ (cs : Text). rest_of (left (cur.Outside p) cs)) e ∙ ap rest_of (left_end p)

  pub end_gives : GivesOf (rest_outside s p) s texts ut errors ue (end_token p (record { texts = ut; errors = ue }) false) ended texts errors
  end_gives =
      let t = put_none texts ut in
      let none = subst (λ (bs : List ℕ). Put texts texts ut bs ut) (sym (made_none ut (eof p) eof_part)) t in
      let no = put_no errors ue in
      record {
        token = eof p;
        errors = [];
        same = at_end;
        kind = refl;
        entry = bare_entry ut (eof p) 0 0 eof_bare;
        text_written = none.written;
        text_used = none.place;
        errors_written = no.written;
        errors_used = no.place;
        good = record { at = i };
      }

-- ── Errors recorded before a token ──

rest_before : (es : List TokenizeError) (o : Bool) (r : Lexed) (t : Token) (fs : List TokenizeError) (o' : Bool) (x : Rest) → rest_of r ≡ and_then t fs o' x
    → rest_of (thenLexed [] es o r) ≡ and_then t (es ++ fs) (o || o') x
unfolding rest_of
rest_before es o r t fs o' x e =
    let a = ap (λ (y : Rest). y.tokens) e in
    let b = ap (λ (y : Rest). es ++ y.errors) e ∙ sym (append_assoc es fs x.errors) in
    let c = ap (λ (y : Rest). o || y.ran_out) e ∙ or_assoc o o' x.ran_out in
    λ i. record { tokens = a i; errors = b i; ran_out = c i }

-- The errors `es`, written at `ue`, come before what a step gives where they end. `t` says that the text ran out where either does.
pub before_gives : (s : List ℕ) (c : cursor.Cursor) (cs : Text) (d : cursor.Cursor) (ds : Text) (es : List TokenizeError) (o : Bool)
    (texts : List ℕ) (ut : ℕ) (errors mid : List ℕ) (ue me : ℕ) (t u : code.Token) (c' : Cursor) (texts' errors' : List ℕ)
    → Yields c cs [] es o d ds → Put errors mid ue (error_bytes es) me
    → GivesOf (rest_of (left d ds)) s texts ut mid me t c' texts' errors'
    → u ≡ record { fields = t.fields; fill = t.fill; ran_out = o || t.ran_out }
    → GivesOf (rest_of (left c cs)) s texts ut errors ue u c' texts' errors'
before_gives s c cs d ds es o texts ut errors mid ue me t u c' texts' errors' y w g h =
    rw h (
    record {
      token = g.token;
      errors = es ++ g.errors;
      same = ap rest_of y ∙ rest_before es o (left d ds) g.token g.errors t.ran_out (rest s c') g.same;
      kind = g.kind;
      entry = g.entry;
      text_written = g.text_written;
      text_used = g.text_used;
      errors_written = g.errors_written
          ∙ (rw (w.written, w.place) (sets_append errors ue (error_bytes es) (error_bytes g.errors))
          ∙ ap (sets errors ue) (sym (errors_append es g.errors)));
      errors_used =
          let a = ap length (errors_append es g.errors) ∙ length-append (error_bytes es) (error_bytes g.errors) in
          let b = g.errors_used in
          let p = w.place in
          omega arith;
      good = g.good;
    }
    )

-- ── Steps that are not yet taken apart ──

module _ (s texts : List ℕ) (ut : ℕ) (errors : List ℕ) (ue : ℕ) (texts' errors' : List ℕ) where
  pub found_given : (c : cursor.Cursor) (place : ℕ) (r : Step) → FoundBy s c place texts ut errors ue r texts' errors'
      → GivenBy (rest_of (left c (chars_at s place))) s texts ut errors ue r texts' errors'
  found_given c place (step.Token t c') f = found_gives s c place texts ut errors ue t c' texts' errors' f
  found_given c place step.End f = f

  -- A step that gives nothing more of errors before it.
  same_token : (t : code.Token) (o : Bool) → o ≡ false
      → t ≡ record { fields = t.fields; fill = t.fill; ran_out = o || t.ran_out }
  same_token t o e = rw e

  pub before_given : (c : cursor.Cursor) (cs : Text) (d : cursor.Cursor) (ds : Text) (es : List TokenizeError) (o : Bool) (old : List ℕ) (u : ℕ) (r : Step)
      → o ≡ false → Yields c cs [] es o d ds → Put old errors u (error_bytes es) ue
      → GivenBy (rest_of (left d ds)) s texts ut errors ue r texts' errors' → GivenBy (rest_of (left c cs)) s texts ut old u r texts' errors'
  before_given c cs d ds es o old u (step.Token t c') e y w g =
      before_gives s c cs d ds es o texts ut old errors u ue t t c' texts' errors' y w g (same_token t o e)
  before_given c cs d ds es o old u step.End e y w g = g
