-- Tokens that are found outside of strings. Assumes nothing.
use mathlib.Core.Path.{◌≡◌, refl, sym, ap, ◌∙◌, subst}
use mathlib.Core.Bool.{Bool, true, false}
use mathlib.Core.List.{List, [], ◌∷◌}
use Prim.Native.Nat.{ℕ, ◌-◌}
use lib.ListN.{length}
use lib.Seq.{slice, length-slice}
use Rattle.characters.specs.Utf8.{chars_at, encode}
use Rattle.spans.specs.declared.Position.{Position}
use Rattle.rules.specs.Text.{Text}
use Rattle.rules.specs.Tokens.{Token, TokenizeError}
use Rattle.rules.specs.Tables.{Error}
use Rattle.rules.specs.Lexer.{advances, span}
use Rattle.rules.proofs.Placed.{span_plain}
use Rattle.cursor.specs.Cursor.{Yields}
use Rattle.cursor.specs.declared.Cursor.TheVariants as cur
use Rattle.records.specs.Kinds.{is_made}
use Rattle.records.specs.Layout.{error_bytes}
use Rattle.bridge.specs.Bridge.{Within}
use Rattle.output.specs.Writing.{Put}
use Rattle.walks.specs.Segments.{segment_at, errors_at, OneToken}
use Rattle.walks.proofs.Segments.{one_token_yields}
use Rattle.steps.specs.Step.{Good}
use Rattle.steps.specs.Tokens.{outside_at, made_token, part_token, is_ended, Found}
use Rattle.output.proofs.Buffers.{put_none}
use Rattle.walks.proofs.Errors.{put_no}
use Rattle.records.proofs.KindLaws.{error_part}
use Rattle.steps.proofs.Entries.{made_is, made_none, made_entry, part_entry}

-- The span of a token that was reached starts where the token does.
pub span_start : (p q : Position) (t : Text) → q ≡ advances p t → (span p q).start ≡ p.offset
span_start p q t e =
    ap (λ (x : Position). (span p x).start) e ∙ ap (λ x. x.start) (span_plain p t)

pub outside_good : (s : List ℕ) (q : Position) → Within s q → Good s (outside_at q)
outside_good s q w = record { at = w }

pub outside_goes : (q : Position) → is_ended (outside_at q).within ≡ false
unfolding is_ended
outside_goes q = refl

module _ (s : List ℕ) (p q : Position) (texts texts' : List ℕ) (ut te : ℕ) (errors errors' : List ℕ) (ue ee : ℕ) where
  -- A token whose text is made: its text and its errors were written.
  pub made_found : (kind : ℕ) (t : Text) (o : Bool) → is_made kind ≡ true → OneToken s p kind t q q → Put texts texts' ut (encode t) te
      → Put errors errors' ue (error_bytes (errors_at s p)) ee → (segment_at s p).open_end ≡ o
      → Found s (cur.Outside p) p.offset texts ut errors ue (made_token kind p q ut (record { texts = te; errors = ee }) o) (outside_at q) texts' errors'
  made_found kind t o m one a b e =
      let token : Token = record { kind = kind; text = t; span = span p q } in
      record {
        token = token;
        errors = errors_at s p;
        yields = subst
            (λ (x : Bool). Yields (cur.Outside p) (chars_at s p.offset) (token ∷ []) (errors_at s p) x (cur.Outside q) (chars_at s q.offset))
            e (one_token_yields s p q kind t q one);
        written =
            record {
              kind = refl;
              entry = made_entry ut token te m a.place;
              texts = subst (λ (bs : List ℕ). Put texts texts' ut bs te) (sym (made_is ut token m)) a;
              errors = b;
            };
        good = outside_good s q one.reach.within;
        goes_on = outside_goes q;
      }

  -- The same where it has no errors.
  pub clean_found : (kind : ℕ) (t : Text) (o : Bool) → is_made kind ≡ true → OneToken s p kind t q q → Put texts texts' ut (encode t) te
      → errors_at s p ≡ [] → errors' ≡ errors → ee ≡ ue → (segment_at s p).open_end ≡ o
      → Found s (cur.Outside p) p.offset texts ut errors ue (made_token kind p q ut (record { texts = te; errors = ee }) o) (outside_at q) texts' errors'
  clean_found kind t o m one a f k n e =
      made_found kind t o m one a
      (subst (λ (es : List TokenizeError). Put errors errors' ue (error_bytes es) ee) (sym f)
      (rw (k, n) (put_no errors ue))) e

module _ (s : List ℕ) (p q : Position) (texts : List ℕ) (ut : ℕ) (errors errors' : List ℕ) (ue ee : ℕ) where
  -- An unexpected character: its text is a part of the script.
  pub part_found : (t : Text) → OneToken s p Error t q q → slice p.offset q.offset s ≡ encode t
      → Put errors errors' ue (error_bytes (errors_at s p)) ee → (segment_at s p).open_end ≡ false
      → Found s (cur.Outside p) p.offset texts ut errors ue (part_token p q (record { texts = ut; errors = ee })) (outside_at q) texts errors'
  part_found t one f b e =
      let token : Token = record { kind = Error; text = t; span = span p q } in
      let n : length (slice p.offset q.offset s) ≡ q.offset - p.offset = length-slice p.offset q.offset s one.reach.within.inside in
      record {
        token = token;
        errors = errors_at s p;
        yields = subst
            (λ (x : Bool). Yields (cur.Outside p) (chars_at s p.offset) (token ∷ []) (errors_at s p) x (cur.Outside q) (chars_at s q.offset))
            e (one_token_yields s p q Error t q one);
        written =
            record {
              kind = refl;
              entry = part_entry ut token p.offset (q.offset - p.offset) error_part
                  (sym (span_start p q (segment_at s p).chars one.reach.moved)) (sym n ∙ ap length f);
              texts = subst (λ (bs : List ℕ). Put texts texts ut bs ut) (sym (made_none ut token error_part)) (put_none texts ut);
              errors = b;
            };
        good = outside_good s q one.reach.within;
        goes_on = outside_goes q;
      }
