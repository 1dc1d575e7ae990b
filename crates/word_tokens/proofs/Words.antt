-- Words that are found. Assumes nothing.
use Rattle.std.specs.Prelude.{if◌then◌else◌}
use mathlib.Core.Path.{◌≡◌, refl, sym, ap, ◌∙◌, subst}
use mathlib.Core.Bool.{Bool, true, false, true≢false}
use mathlib.Core.List.{List, [], ◌∷◌}
use Prim.Native.Nat.{ℕ, zero, suc, ◌+◌, ◌≤◌}
use native.Mathlib.Omega.{arith}
use lib.ListN.{length, take}
use lib.Seq.{slice, length-slice, length-take-le}
use borrow.Author.Tests.{eqb-true}
use Rattle.characters.specs.Choice.{◌is◌}
use Rattle.characters.specs.Utf8.{encode}
use Rattle.spans.specs.declared.Position.{Position}
use Rattle.rules.specs.Text.{Text, text}
use Rattle.rules.specs.Tokens.{Token}
use Rattle.rules.specs.Tables.{DoubleColonT}
use Rattle.rules.specs.Segment.{Segment}
use Rattle.rules.specs.Lexer.{advances, span, tokens_of, errors_of}
use Rattle.rules.specs.Bounds.{Every}
use Rattle.rules.proofs.Fits.{encode_ascii}
use Rattle.cursor.specs.declared.Cursor.TheVariants as cur
use Rattle.records.specs.Kinds.{has_text}
use Rattle.records.specs.Records.{token_record}
use Rattle.records.specs.Layout.{record_of}
use Rattle.rules.specs.Script.{as_bytes}
use Rattle.bridge.specs.Bridge.{Within, Reach, Flat, onward}
use Rattle.bridge.proofs.Reaches.{advances_flat, word_reach}
use Rattle.output.specs.Writing.{Put}
use Rattle.output.proofs.Buffers.{put_none}
use Rattle.walks.specs.Segments.{segment_at, errors_at, OneToken}
use Rattle.walks.proofs.Segments.{one_token_yields}
use Rattle.walks.proofs.Errors.{put_no}
use Rattle.lexemes.specs.declared.Word.{Word}
use Rattle.lexemes.specs.Words.{word_text, WordAt}
use Rattle.steps.specs.Tokens.{outside_at, word_token, Found}
use Rattle.steps.proofs.Entries.{made_none, part_entry, bare_entry}
use Rattle.steps.proofs.Founds.{span_start, outside_good, outside_goes}
use Rattle.word_tokens.proofs.Plain.{PlainKind}

flat_take : (k : ℕ) (t : Text) → Flat t → Flat (take k t)
flat_take zero t f = tt
flat_take (suc k) [] f = tt
flat_take (suc k) (c ∷ t) f = (f.0, f.1, flat_take k t f.2)

flat_ascii : (t : Text) → Flat t → Every (λ (c : ℕ). c ≤ 0x7F) t
flat_ascii [] f = tt
flat_ascii (c ∷ t) f = (f.1, flat_ascii t f.2)

flat_encode : (t : Text) → Flat t → encode t ≡ t
flat_encode t f = encode_ascii t (flat_ascii t f)

-- A kind that carries its text is not the one with a spelling of its own.
own_text : (k : ℕ) (t : Text) → has_text k ≡ true → word_text k t ≡ t
unfolding word_text has_text
own_text k t h = go (k is DoubleColonT) refl
  where
    go : (b : Bool) → (k is DoubleColonT) ≡ b → (if b then text "::=" else t) ≡ t
    go true e = absurd (true≢false (sym h ∙ rw (eqb-true k DoubleColonT e)))
    go false e = refl

module _ (s : List ℕ) (p : Position) (w : Word) (texts : List ℕ) (ut : ℕ) (errors : List ℕ) (ue : ℕ)
    (x : WordAt s p.offset (segment_at s p) w.kind w.length w.extent) (i : Within s p) where
  abbrev chars : Text
  chars = slice p.offset (p.offset + w.length) s

  abbrev found : Token
  found = record { kind = w.kind; text = word_text w.kind chars; span = span p (onward p w.extent) }

  size : length chars ≡ w.length
  size =
      let n = length-slice p.offset (p.offset + w.length) s x.inside in
      omega arith

  reached : Reach s p chars (onward p w.length)
  reached = word_reach s p chars w.length x.flat i x.whole size

  ends : advances p (take w.extent chars) ≡ onward p w.extent
  ends =
      let h : w.extent ≤ length chars = let y = x.short in let z = size in omega arith in
      advances_flat p (take w.extent chars) (flat_take w.extent chars x.flat)
      ∙ ap (onward p) (length-take-le w.extent chars h)

  tokens_are : tokens_of p (segment_at s p) (segment_at s p).pieces ≡ found ∷ []
  unfolding tokens_of
  tokens_are =
      ap (λ (g : Segment). tokens_of p g g.pieces) x.same
      ∙ ap (λ (q : Position). record { kind = w.kind; text = word_text w.kind chars; span = span p q } ∷ []) ends

  errors_are : errors_at s p ≡ []
  unfolding errors_of
  errors_are = ap (λ (g : Segment). errors_of p g g.faults) x.same

  chars_are : (segment_at s p).chars ≡ chars
  chars_are = ap (λ (g : Segment). g.chars) x.same

  one : OneToken s p w.kind (word_text w.kind chars) (onward p w.extent) (onward p w.length)
  one =
      record {
        sort = ap (λ (g : Segment). g.sort) x.same;
        token = tokens_are;
        reach = subst (λ (t : Text). Reach s p t (onward p w.length)) (sym chars_are) reached;
        forth = let y = x.some in omega arith;
      }

  starts : p.offset ≡ found.span.start
  starts = sym (span_start p (onward p w.extent) (take w.extent chars) (sym ends))

  entry : (b : Bool) → has_text w.kind ≡ b → PlainKind w.kind
      → token_record w.kind found.span p.offset w.length ≡ record_of ut (as_bytes found)
  entry true h m =
      part_entry ut found p.offset w.length m starts
      (sym size ∙ ap length (sym (flat_encode chars x.flat) ∙ ap encode (sym (own_text w.kind chars h))))
  entry false h m = bare_entry ut found p.offset w.length h

  pub word_found : PlainKind w.kind
      → Found s (cur.Outside p) p.offset texts ut errors ue (word_token p w (record { texts = ut; errors = ue })) (outside_at (onward p w.length)) texts errors
  word_found m =
      record {
        token = found;
        errors = [];
        yields = rw (← errors_are, ← (ap (λ (g : Segment). g.open_end) x.same))
            (one_token_yields s p (onward p w.length) w.kind (word_text w.kind chars) (onward p w.extent) one);
        written =
            record {
              kind = refl;
              entry = entry (has_text w.kind) refl m;
              texts = subst (λ (bs : List ℕ). Put texts texts ut bs ut) (sym (made_none ut found m)) (put_none texts ut);
              errors = put_no errors ue;
            };
        good = outside_good s (onward p w.length) reached.within;
        goes_on = outside_goes (onward p w.length);
      }
