-- Records written one after another tell places that fill the text buffer's front. Assumes nothing.
use Rattle.std.specs.Prelude.{if◌then◌else◌}
use mathlib.Core.Path.{◌≡◌, refl, sym, ◌∙◌, ap, subst}
use mathlib.Core.Bool.{Bool, true, false, true≢false}
use mathlib.Core.List.{List, [], ◌∷◌, ◌++◌, append_assoc, append-nil}
use Prim.Native.Nat.{ℕ, zero, suc, ◌+◌, ◌≤◌}
use native.Mathlib.Nat.{not-suc-le-zero, le_of_suc-le-suc, add-zero, zero-add, add_assoc}
use native.Mathlib.Omega.{arith}
use borrow.Author.Tests.{eq-eqb, ne_eqb}
use lib.ListN.{length, length-append}
use Rattle.characters.specs.Choice.{◌is◌}
use Rattle.rules.specs.Tokens.{Token}
use Rattle.rules.specs.Tables.{EOF}
use Rattle.rules.specs.Bounds.{Every, Small}
use Rattle.records.specs.Kinds.{has_text, is_made}
use Rattle.refusals.specs.Answers.{got}
use Rattle.record_reading.specs.Reading.{next_at}
use Rattle.records.specs.Layout.{made_text, text_bytes, text_offset, record_of, token_bytes_from, token_bytes}
use Rattle.record_lists.specs.Lists.{TokenFits, Ended}
use Rattle.records.proofs.Filling.{tokens_cons, texts_cons, length_record}
use Rattle.record_lists.proofs.Back.{read_of, place_after, next_back}
use Rattle.lexer.specs.Places.{Place, place_of, place_turn, places_from, Fills}
use Rattle.lexer.proofs.Fits.{fixed_not_made}

-- What is left of the records, from a place in their buffer on.
record Left (s : List ℕ) (at used : ℕ) (ts : List Token) : Type 0 where
  before : List ℕ
  after : List ℕ
  records : s ≡ before ++ (token_bytes_from used ts ++ after)
  place : at ≡ length before
  small : Small (used + length (text_bytes ts))

fills_by : (ps : List Place) (a b to : ℕ) → a ≡ b → Fills b ps to → Fills a ps to
fills_by ps a b to e f = subst (λ (n : ℕ). Fills n ps to) (sym e) f

kind_read : (used : ℕ) (t : Token) → (read_of used t).kind ≡ t.kind
unfolding read_of
kind_read used t = refl

-- The last text ends where all of them do.
last_fills : (used : ℕ) (t : Token) → Fills (used + length (made_text t)) [] (used + length (text_bytes (t ∷ [])))
unfolding Fills text_bytes
last_fills used t = rw (append-nil (made_text t))

module _ (script s : List ℕ) (at used : ℕ) (t : Token) (ts : List Token) (b : Left s at used (t ∷ ts)) (fits : TokenFits script t) where
  size : length (text_bytes (t ∷ ts)) ≡ length (made_text t) + length (text_bytes ts)
  size = ap length (texts_cons t ts) ∙ length-append (made_text t) (text_bytes ts)

  split : s ≡ b.before ++ (record_of used t ++ (token_bytes_from (used + length (made_text t)) ts ++ b.after))
  split =
      b.records
      ∙ rw (tokens_cons used t ts, append_assoc (record_of used t) (token_bytes_from (used + length (made_text t)) ts) b.after)

  offset_small : (m : Bool) → is_made t.kind ≡ m → Small (text_offset used t)
  unfolding text_offset
  offset_small true e = rw e (omega (arith, b.small))
  offset_small false e = rw e fits.span.start

  next_is : next_at s at ≡ record { answer = got (read_of used t); place = place_after at t }
  next_is = rw (split, b.place) (next_back script b.before _ used t fits (offset_small (is_made t.kind) refl))

  left_next : (t.kind ≡ EOF → ⊥) → Left s (place_after at t) (used + length (made_text t)) ts
  unfolding place_after
  left_next n =
      record {
        before = b.before ++ record_of used t;
        after = b.after;
        records = split ∙ sym (append_assoc b.before (record_of used t) _);
        place =
            rw (ne_eqb t.kind EOF n)
            (omega (arith, b.place, length-append b.before (record_of used t), length_record used t));
        small = omega (arith, b.small, size);
      }

  -- The place of the token's text, in front of others.
  fills_one : (ps : List Place) (to : ℕ) → Fills (used + length (made_text t)) ps to → Fills used (place_of (read_of used t) ++ ps) to
  unfolding place_of read_of text_offset made_text Fills
  fills_one ps to f = go (is_made t.kind) refl (has_text t.kind) refl f
    where
      go : (m : Bool) → is_made t.kind ≡ m → (h : Bool) → has_text t.kind ≡ h
          → Fills (used + length (if m then t.text else [])) ps to
          → Fills used
          ((if m
          then record {
            offset = if h then if m then used else t.span.start else 0;
            size = if h then length t.text else 0;
          }
          ∷ []
          else [])
          ++ ps)
          to
      go true e true g f = (refl, f)
      go true e false g f = absurd (true≢false (sym e ∙ fixed_not_made t.kind g))
      go false e h g f = fills_by ps used (used + 0) to (sym (add-zero used)) f

  places_turn : (n : ℕ)
      → places_from (suc n) s at ≡ place_of (read_of used t) ++ (if t.kind is EOF then [] else places_from n s (place_after at t))
  unfolding places_from place_turn
  places_turn n = rw (next_is, kind_read used t)

-- From a token on.
places_fill : (script s : List ℕ) (at used : ℕ) (ts : List Token) (n : ℕ) → Left s at used ts → Every (TokenFits script) ts → Ended ts
    → length ts ≤ n → Fills used (places_from n s at) (used + length (text_bytes ts))
unfolding Ended
places_fill script s at used [] n b f e h = absurd e
places_fill script s at used (t ∷ ts) zero b f e h = absurd (not-suc-le-zero h)
places_fill script s at used (t ∷ []) (suc n) b f e h =
    rw (places_turn script s at used t [] b f.0 n, eq-eqb t.kind EOF e)
    (fills_one script s at used t [] b f.0 [] (used + length (text_bytes (t ∷ []))) (last_fills used t))
places_fill script s at used (t ∷ u ∷ ts) (suc n) b f e h =
    let m = used + length (made_text t) in
    let q = places_fill script s (place_after at t) m (u ∷ ts) n (left_next script s at used t (u ∷ ts) b f.0 e.0) f.1 e.1 (le_of_suc-le-suc h) in
    rw (places_turn script s at used t (u ∷ ts) b f.0 n, ne_eqb t.kind EOF e.0)
    (fills_one script s at used t (u ∷ ts) b f.0 (places_from n s (place_after at t)) (used + length (text_bytes (t ∷ u ∷ ts)))
    (rw (size script s at used t (u ∷ ts) b f.0, ← add_assoc used (length (made_text t)) (length (text_bytes (u ∷ ts)))) q))

-- The places that the records of tokens tell fill the front of the text buffer, from 0 to the length of all texts made.
pub places_filled : (script : List ℕ) (ts : List Token) (after : List ℕ) (n : ℕ) → Every (TokenFits script) ts → Ended ts → Small (length (text_bytes ts))
    → length ts ≤ n → Fills 0 (places_from n (token_bytes ts ++ after) 0) (length (text_bytes ts))
unfolding token_bytes
places_filled script ts after n f e small h =
    rw (← zero-add (length (text_bytes ts)))
    (places_fill script (token_bytes_from 0 ts ++ after) 0 0 ts n
    (record { before = []; after = after; records = refl; place = refl; small = rw (zero-add (length (text_bytes ts))) small })
    f
    e
    h)
