-- A word, printed. Assumes nothing.
use mathlib.Core.Path.{◌≡◌, refl, sym, ap, ◌∙◌, subst}
use mathlib.Core.Bool.{Bool, true, false}
use mathlib.Core.List.{List, [], ◌∷◌, append-nil}
use Prim.Native.Nat.{ℕ, ◌+◌, ◌≤◌}
use native.Mathlib.Omega.{arith}
use lib.ListN.{length, take, get_or}
use lib.Seq.{slice, length-slice}
use borrow.Author.Tests.{eqb-true}
use Rattle.characters.specs.Choice.{◌is◌, within}
use Rattle.characters.specs.Space.{is_white}
use Rattle.characters.specs.Utf8.{chars_at, encode}
use Rattle.characters.proofs.Choice.{if_all}
use Rattle.spans.specs.declared.Position.{Position}
use Rattle.rules.specs.Text.{Text, ch}
use Rattle.rules.specs.Tables.{DoubleColonT}
use Rattle.rules.specs.Segment.{Segment}
use Rattle.rules.specs.Bounds.{Every}
use Rattle.rules.specs.Lexer.{segment, advances, tokens_of, errors_of, span}
use Rattle.rules.proofs.Fits.{encode_ascii}
use Rattle.rules.proofs.Placed.{advances_offset}
use Rattle.cursor.specs.Cursor.{Yields}
use Rattle.cursor.specs.declared.Cursor.TheVariants.{Outside}
use Rattle.bridge.specs.Bridge.{placed, Within, Reach, Flat, onward}
use Rattle.bridge.proofs.Reaches.{word_reach}
use Rattle.lexemes.specs.Words.{word_text, WordAt}
use Rattle.classes.specs.Classes.{QUOTE, class_of}
use Rattle.output.specs.Writing.{Put}
use Rattle.walks.specs.Segments.{segment_at, errors_at, OneToken}
use Rattle.walks.proofs.Segments.{one_token_yields}
use Rattle.words.specs.Words.{begins_word, Begun}
use Rattle.prints.specs.Elements.{Word, lone}
use Rattle.prints.specs.Print.{emitted, is_doc}
use Rattle.prints.specs.Records.{quote_at}
use Rattle.prints.specs.Writing.{doc_feed, begun}
use Rattle.print_places.specs.declared.Written.{Written}
use Rattle.print_places.specs.Places.{Emits}
use Rattle.print_places.proofs.Elements.{within_placed, word_of, yields_right, yields_alone}
use Rattle.print_words.specs.Ends.{EndsAt}
use Rattle.print_words.proofs.Spelled.{word_spelled, word_no_doc, word_no_eof}

-- ── The text of a word, as bytes ──

flat_ascii : (t : Text) → Flat t → Every (λ (c : ℕ). c ≤ 0x7F) t
flat_ascii [] f = tt
flat_ascii (c ∷ t) f = (f.1, flat_ascii t f.2)

text_flat : (k : ℕ) (t : Text) → Flat t → Flat (word_text k t)
unfolding word_text
text_flat k t f =
    if_all Flat (k is DoubleColonT) (λ _. (omega arith, omega arith, (omega arith, omega arith, (omega arith, omega arith, tt)))) (λ _. f)

text_bytes_lem : (k : ℕ) (t : Text) → Flat t → encode (word_text k t) ≡ word_text k t
text_bytes_lem k t f = encode_ascii (word_text k t) (flat_ascii (word_text k t) (text_flat k t f))

-- ── No quote begins a word ──

quote_class : class_of (ch "\"") ≡ QUOTE
unfolding class_of is_white within
quote_class = refl

quote_begins : (cs : Text) → begins_word QUOTE cs ≡ false
unfolding begins_word within
quote_begins cs = refl

begun_no_quote : (s : List ℕ) (at k : ℕ) → Begun s at k → quote_at s at ≡ false
unfolding quote_at
begun_no_quote s at k w = go (get_or s at 0 is ch "\"") refl
  where
    go : (b : Bool) → (get_or s at 0 is ch "\"") ≡ b → b ≡ false
    go true e =
        let q : k ≡ QUOTE = w.class_is ∙ (ap class_of (eqb-true (get_or s at 0) (ch "\"") e) ∙ quote_class) in
        sym (rw q at w.begins) ∙ quote_begins (chars_at s (at + 1))
    go false e = refl

-- ── The word as a step of the rules ──

module _ (s : List ℕ) (from k kind n e : ℕ) (b : Begun s from k) (x : WordAt s from (segment (chars_at s from)) kind n e)
    (i : Within s (placed from)) where
  abbrev chars : Text
  chars = slice from (from + n) s

  abbrev p : Position
  p = placed from

  -- Where its span ends, and where the word does.
  abbrev last : Position
  last = advances p (take e chars)

  abbrev behind : Position
  behind = onward p n

  size : length chars ≡ n
  size = let l = length-slice from (from + n) s x.inside in omega arith

  reached : Reach s p chars behind
  reached = word_reach s p chars n x.flat i x.whole size

  one : OneToken s p kind (word_text kind chars) last behind
  unfolding tokens_of
  one =
      record {
        sort = ap (λ (g : Segment). g.sort) x.same;
        token = ap (λ (g : Segment). tokens_of p g g.pieces) x.same;
        reach = subst (λ (t : Text). Reach s p t behind) (sym (ap (λ (g : Segment). g.chars) x.same)) reached;
        forth = omega (arith, x.some);
      }

  no_errors_lem : errors_at s p ≡ []
  unfolding errors_of
  no_errors_lem = ap (λ (g : Segment). errors_of p g g.faults) x.same

  yields : Yields (Outside p) (chars_at s from) (record { kind = kind; text = word_text kind chars; span = span p last } ∷ []) []
      (segment_at s p).open_end (Outside behind) (chars_at s behind.offset)
  yields = rw no_errors_lem at (one_token_yields s p behind kind (word_text kind chars) last one)

  late : from ≤ last.offset
  late = omega (arith, advances_offset p (take e chars))

  -- It is printed as it stands.
  abbrev printed : Word
  printed = word_of kind (word_text kind chars)

  is_plain_lem : is_doc (lone printed) ≡ false
  is_plain_lem = rw (text_bytes_lem kind chars x.flat) (word_no_doc s from k kind n e b x)

  as_it_stands : begun false printed ≡ chars
  unfolding begun doc_feed
  as_it_stands =
      rw is_plain_lem (append-nil (emitted (lone printed)) ∙ rw (text_bytes_lem kind chars x.flat) (word_spelled s from k kind n e b x))

  word_emits : (out out' : List ℕ) (at : ℕ) (w : Written) → w.at ≡ from + n → Put out out' at chars w.out
      → Emits true s from out out' at w
  word_emits out out' at w q put =
      let none = word_no_eof s from k kind n e b x in
      let o = (segment_at s p).open_end in
      rw q
      (record {
        bytes = chars;
        put = put;
        same = λ due. yields_alone s from kind (word_text kind chars) last behind o yields late none (begun_no_quote s from k b) due
            ∙ rw (as_it_stands, is_plain_lem);
        right = yields_right s from kind (word_text kind chars) last behind o yields late none;
        within = within_placed s behind reached.within;
        forth = omega (arith, x.some);
        small = omega (arith, put.place, size);
      })

-- ── By where it ends ──

module _ (s : List ℕ) (from k end : ℕ) (b : Begun s from k) (x : EndsAt s from end) where
  pub ends_emits : Within s (placed from) → (out out' : List ℕ) (at : ℕ) (w : Written) → w.at ≡ end
      → Put out out' at (slice from end s) w.out → Emits true s from out out' at w
  ends_emits i out out' at w q put =
      word_emits s from k x.kind x.size x.extent b x.word i out out' at w (q ∙ x.ends) (rw x.ends at put)
