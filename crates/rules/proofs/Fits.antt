-- Every token and every error of an accepted script: the fields of its record are below 2^32, its kind is known, and a text that is
-- a part of the script stands there where the token starts. Assumes nothing.
use mathlib.Core.Path.{◌≡◌, refl, sym, ap, ◌∙◌}
use mathlib.Core.Bool.{true, false}
use mathlib.Core.List.{List, [], ◌∷◌, ◌++◌, map, map-append}
use mathlib.Core.Option.{none, some}
use Prim.Native.Nat.{ℕ, ◌+◌, ◌*◌, ◌≤◌}
use native.Mathlib.Omega.{arith}
use borrow.Author.Tests.{leb-true}
use lib.Dec.{leb}
use lib.ListN.{length, take, drop, length-map}
use Rattle.characters.specs.Utf8.{is_utf8, Scalars, chars_of, encode, bytes}
use Rattle.byte_order_mark.specs.Mark.{after_mark}
use Rattle.characters.proofs.Choice.{and_both}
use Rattle.characters.proofs.Widths.{encode_one, scalar_bounds}
use Rattle.characters.proofs.Texts.{encode_length, encode_append, bytes_append, encode_drop, encode_take, chars_scalar, valid_encode, valid_length}
use Rattle.byte_order_mark.proofs.Marks.{mark_length_after, utf8_after_mark}
use Rattle.spans.specs.declared.Position.{Position}
use Rattle.spans.specs.declared.Span.{Span}
use Rattle.rules.specs.Text.{Char, Text}
use Rattle.rules.specs.Tokens.{Token, TokenizeError}
use Rattle.rules.specs.Segment.{Piece, Fault, Segment}
use Rattle.rules.specs.Lexer.{segment, tokens_of, errors_of, lexed, eof, tokens, errors}
use Rattle.rules.specs.Script.{LIMIT, accepted, script_text, as_bytes, script_tokens, script_errors}
use Rattle.rules.specs.Bounds.{Every, texts_size, SpanFits, TokenSmall}
use Rattle.rules.proofs.Placed.{span_plain}
use Rattle.rules.proofs.Bounds.{token_bound, error_bound}
use Rattle.rules.proofs.Every.{every_weaken, every_map, every_both}
use Rattle.rules.proofs.Sources.{Kinds, Suits, Sourced, segment_sourced}
use Rattle.rules.proofs.Faults.{names_code, Known, segment_known}
use Rattle.rules.proofs.Sizes.{chars_few, text_bound}
use Rattle.rules.proofs.Spans.{Behind, text_every, Within, token_spans, error_spans}

-- ── The text of an accepted script ──

module _ (s : List ℕ) (ok : accepted s ≡ true) where
  after_valid : is_utf8 (after_mark s) ≡ true
  unfolding accepted
  after_valid = utf8_after_mark s ∙ (and_both (leb (length s) LIMIT) (is_utf8 s) ok).1

  -- Its bytes are those of the script after its mark, and not too many.
  pub script_bytes : encode (script_text s) ≡ after_mark s
  unfolding script_text
  script_bytes = sym (valid_encode (after_mark s) after_valid)

  pub script_size : bytes (script_text s) ≡ length (after_mark s)
  unfolding script_text
  script_size = sym (valid_length (after_mark s) after_valid)

  pub script_low : bytes (script_text s) ≤ LIMIT
  unfolding accepted
  script_low =
      let h : length s ≤ LIMIT = leb-true (length s) LIMIT (and_both (leb (length s) LIMIT) (is_utf8 s) ok).0 in
      omega (arith, script_size, mark_length_after s)

-- ── How many tokens and errors, and how long their texts ──

-- The bytes of all texts.
unfoldable pub text_lengths : List Token → ℕ
text_lengths [] = 0
text_lengths (t ∷ ts) = length t.text + text_lengths ts

lengths_bytes : (ts : List Token) → text_lengths (map as_bytes ts) ≡ texts_size ts
unfolding text_lengths texts_size
lengths_bytes [] = refl
lengths_bytes (t ∷ ts) = omega (arith, lengths_bytes ts, encode_length t.text)

module _ (s : List ℕ) (ok : accepted s ≡ true) where
  -- A script of n bytes after its mark has at most n + 1 tokens, EOF counted, at most n errors, and texts of 2 n + 2 bytes.
  pub token_count : length (script_tokens s) ≤ length (after_mark s) + 1
  unfolding script_tokens
  token_count =
      let cs = script_text s in
      omega (arith, length-map (tokens cs) as_bytes, token_bound cs, chars_few cs, script_size s ok)

  pub error_count : length (script_errors s) ≤ length (after_mark s)
  unfolding script_errors
  error_count = omega (arith, error_bound (script_text s), chars_few (script_text s), script_size s ok)

  pub text_count : text_lengths (script_tokens s) ≤ 2 * length (after_mark s) + 2
  unfolding script_tokens
  text_count = omega (arith, lengths_bytes (tokens (script_text s)), text_bound (script_text s), script_size s ok)

-- ── Fields of 32 bits ──

within_low : (n : ℕ) (s : Span) → n ≤ 1 + LIMIT → Within n s → SpanFits s
within_low n s h w =
    record {
      start = omega (arith, w.start_low);
      end = omega (arith, w.end_low);
      start_line = omega (arith, w.start_line_low);
      start_col = omega (arith, w.start_col_low);
      end_line = omega (arith, w.end_line_low);
      end_col = omega (arith, w.end_col_low);
    }

each_size : (n : ℕ) (ts : List Token) → texts_size ts ≤ n → Every (λ (t : Token). bytes t.text ≤ n) ts
unfolding texts_size
each_size n [] h = tt
each_size n (t ∷ ts) h = (omega arith, each_size n ts (omega arith))

pub tokens_low : (s : List ℕ) → accepted s ≡ true → Every TokenSmall (script_tokens s)
unfolding script_tokens
tokens_low s ok =
    let cs = script_text s in
    let n = script_low s ok in
    every_map as_bytes _ TokenSmall
    (λ (t : Token) (w, b). record { span = within_low (1 + bytes cs) t.span (omega arith) w; size = omega (arith, encode_length t.text) })
    (tokens cs)
    (every_both _ _ (tokens cs) (token_spans cs) (each_size (2 * bytes cs + 2) (tokens cs) (text_bound cs)))

pub error_spans_low : (s : List ℕ) → accepted s ≡ true → Every (λ (e : TokenizeError). SpanFits e.span) (script_errors s)
unfolding script_errors
error_spans_low s ok =
    let cs = script_text s in
    let n = script_low s ok in
    every_weaken _ _ (λ (e : TokenizeError) w. within_low (1 + bytes cs) e.span (omega arith) w) (errors cs) (error_spans cs)

-- ── Kinds and code points of errors ──

-- An error of a known kind, which names a code point where its kind has one.
pub record ErrorKnown (e : TokenizeError) : Type 0 where
  pub low : 1 ≤ e.kind
  pub high : e.kind ≤ 10
  pub code : names_code e.kind ≡ true → (c : ℕ) × (e.char ≡ some c) × (c ≤ 0x10FFFF)
  pub bare : names_code e.kind ≡ false → e.char ≡ none

abbrev Code : Char → Type 0
Code c = c ≤ 0x10FFFF

scalars_code : (cs : Text) → Scalars cs → Every Code cs
scalars_code [] h = tt
scalars_code (c ∷ cs) h = ((scalar_bounds c h.0).0, scalars_code cs h.1)

every_rest : (P : Char → Type 0) (a b : Text) → Every P (a ++ b) → Every P b
every_rest P [] b h = h
every_rest P (c ∷ a) b h = every_rest P a b h.1

errors_known : (p : Position) (s : Segment) (xs : List Fault) → Every (Known Code) xs → Every ErrorKnown (errors_of p s xs)
unfolding errors_of
errors_known p s [] h = tt
errors_known p s (x ∷ xs) (k, h) = (record { low = k.low; high = k.high; code = k.code; bare = k.bare }, errors_known p s xs h)

pub script_errors_known : (s : List ℕ) → Every ErrorKnown (script_errors s)
unfolding script_errors errors script_text
script_errors_known s =
    let cs = script_text s in
    let all : Every Code cs = scalars_code (chars_of (after_mark s)) (chars_scalar (after_mark s)) in
    (text_every cs (λ (t : Token). Unit {0}) ErrorKnown
    (λ pre rest p c ds b e q.
    let s = segment (c ∷ ds) in (
      none_asked (tokens_of p s s.pieces),
      errors_known p s s.faults (segment_known Code (c ∷ ds) (every_rest Code pre (c ∷ ds) (rw (← e) all))),
    ))
    ).1
  where
    none_asked : (ts : List Token) → Every (λ (t : Token). Unit {0}) ts
    none_asked [] = tt
    none_asked (t ∷ ts) = (tt, none_asked ts)

-- ── Where texts come from ──

-- A text of ASCII characters has these for its bytes.
pub encode_ascii : (t : Text) → Every (λ (c : Char). c ≤ 0x7F) t → encode t ≡ t
unfolding encode
encode_ascii [] h = refl
encode_ascii (c ∷ t) (l, h) = rw (encode_one c l, encode_ascii t h)

-- A token but EOF: its kind, and where its text comes from. A part of the script stands there where the token starts.
pub record TokenSourced (K : Kinds) (s : List ℕ) (t : Token) : Type 0 where
  pub fits : K.fits t.kind ≡ true
  pub inside : K.made t.kind ≡ false → K.script t.kind ≡ true → t.span.start + length t.text ≤ length (after_mark s)
  pub part : K.made t.kind ≡ false → K.script t.kind ≡ true → take (length t.text) (drop t.span.start (after_mark s)) ≡ t.text
  pub fixed : K.made t.kind ≡ false → K.script t.kind ≡ false → t.text ≡ encode (K.spelled t.kind)

-- The same over characters.
record TextSourced (K : Kinds) (whole : Text) (t : Token) : Type 0 where
  fits : K.fits t.kind ≡ true
  part :
      K.made t.kind ≡ false → K.script t.kind ≡ true
      → (pre rest : Text) × (whole ≡ pre ++ (t.text ++ rest)) × (t.span.start ≡ bytes pre)
  fixed : K.made t.kind ≡ false → K.script t.kind ≡ false → t.text ≡ K.spelled t.kind

tokens_sourced : (K : Kinds) (whole pre rest : Text) (p : Position) (s : Segment) → Behind pre p → whole ≡ pre ++ (s.chars ++ rest)
    → (xs : List Piece) → Every (Sourced K s.chars) xs → Every (TextSourced K whole) (tokens_of p s xs)
unfolding tokens_of
tokens_sourced K whole pre rest p s b e [] h = tt
tokens_sourced K whole pre rest p s b e (x ∷ xs) (q, h) = (
  record {
    fits = q.fits;
    part =
        λ m k. (
          pre,
          rest,
          e ∙ ap (λ (t : Text). pre ++ (t ++ rest)) (sym (q.part m k)),
          ap (λ (z : Span). z.start) (span_plain p (take x.end s.chars)) ∙ b.offset_is,
        );
    fixed = q.fixed;
  },
  tokens_sourced K whole pre rest p s b e xs h,
)

no_errors_asked : (es : List TokenizeError) → Every (λ (e : TokenizeError). Unit {0}) es
no_errors_asked [] = tt
no_errors_asked (e ∷ es) = (tt, no_errors_asked es)

text_sourced : (K : Kinds) → Suits K → (whole : Text) → Every (TextSourced K whole) (lexed whole).body
text_sourced K S whole =
    (text_every whole (TextSourced K whole) (λ (e : TokenizeError). Unit {0})
    (λ pre rest p c cs b e q.
    let s = segment (c ∷ cs) in (
      tokens_sourced K whole pre rest p s b (e ∙ ap (λ (t : Text). pre ++ t) q) s.pieces (segment_sourced K S (c ∷ cs)),
      no_errors_asked (errors_of p s s.faults),
    ))
    ).0

-- A part of a text, by bytes.
module _ (whole pre t rest : Text) (e : whole ≡ pre ++ (t ++ rest)) where
  encoded_part : encode whole ≡ encode pre ++ (encode t ++ encode rest)
  encoded_part = ap encode e ∙ (encode_append pre (t ++ rest) ∙ ap (λ (x : List ℕ). encode pre ++ x) (encode_append t rest))

  part_same : take (length (encode t)) (drop (bytes pre) (encode whole)) ≡ encode t
  part_same =
      rw (encoded_part, encode_drop pre (encode t ++ encode rest), encode_length t) (encode_take t (encode rest))

  part_inside : bytes pre + length (encode t) ≤ bytes whole
  part_inside = omega (arith, ap bytes e, bytes_append pre (t ++ rest), bytes_append t rest, encode_length t)

-- The tokens of a script but EOF.
abbrev pub script_body : List ℕ → List Token
script_body s = map as_bytes (lexed (script_text s)).body

pub body_and_eof : (s : List ℕ) → script_tokens s ≡ script_body s ++ (as_bytes (eof (lexed (script_text s)).stop) ∷ [])
unfolding script_tokens tokens
body_and_eof s = map-append as_bytes (lexed (script_text s)).body (eof (lexed (script_text s)).stop ∷ [])

pub script_tokens_sourced : (K : Kinds) → Suits K → (s : List ℕ) → accepted s ≡ true → Every (TokenSourced K s) (script_body s)
script_tokens_sourced K S s ok =
    every_map as_bytes (TextSourced K (script_text s)) (TokenSourced K s) by_bytes (lexed (script_text s)).body (text_sourced K S (script_text s))
  where
    by_bytes : (t : Token) → TextSourced K (script_text s) t → TokenSourced K s (as_bytes t)
    by_bytes t h =
        record {
          fits = h.fits;
          inside =
              λ m k.
              let (pre, rest, e, o) = h.part m k in
              omega (arith, part_inside (script_text s) pre t.text rest e, script_size s ok);
          part =
              λ m k.
              let (pre, rest, e, o) = h.part m k in
              rw (o, ← script_bytes s ok) (part_same (script_text s) pre t.text rest e);
          fixed = λ m k. ap encode (h.fixed m k);
        }
