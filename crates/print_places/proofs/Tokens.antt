-- What is written for one token, and for the pieces of a string. Assumes nothing.
use Rattle.std.specs.Prelude.{if◌then◌else◌}
use mathlib.Core.Path.{◌≡◌, refl, ap, ◌∙◌}
use mathlib.Core.Bool.{Bool, true, false, not, true≢false}
use mathlib.Core.List.{List, [], ◌∷◌, ◌++◌, map, append_assoc}
use Prim.Native.Nat.{ℕ, zero, suc, ◌≤◌, ◌<◌}
use native.Mathlib.Omega.{arith}
use lib.ListN.{length, take}
use borrow.Author.Tests.{le-leb}
use Rattle.characters.specs.Choice.{◌is◌}
use Rattle.spans.specs.declared.Position.{Position}
use Rattle.spans.specs.Span.{single, merge, earlier}
use Rattle.rules.specs.Text.{Text, text}
use Rattle.rules.specs.Tokens.{Token, TokenizeError}
use Rattle.rules.specs.Tables.{EOF}
use Rattle.rules.specs.Segment.{Piece, Segment}
use Rattle.rules.specs.Strings.{string_from}
use Rattle.rules.specs.Lexer.{segments, after, span, tokens_of, Lexed, place, eof}
use Rattle.rules.specs.Script.{as_bytes}
use Rattle.rules.proofs.Ahead.{is_not}
use Rattle.rules.proofs.Placed.{span_plain, advances_offset, after_offset}
use Rattle.rules.proofs.Starts.{AllPieces, string_pieces}
use Rattle.cursor.specs.Cursor.{and_then, held, left, place_from, tokens_from}
use Rattle.cursor.specs.declared.Cursor.TheVariants.{Outside}
use Rattle.prints.specs.Elements.{Word, lone, token_word}
use Rattle.prints.specs.Print.{is_doc}
use Rattle.prints.specs.Records.{quote_at}
use Rattle.prints.specs.Writing.{State, outside, in_string, closing_quote, is_due, is_named, continues_at, due_space, begun, one_piece, name_behind, token_text, state_behind, write_tokens}
use Rattle.prints.proofs.Stepwise.{write_token}
use Rattle.prints.proofs.Facts.{is_same}
use Rattle.prints.proofs.Grouped.{string_some, piece_no_eof}
use Rattle.print_places.specs.Places.{still_of, no_errors}

-- ── One token and what is behind it ──

module _ (s : List ℕ) (t : Token) (es : List TokenizeError) (o : Bool) (l r : Lexed) (e : l ≡ and_then (t ∷ []) es o r) where
  abbrev w : Word
  w = token_word (as_bytes t)

  still_first : (state : State) → (t.kind is EOF) ≡ false
      → still_of s state l
      ≡ token_text (quote_at s t.span.start) state (as_bytes t) ++ still_of s (state_behind (quote_at s t.span.start) state (as_bytes t)) r
  unfolding still_of
  still_first state k =
      ap (λ (x : Lexed). write_tokens (quote_at s) state (map as_bytes (x.body ++ (eof x.stop ∷ [])))) e
      ∙ write_token (quote_at s) state (as_bytes t) (map as_bytes (r.body ++ (eof r.stop ∷ []))) k

  -- A token that stands alone.
  pub alone_still : (due : Bool) → (t.kind is EOF) ≡ false → quote_at s t.span.start ≡ false
      → still_of s (outside due) l ≡ due_space due ++ (begun false w ++ still_of s (outside (not (is_doc (lone w)))) r)
  unfolding token_text state_behind continues_at closing_quote is_due
  alone_still due k q =
      still_first (outside due) k
      ∙ (ap (λ (b : Bool). token_text b (outside due) (as_bytes t) ++ still_of s (state_behind b (outside due) (as_bytes t)) r) q
      ∙ append_assoc (due_space due) (begun false w) (still_of s (outside (not (is_doc (lone w)))) r))

  -- A token at a quote, which begins a string.
  pub quoted_still : (due : Bool) → (t.kind is EOF) ≡ false → quote_at s t.span.start ≡ true
      → still_of s (outside due) l ≡ due_space due ++ (text "\"" ++ (one_piece false w ++ still_of s (in_string t.span.start (name_behind w)) r))
  unfolding token_text state_behind continues_at closing_quote is_due begun
  quoted_still due k q =
      still_first (outside due) k
      ∙ (ap (λ (b : Bool). token_text b (outside due) (as_bytes t) ++ still_of s (state_behind b (outside due) (as_bytes t)) r) q
      ∙ append_assoc (due_space due) (text "\"" ++ one_piece false w) (still_of s (in_string t.span.start (name_behind w)) r))

  -- A token that continues a string.
  pub piece_still : (nm : Bool) → (t.kind is EOF) ≡ false
      → still_of s (in_string t.span.start nm) l ≡ one_piece nm w ++ still_of s (in_string t.span.start (name_behind w)) r
  unfolding token_text state_behind continues_at is_named
  piece_still nm k = still_first (in_string t.span.start nm) k ∙ rw (is_same t.span.start)

  -- Its errors.
  pub right_none : es ≡ [] → no_errors l.errors ≡ no_errors r.errors
  right_none f = ap (λ (x : Lexed). no_errors x.errors) e ∙ ap (λ (x : List TokenizeError). no_errors (x ++ r.errors)) f

-- Errors in front.
pub wrong_some : (ts : List Token) (es : List TokenizeError) (o : Bool) (l r : Lexed) → l ≡ and_then ts es o r → no_errors es ≡ false → no_errors l.errors ≡ false
unfolding no_errors
wrong_some ts [] o l r e h = absurd (true≢false h)
wrong_some ts (x ∷ es) o l r e h = ap (λ (y : Lexed). no_errors y.errors) e

-- Nothing that is printed is in front.
pub none_still : (s : List ℕ) (state : State) (es : List TokenizeError) (o : Bool) (l r : Lexed) → l ≡ and_then [] es o r → still_of s state l ≡ still_of s state r
unfolding still_of
none_still s state es o l r e = ap (λ (x : Lexed). write_tokens (quote_at s) state (map as_bytes (x.body ++ (eof x.stop ∷ [])))) e

pub none_right : (es : List TokenizeError) (o : Bool) (l r : Lexed) → l ≡ and_then [] es o r → es ≡ [] → no_errors l.errors ≡ no_errors r.errors
none_right es o l r e f = ap (λ (x : Lexed). no_errors x.errors) e ∙ ap (λ (x : List TokenizeError). no_errors (x ++ r.errors)) f

-- ── The end of a string ──

-- The first token, if there is one, starts at `n` or behind it.
abbrev HeadFrom : ℕ → List Token → Type 0
HeadFrom n [] = Unit {0}
HeadFrom n (t ∷ ts) = n ≤ t.span.start

head_behind : (n m : ℕ) (ts us : List Token) → n ≤ m → HeadFrom n ts → HeadFrom m us → HeadFrom n (ts ++ us)
head_behind n m [] [] h a b = tt
head_behind n m [] (u ∷ us) h a b = omega arith
head_behind n m (t ∷ ts) us h a b = a

tokens_head : (p : Position) (s : Segment) (xs : List Piece) → HeadFrom p.offset (tokens_of p s xs)
unfolding tokens_of
tokens_head p s [] = tt
tokens_head p s (x ∷ xs) = let a = ap (λ y. y.start) (span_plain p (take x.end s.chars)) in omega (arith, a)

place_head : (p : Position) (ss : List Segment) → HeadFrom p.offset (place p ss).body
unfolding place
place_head p [] = tt
place_head p (s ∷ ss) =
    head_behind p.offset (after p s).offset (tokens_of p s s.pieces) (place (after p s) ss).body (omega (arith, after_offset p s))
    (tokens_head p s s.pieces) (place_head (after p s) ss)

-- Behind a string that began before them, tokens begin something new: its closing quote is written, and a space is due.
close_tokens : (q : ℕ → Bool) (m n : ℕ) (nm : Bool) (ts : List Token) (e : Token) → m < n → HeadFrom n ts → (e.kind is EOF) ≡ true
    → write_tokens q (in_string m nm) (map as_bytes (ts ++ (e ∷ []))) ≡ text "\"" ++ write_tokens q (outside true) (map as_bytes (ts ++ (e ∷ [])))
unfolding write_tokens token_text state_behind continues_at closing_quote is_due
close_tokens q m n nm [] e h a k = rw k
close_tokens q m n nm (t ∷ ts) e h a k = rw (is_not m t.span.start (λ z. omega arith)) (go (t.kind is EOF))
  where
    w : Word
    w = token_word (as_bytes t)

    b : Bool
    b = q t.span.start

    R : List ℕ
    R = write_tokens q (if b then in_string t.span.start (name_behind w) else outside (not (is_doc (lone w)))) (map as_bytes (ts ++ (e ∷ [])))

    go : (d : Bool) → (if d then text "\"" else (text "\"" ++ (due_space true ++ begun b w)) ++ R)
        ≡ text "\"" ++ (if d then [] else (due_space true ++ begun b w) ++ R)
    go true = refl
    go false = refl

pub close_still : (s : List ℕ) (m : ℕ) (nm : Bool) (p : Position) (cs : Text) → m < p.offset
    → still_of s (in_string m nm) (left (Outside p) cs) ≡ text "\"" ++ still_of s (outside true) (left (Outside p) cs)
unfolding still_of left
close_still s m nm p cs h =
    close_tokens (quote_at s) m p.offset nm (place p (segments 0 cs)).body (eof (place p (segments 0 cs)).stop) h (place_head p (segments 0 cs)) refl

-- ── The beginning of a string ──

pub span_from : (p q : Position) → p.offset ≤ q.offset → (span p q).start ≡ p.offset
unfolding span merge earlier single
span_from p q h = rw (le-leb p.offset q.offset h)

-- A first token that starts where the string does.
abbrev Opens : ℕ → List Token → Type 0
Opens m [] = ⊥
Opens m (t ∷ ts) = (t.span.start ≡ m) × ((t.kind is EOF) ≡ false)

pieces_open : (start p : Position) (t : Text) (xs : List Piece) (us : List Token) → start.offset ≤ p.offset → 1 ≤ length xs → AllPieces xs
    → Opens start.offset (tokens_from start p t xs ++ us)
unfolding tokens_from
pieces_open start p t [] us h l k = absurd (omega arith)
pieces_open start p t (x ∷ xs) us h l k = (span_from start (place_from start p t x.end) (behind x.end), piece_no_eof x.kind k.0)
  where
    behind : (n : ℕ) → start.offset ≤ (place_from start p t n).offset
    behind zero = unfold place_from in (omega arith)
    behind (suc n) = unfold place_from in (omega (arith, advances_offset p (take n t)))

open_tokens : (q : ℕ → Bool) (m : ℕ) (due : Bool) (ts us : List Token) → Opens m ts → q m ≡ true
    → write_tokens q (outside due) (map as_bytes (ts ++ us)) ≡ due_space due ++ (text "\"" ++ write_tokens q (in_string m false) (map as_bytes (ts ++ us)))
unfolding write_tokens token_text state_behind continues_at closing_quote is_due is_named begun
open_tokens q m due [] us h k = absurd h
open_tokens q m due (t ∷ ts) us (a, f) k =
    let w = token_word (as_bytes t) in
    rw (f, a, k, is_same m)
    (append_assoc (due_space due) (text "\"" ++ one_piece false w) (write_tokens q (in_string m (name_behind w)) (map as_bytes (ts ++ us))))

pub open_still : (s : List ℕ) (due : Bool) (start p : Position) (cs : Text) → start.offset ≤ p.offset → quote_at s start.offset ≡ true
    → still_of s (outside due) (held false start p [] cs) ≡ due_space due ++ (text "\"" ++ still_of s (in_string start.offset false) (held false start p [] cs))
unfolding still_of held
open_still s due start p cs h k =
    let x = string_from 0 1 [] false cs in
    open_tokens (quote_at s) start.offset due (held false start p [] cs).body _
    (pieces_open start p x.chars x.pieces _ h (string_some 0 1 [] cs) (string_pieces 0 1 [] false cs)) k
