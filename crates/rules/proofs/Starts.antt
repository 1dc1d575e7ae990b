-- Starts: no token starts before the one in front of it; only the pieces of one string start at one place. Assumes nothing.
use mathlib.Core.Path.{◌≡◌, refl, ap}
use mathlib.Core.Logic.{◌⊎◌, inl, inr, ⊎_map}
use mathlib.Core.Bool.{Bool, true, false, ◌&&◌, ◌||◌}
use mathlib.Core.List.{List, [], ◌∷◌, ◌++◌, append_assoc}
use Prim.Native.Nat.{ℕ, zero, suc, ◌≤◌, zero-le}
use native.Mathlib.Omega.{arith}
use lib.ListN.{length, take}
use Rattle.characters.specs.Choice.{◌is◌}
use Rattle.characters.specs.Space.{is_white}
use Rattle.characters.proofs.Choice.{if_all}
use Rattle.spans.specs.declared.Position.{Position}
use Rattle.spans.specs.Span.{single}
use Rattle.rules.specs.Text.{Char, Text, ch, text, LF, is_empty, is_digit, is_ident_start}
use Rattle.rules.specs.Scan.{next, starts_with}
use Rattle.rules.specs.Tokens.{Token}
use Rattle.rules.specs.Tables.{StringLiteral, StringInterpStart}
use Rattle.rules.specs.Segment.{Piece, Fault, Segment}
use Rattle.rules.specs.Comments.{white_space}
use Rattle.rules.specs.Strings.{string_ran_out, string_broken, string_ended, Turn, stop, on, flush, string_escape, brace_interp, name_interp, is_interp_start, string_dollar, turn, follow, string_from, parse_string_tokens, parse_quote}
use Rattle.rules.specs.Characters.{close_char, char_escape, parse_char}
use Rattle.rules.specs.Lexer.{segment, size_behind_first, segments, advances, after, span, tokens_of, place, lex, origin, lexed, eof, tokens}
use Rattle.rules.specs.Bounds.{Every, StartsNeverFall}
use Rattle.rules.proofs.Every.{every_append}
use Rattle.rules.proofs.Join.{size_fits}
use Rattle.rules.proofs.Placed.{span_plain, after_offset}
use Rattle.rules.proofs.Bounds.{tokens_length, raw_one, mark_one, slash_one, dollar_one, number_one, name_one}
use Rattle.rules.proofs.Sizes.{chars_low}

-- ── Only an ordinary string has more than one token, and these are its pieces ──

-- The kinds of a string's pieces.
unfoldable pub is_piece : ℕ → Bool
is_piece k = k is StringLiteral || k is StringInterpStart

abbrev pub AllPieces : List Piece → Type 0
AllPieces = Every (λ (x : Piece). is_piece x.kind ≡ true)

abbrev TurnPieces : Turn → Type 0
TurnPieces (stop s) = AllPieces s.pieces
TurnPieces (on ps fs o k b x) = AllPieces ps

flush_pieces : (i : ℕ) (buf : Text) → AllPieces (flush i buf)
unfolding flush is_piece
flush_pieces i buf = if_all AllPieces (is_empty buf) (λ _. tt) (λ _. (refl, tt))

turn_pieces : (i : ℕ) (buf : Text) (interp : Bool) (c : Char) (cs : Text) → TurnPieces (turn i buf interp c cs)
unfolding turn string_broken string_ended string_escape string_dollar brace_interp name_interp is_piece
turn_pieces i buf interp c cs =
    if_all TurnPieces (c is LF) (λ _. (refl, tt))
    (λ _. if_all TurnPieces (c is ch "\"") (λ _. if_all AllPieces (is_empty buf && interp) (λ _. tt) (λ _. (refl, tt)))
    (λ _. if_all TurnPieces (c is ch "\\") (λ _. esc cs)
    (λ _. if_all TurnPieces (c is ch "$")
    (λ _. if_all TurnPieces (next is_interp_start cs)
    (λ _. if_all TurnPieces (starts_with (text "{") cs)
    (λ _. every_append _ (flush i buf) _ (flush_pieces i buf) (refl, tt)) (λ _. every_append _ (flush i buf) _ (flush_pieces i buf) (refl, tt)))
    (λ _. tt))
    (λ _. tt))))
  where
    esc : (cs : Text) → TurnPieces (string_escape i buf interp cs)
    esc [] = tt
    esc (e ∷ cs) = tt

follow_pieces : (c : Char) (t : Turn) (go : ℕ → Text → Bool → Segment) → TurnPieces t
    → ((k : ℕ) (b : Text) (x : Bool) → AllPieces (go k b x).pieces) → AllPieces (follow c t go).pieces
follow_pieces c (stop s) go h hg = h
follow_pieces c (on ps fs o k b x) go h hg = every_append _ ps (go k b x).pieces h (hg k b x)

pub string_pieces : (k i : ℕ) (buf : Text) (interp : Bool) (cs : Text) → AllPieces (string_from k i buf interp cs).pieces
unfolding string_from string_ran_out is_piece
string_pieces k i buf interp [] = (refl, tt)
string_pieces (suc k) i buf interp (c ∷ cs) = string_pieces k (suc i) buf interp cs
string_pieces zero i buf interp (c ∷ cs) =
    follow_pieces c (turn i buf interp c cs) _ (turn_pieces i buf interp c cs) (λ k b x. string_pieces k (suc i) b x cs)

-- A segment has one token at most, or is an ordinary string with its pieces.
abbrev Single : Segment → Type 0
Single s = (length s.pieces ≤ 1) ⊎ AllPieces s.pieces

quote_single : (cs : Text) → Single (parse_quote cs)
unfolding parse_quote
quote_single cs =
    if_all Single (starts_with (text "\"\"") cs) (λ _. inl (raw_one _).0) (λ _. inr (strings cs))
  where
    strings : (cs : Text) → AllPieces (parse_string_tokens cs).pieces
    strings cs = unfold parse_string_tokens in string_pieces 0 1 [] false cs

close_char_one : (taken t : Text) (fs : List Fault) (cs : Text) → length (close_char taken t fs cs).pieces ≤ 1
unfolding close_char
close_char_one taken t fs cs = if_all (λ (s : Segment). length s.pieces ≤ 1) (starts_with (text "'") cs) (λ _. omega arith) (λ _. omega arith)

char_escape_one : (cs : Text) → length (char_escape cs).pieces ≤ 1
unfolding char_escape
char_escape_one [] = omega arith
char_escape_one (e ∷ cs) = close_char_one _ _ _ _

char_one : (cs : Text) → length (parse_char cs).pieces ≤ 1
unfolding parse_char
char_one [] = omega arith
char_one (c ∷ cs) =
    if_all (λ (s : Segment). length s.pieces ≤ 1) (c is ch "\\") (λ _. char_escape_one cs) (λ _. close_char_one (ch "'" ∷ c ∷ []) (c ∷ []) [] cs)

segment_single : (c : Char) (cs : Text) → Single (segment (c ∷ cs))
unfolding segment white_space
segment_single c cs =
    if_all Single (is_white c) (λ _. inl zero-le)
    (λ _. if_all Single (c is ch "/") (λ _. inl (slash_one cs).0)
    (λ _. if_all Single (c is ch "$") (λ _. inl (dollar_one cs).0)
    (λ _. if_all Single (c is ch "\"") (λ _. quote_single cs)
    (λ _. if_all Single (c is ch "'") (λ _. inl (char_one cs))
    (λ _. if_all Single (is_digit c) (λ _. inl (number_one (c ∷ cs)).0)
    (λ _. if_all Single (is_ident_start c) (λ _. inl (name_one (c ∷ cs)).0) (λ _. inl (mark_one c cs).0)))))))

-- ── Starts ──

-- The tokens of segments, one list for each, the first of which starts at `p`.
unfoldable pub groups : Position → List Segment → List (List Token)
groups p [] = []
groups p (s ∷ ss) = tokens_of p s s.pieces ∷ groups (after p s) ss

unfoldable pub join_groups : List (List Token) → List Token
join_groups [] = []
join_groups (g ∷ gs) = g ++ join_groups gs

pub groups_are_body : (p : Position) (ss : List Segment) → join_groups (groups p ss) ≡ (place p ss).body
unfolding join_groups groups place
groups_are_body p [] = refl
groups_are_body p (s ∷ ss) = ap (λ ts. tokens_of p s s.pieces ++ ts) (groups_are_body (after p s) ss)

-- All start at the offset `n`.
abbrev pub AllAt : ℕ → List Token → Type 0
AllAt n = Every (λ (t : Token). t.span.start ≡ n)

-- One token at most, or pieces of a string.
abbrev pub OneElement : List Token → Type 0
OneElement g = (length g ≤ 1) ⊎ Every (λ (t : Token). is_piece t.kind ≡ true) g

-- The tokens of a group start at one place, at `n` or behind it, and are one token or the pieces of one string; those of the next
-- group start later; and so on, none of them behind `end`.
abbrev pub Rising : ℕ → List (List Token) → ℕ → Type 0
Rising n [] end = n ≤ end
Rising n (g ∷ gs) end = (at : ℕ) × (n ≤ at) × AllAt at g × OneElement g × Rising (suc at) gs end

span_start : (p : Position) (t : Text) → (span p (advances p t)).start ≡ p.offset
span_start p t = ap (λ x. x.start) (span_plain p t)

tokens_at : (p : Position) (s : Segment) (xs : List Piece) → AllAt p.offset (tokens_of p s xs)
unfolding tokens_of
tokens_at p s [] = tt
tokens_at p s (x ∷ xs) = (span_start p (take x.end s.chars), tokens_at p s xs)

rising_weaken : (n m : ℕ) (gs : List (List Token)) (end : ℕ) → m ≤ n → Rising n gs end → Rising m gs end
rising_weaken n m [] end h r = omega arith
rising_weaken n m (g ∷ gs) end h (at, q, a, o, r) = (at, omega arith, a, o, r)

tokens_pieces : (p : Position) (s : Segment) (xs : List Piece) → AllPieces xs → Every (λ (t : Token). is_piece t.kind ≡ true) (tokens_of p s xs)
unfolding tokens_of
tokens_pieces p s [] h = tt
tokens_pieces p s (x ∷ xs) (e, h) = (e, tokens_pieces p s xs h)

one_element : (p : Position) (s : Segment) → Single s → OneElement (tokens_of p s s.pieces)
one_element p s h = ⊎_map (λ l. rw (tokens_length p s s.pieces) l) (λ a. tokens_pieces p s s.pieces a) h

-- Starts never fall, and equal starts occur only in one segment; EOF starts behind them all.
pub groups_rise : (k : ℕ) (p : Position) (cs : Text) → k ≤ length cs → Rising p.offset (groups p (segments k cs)) (lex k p cs).stop.offset
unfolding groups segments place
groups_rise k p [] h = omega arith
groups_rise (suc k) p (c ∷ cs) h = groups_rise k p cs (omega arith)
groups_rise zero p (c ∷ cs) h =
    let s = segment (c ∷ cs) in (
      p.offset,
      omega arith,
      tokens_at p s s.pieces,
      one_element p s (segment_single c cs),
      rising_weaken (after p s).offset (suc p.offset) (groups (after p s) (segments (size_behind_first s.chars) cs)) _
          (omega (arith, after_offset p s, chars_low c cs))
          (groups_rise (size_behind_first s.chars) (after p s) cs (size_fits c cs)),
    )

sorted_weaken : (n m : ℕ) (ts : List Token) → m ≤ n → StartsNeverFall n ts → StartsNeverFall m ts
sorted_weaken n m [] h r = tt
sorted_weaken n m (t ∷ ts) h (q, r) = (omega arith, r)

sorted_group : (n at : ℕ) (g ts : List Token) → n ≤ at → AllAt at g → StartsNeverFall at ts → StartsNeverFall n (g ++ ts)
sorted_group n at [] ts h a r = sorted_weaken at n ts h r
sorted_group n at (t ∷ g) ts h (e, a) r = (omega arith, rw e (sorted_group at at g ts (omega arith) a r))

sorted_groups : (n : ℕ) (gs : List (List Token)) (q : Position) → Rising n gs q.offset → StartsNeverFall n (join_groups gs ++ (eof q ∷ []))
unfolding join_groups single
sorted_groups n [] q r = (r, tt)
sorted_groups n (g ∷ gs) q (at, h, a, o, r) =
    rw (append_assoc g (join_groups gs) (eof q ∷ []))
    (sorted_group n at g (join_groups gs ++ (eof q ∷ [])) h a
    (sorted_weaken (suc at) at (join_groups gs ++ (eof q ∷ [])) (omega arith) (sorted_groups (suc at) gs q r)))

pub starts_never_fall : (cs : Text) → StartsNeverFall 0 (tokens cs)
unfolding tokens
starts_never_fall cs = rw (← (groups_are_body origin (segments 0 cs))) (sorted_groups 0 (groups origin (segments 0 cs)) (lexed cs).stop (groups_rise 0 origin cs zero-le))
