-- A string one step at a time. The rule `parse_string_tokens` gives all the tokens of a string at once; here is what a step of it leaves.
-- Assumes nothing.
use Rattle.std.specs.Prelude.{if◌then◌else◌}
use mathlib.Core.Path.{◌≡◌, refl, ap, ◌∙◌, sym}
use mathlib.Core.Bool.{Bool, true, false, ◌&&◌, ◌||◌}
use mathlib.Core.List.{List, [], ◌∷◌, ◌++◌, map, map-append, append_assoc}
use mathlib.Core.Option.{Option, none, some}
use Prim.Native.Nat.{ℕ, zero, suc, ◌+◌, ◌≤◌, zero-le, suc-le-suc}
use native.Mathlib.Omega.{arith}
use native.Mathlib.Nat.{suc-add}
use lib.ListN.{length, take, drop, length-append}
use lib.Seq.{take-append-add, drop-append-add}
use Rattle.characters.specs.Choice.{◌is◌, within}
use Rattle.characters.specs.Space.{is_white}
use Rattle.characters.proofs.Choice.{if_all, if_both}
use Rattle.spans.specs.declared.Position.{Position}
use Rattle.rules.specs.Text.{Char, Text, ch, text, LF, is_empty}
use Rattle.rules.specs.Scan.{next, starts_with, Upto, closing}
use Rattle.rules.specs.Tokens.{Token, TokenizeError}
use Rattle.rules.specs.Tables.{StringLiteral, StringInterpStart, UnterminatedInterpolation, ESCAPES, lookup}
use Rattle.rules.specs.Segment.{Piece, piece, Fault, fault, string, Segment}
use Rattle.rules.specs.Strings.{Escape, hex_code, unicode_escape, plain_escape, escape, first, before, string_ran_out, string_broken, string_ended, Turn, stop, on, flush, other_escape, string_escape, brace_interp, name_interp, is_interp_start, string_dollar, turn, follow, string_from, parse_string_tokens, parse_quote}
use Rattle.rules.specs.Lexer.{segment, size_behind_first, segments, advance, advances, skips, is_space, after, tokens_of, errors_of, Lexed, behind, place, lex}
use Rattle.rules.proofs.Ahead.{is_not}
use Rattle.rules.proofs.Front.{string_front, segment_takes}
use Rattle.rules.proofs.Join.{size_fits, rest_is, or_assoc}
use Rattle.cursor.specs.declared.Cursor.TheVariants.{InString}
use Rattle.cursor.specs.Cursor.{place_from, tokens_from, faults_from, and_then, held, left}

-- ── Characters that are dealt with already ──

segments_skip : (k : ℕ) (cs : Text) → k ≤ length cs → segments k cs ≡ segments 0 (drop k cs)
unfolding segments
segments_skip zero cs h = refl
segments_skip (suc k) [] h = absurd (omega arith)
segments_skip (suc k) (c ∷ cs) h = segments_skip k cs (omega arith)

pub lex_skip : (k : ℕ) (p : Position) (cs : Text) → k ≤ length cs → lex k p cs ≡ lex 0 p (drop k cs)
lex_skip k p cs h = ap (place p) (segments_skip k cs h)

-- The first segment, and what is left behind it.
pub lex_step : (p : Position) (c : Char) (cs : Text)
    → lex 0 p (c ∷ cs) ≡ behind p (segment (c ∷ cs)) (lex 0 (after p (segment (c ∷ cs))) (segment_takes c cs).rest)
unfolding segments place
lex_step p c cs =
    let s = segment (c ∷ cs) in
    ap (behind p s) (lex_skip (size_behind_first s.chars) (after p s) cs (size_fits c cs) ∙ ap (lex 0 (after p s)) (rest_is c cs))

-- `t` in front of what a string takes.
abbrev pub taking : Text → Segment → Segment
taking t s =
    record { sort = s.sort; chars = t ++ s.chars; pieces = s.pieces; faults = s.faults; open_end = s.open_end }

pub string_skip : (k i : ℕ) (buf : Text) (interp : Bool) (cs : Text) → k ≤ length cs
    → string_from k i buf interp cs ≡ taking (take k cs) (string_from 0 (i + k) buf interp (drop k cs))
unfolding string_from
string_skip zero i buf interp cs h =
    let z : i ≡ i + 0 = omega arith in
    rw (← z)
string_skip (suc k) i buf interp [] h = absurd (omega arith)
string_skip (suc k) i buf interp (c ∷ cs) h =
    let n : i + suc k ≡ suc i + k = omega arith in
    rw n (ap (first c) (string_skip k (suc i) buf interp cs (omega arith)))

-- One turn that goes on: the character and those that it deals with are taken.
pub string_turn : (i : ℕ) (buf : Text) (interp : Bool) (c : Char) (cs : Text) (ps : List Piece) (fs : List Fault) (o : Bool) (k : ℕ) (b : Text) (x : Bool)
    → turn i buf interp c cs ≡ on ps fs o k b x → k ≤ length cs
    → string_from 0 i buf interp (c ∷ cs) ≡ taking (c ∷ take k cs) (before ps fs o (string_from 0 (suc i + k) b x (drop k cs)))
unfolding string_from
string_turn i buf interp c cs ps fs o k b x e h =
    ap (λ t. follow c t (λ k b x. string_from k (suc i) b x cs)) e ∙ ap (λ s. first c (before ps fs o s)) (string_skip k (suc i) b x cs h)

-- ── A string is one segment of its sort ──

abbrev TurnSort : Turn → Type 0
TurnSort (stop s) = s.sort ≡ string
TurnSort (on ps fs o k b x) = ◌≡◌ {A = ℕ} 0 0

turn_sort : (i : ℕ) (buf : Text) (interp : Bool) (c : Char) (cs : Text) → TurnSort (turn i buf interp c cs)
unfolding turn string_broken string_ended string_escape string_dollar brace_interp name_interp
turn_sort i buf interp c cs =
    if_all TurnSort (c is LF) (λ _. refl)
    (λ _. if_all TurnSort (c is ch "\"") (λ _. refl)
    (λ _. if_all TurnSort (c is ch "\\") (λ _. esc cs)
    (λ _. if_all TurnSort (c is ch "$")
    (λ _. if_all TurnSort (next is_interp_start cs) (λ _. if_all TurnSort (starts_with (text "{") cs) (λ _. refl) (λ _. refl)) (λ _. refl))
    (λ _. refl))))
  where
    esc : (cs : Text) → TurnSort (string_escape i buf interp cs)
    esc [] = refl
    esc (e ∷ cs) = refl

follow_sort : (c : Char) (t : Turn) (go : ℕ → Text → Bool → Segment) → TurnSort t → ((k : ℕ) (b : Text) (x : Bool) → (go k b x).sort ≡ string)
    → (follow c t go).sort ≡ string
follow_sort c (stop s) go h hg = h
follow_sort c (on ps fs o k b x) go h hg = hg k b x

pub string_sort : (k i : ℕ) (buf : Text) (interp : Bool) (cs : Text) → (string_from k i buf interp cs).sort ≡ string
unfolding string_from string_ran_out
string_sort k i buf interp [] = refl
string_sort (suc k) i buf interp (c ∷ cs) = string_sort k (suc i) buf interp cs
string_sort zero i buf interp (c ∷ cs) =
    follow_sort c (turn i buf interp c cs) (λ k b x. string_from k (suc i) b x cs) (turn_sort i buf interp c cs) (λ k b x. string_sort k (suc i) b x cs)

-- ── A string from a later place on ──

-- A place of the string, `d` characters later; the place 0, its start, stays.
unfoldable pub later_from : ℕ → ℕ → ℕ
later_from d k = if k is 0 then 0 else k + d

abbrev pub later_piece : ℕ → Piece → Piece
later_piece d x = record { kind = x.kind; text = x.text; end = later_from d x.end }

abbrev pub later_fault : ℕ → Fault → Fault
later_fault d x = record { kind = x.kind; from = later_from d x.from; to = later_from d x.to; char = x.char }

abbrev later : ℕ → Segment → Segment
later d s =
    record {
      sort = s.sort;
      chars = s.chars;
      pieces = map (later_piece d) s.pieces;
      faults = map (later_fault d) s.faults;
      open_end = s.open_end;
    }

abbrev later_turn : ℕ → Turn → Turn
later_turn d (stop s) = stop (later d s)
later_turn d (on ps fs o k b x) = on (map (later_piece d) ps) (map (later_fault d) fs) o k b x

abbrev pub later_escape : ℕ → Escape → Escape
later_escape d x = record { text = x.text; extra = x.extra; faults = map (later_fault d) x.faults }

module _ (d i : ℕ) where
  next_here : later_from d (suc i) ≡ suc (i + d)
  unfolding later_from
  next_here = rw (is_not (suc i) 0 (omega arith)) (omega arith)

  pub escape_later : (other other' : Escape) (e : Char) (cs : Text) → other' ≡ later_escape d other
      → escape (suc (i + d)) other' e cs ≡ later_escape d (escape (suc i) other e cs)
  unfolding escape unicode_escape plain_escape
  escape_later other other' e cs q =
      if_both (λ (x y : Escape). x ≡ later_escape d y) (e is ch "u") (λ _. uni (hex_code 4 0 cs)) (λ _. plain (lookup e ESCAPES))
    where
      uni : (o : Option ℕ) → unicode_escape (suc (i + d)) o ≡ later_escape d (unicode_escape (suc i) o)
      uni none = rw next_here
      uni (some v) = refl

      plain : (o : Option Char) → plain_escape other' o ≡ later_escape d (plain_escape other o)
      plain none = q
      plain (some c) = refl

  pub other_later : (e : Char) → other_escape (suc (i + d)) e ≡ later_escape d (other_escape (suc i) e)
  unfolding other_escape
  other_later e = rw next_here

module _ (d i : ℕ) (h : 1 ≤ i) where
  here : later_from d i ≡ i + d
  unfolding later_from
  here = rw (is_not i 0 (omega arith))

  behind_here : (n : ℕ) → later_from d (i + n) ≡ i + d + n
  unfolding later_from
  behind_here n = rw (is_not (i + n) 0 (omega arith)) (omega arith)

  start_here : later_from d 0 ≡ 0
  unfolding later_from
  start_here = refl

  flush_later : (buf : Text) → flush (i + d) buf ≡ map (later_piece d) (flush i buf)
  unfolding flush
  flush_later buf = if_both (λ (a b : List Piece). a ≡ map (later_piece d) b) (is_empty buf) (λ _. refl) (λ _. rw here)

  ran_out_later : (buf : Text) → string_ran_out (i + d) buf ≡ later d (string_ran_out i buf)
  unfolding string_ran_out
  ran_out_later buf = rw here

  broken_later : (buf : Text) → string_broken (i + d) buf ≡ later d (string_broken i buf)
  unfolding string_broken
  broken_later buf = rw (here, start_here)

  ended_later : (buf : Text) (interp : Bool) → string_ended (i + d) buf interp ≡ later d (string_ended i buf interp)
  unfolding string_ended
  ended_later buf interp =
      let a : (if is_empty buf && interp then [] else piece StringLiteral buf (suc (i + d)) ∷ [])
      ≡ map (later_piece d) (if is_empty buf && interp then [] else piece StringLiteral buf (suc i) ∷ [])
      = if_both (λ (x y : List Piece). x ≡ map (later_piece d) y) (is_empty buf && interp) (λ _. refl) (λ _. rw (next_here d i)) in
      λ j. record { sort = string; chars = ch "\"" ∷ []; pieces = a j; faults = []; open_end = false }

  brace_later : (buf : Text) (u : Upto) → brace_interp (i + d) buf u ≡ later_turn d (brace_interp i buf u)
  unfolding brace_interp
  brace_later buf u =
      let n = length (text "${" ++ (u.before ++ closing (text "}") u)) in
      let t = text "${" ++ (u.before ++ text "}") in
      let ps : flush (i + d) buf ++ (piece StringInterpStart t (i + d + n) ∷ []) ≡ map (later_piece d) (flush i buf ++ (piece StringInterpStart t (i + n) ∷ []))
      = rw (map-append (later_piece d) (flush i buf) (piece StringInterpStart t (i + n) ∷ []), behind_here n, flush_later buf) in
      let fs : (if u.open_end then fault UnterminatedInterpolation (i + d + n) (i + d + n) ∷ [] else [])
      ≡ map (later_fault d) (if u.open_end then fault UnterminatedInterpolation (i + n) (i + n) ∷ [] else [])
      = if_both (λ (x y : List Fault). x ≡ map (later_fault d) y) u.open_end (λ _. rw (behind_here n)) (λ _. refl) in
      λ j. on (ps j) (fs j) u.open_end (suc (length (u.before ++ closing (text "}") u))) [] true

  name_later : (buf name : Text) → name_interp (i + d) buf name ≡ later_turn d (name_interp i buf name)
  unfolding name_interp
  name_later buf name =
      rw (map-append (later_piece d) (flush i buf) (piece StringInterpStart (ch "$" ∷ name) (i + suc (length name)) ∷ []), behind_here (suc (length name)), flush_later buf)

  string_escape_later : (buf : Text) (interp : Bool) (cs : Text) → string_escape (i + d) buf interp cs ≡ later_turn d (string_escape i buf interp cs)
  unfolding string_escape
  string_escape_later buf interp [] = refl
  string_escape_later buf interp (e ∷ cs) =
      ap (λ (x : Escape). on [] x.faults false (suc x.extra) (buf ++ x.text) interp)
      (escape_later d i (other_escape (suc i) e) (other_escape (suc (i + d)) e) e cs (other_later d i e))

  turn_later : (buf : Text) (interp : Bool) (c : Char) (cs : Text) → turn (i + d) buf interp c cs ≡ later_turn d (turn i buf interp c cs)
  unfolding turn string_dollar
  turn_later buf interp c cs =
      let R : Turn → Turn → Type 0 = λ a b. a ≡ later_turn d b in
      if_both R (c is LF) (λ _. ap stop (broken_later buf))
      (λ _. if_both R (c is ch "\"") (λ _. ap stop (ended_later buf interp))
      (λ _. if_both R (c is ch "\\") (λ _. string_escape_later buf interp cs)
      (λ _. if_both R (c is ch "$")
      (λ _. if_both R (next is_interp_start cs)
      (λ _. if_both R (starts_with (text "{") cs) (λ _. brace_later buf _) (λ _. name_later buf _))
      (λ _. refl))
      (λ _. refl))))

follow_later : (d : ℕ) (c : Char) (t t' : Turn) (go go' : ℕ → Text → Bool → Segment) → t' ≡ later_turn d t
    → ((k : ℕ) (b : Text) (x : Bool) → go' k b x ≡ later d (go k b x)) → follow c t' go' ≡ later d (follow c t go)
follow_later d c (stop s) t' go go' q hg = rw q
follow_later d c (on ps fs o k b x) t' go go' q hg =
    rw (q, hg k b x, map-append (later_piece d) ps (go k b x).pieces, map-append (later_fault d) fs (go k b x).faults)

-- From `d` characters later on, a string is the same, at later places.
string_later : (d k i : ℕ) (buf : Text) (interp : Bool) (cs : Text) → 1 ≤ i
    → string_from k (i + d) buf interp cs ≡ later d (string_from k i buf interp cs)
unfolding string_from
string_later d k i buf interp [] h = ran_out_later d i h buf
string_later d (suc k) i buf interp (c ∷ cs) h =
    rw (← (suc-add i d)) (ap (first c) (string_later d k (suc i) buf interp cs (omega arith)))
string_later d zero i buf interp (c ∷ cs) h =
    follow_later d c (turn i buf interp c cs) (turn (i + d) buf interp c cs) _ _ (turn_later d i h buf interp c cs)
    (λ k b x. rw (← (suc-add i d)) (string_later d k (suc i) b x cs (omega arith)))

-- ── A string begins ──

place_first : (p : Position) (c : Char) (t : Text) (k : ℕ) → advances p (take k (c ∷ t)) ≡ place_from p (advance p c) t k
unfolding place_from advances
place_first p c t zero = refl
place_first p c t (suc k) = refl

tokens_first : (p : Position) (c : Char) (s : Segment) (xs : List Piece) → tokens_of p (first c s) xs ≡ tokens_from p (advance p c) s.chars xs
unfolding tokens_of tokens_from
tokens_first p c s [] = refl
tokens_first p c s (x ∷ xs) = rw (place_first p c s.chars x.end, tokens_first p c s xs)

faults_first : (p : Position) (c : Char) (s : Segment) (xs : List Fault) → errors_of p (first c s) xs ≡ faults_from p (advance p c) s.chars xs
unfolding errors_of faults_from
faults_first p c s [] = refl
faults_first p c s (x ∷ xs) = rw (place_first p c s.chars x.from, place_first p c s.chars x.to, faults_first p c s xs)

string_fits : (cs : Text) → length (string_from 0 1 [] false cs).chars ≤ length cs
string_fits cs =
    let f = string_front 0 1 [] false cs in
    omega (arith, ap length f.1, length-append (string_from 0 1 [] false cs).chars f.0)

string_parts : (p : Position) (cs : Text) (r : Lexed)
    → behind p (parse_string_tokens cs) r
    ≡ and_then (tokens_from p (advance p (ch "\"")) (string_from 0 1 [] false cs).chars (string_from 0 1 [] false cs).pieces)
    (faults_from p (advance p (ch "\"")) (string_from 0 1 [] false cs).chars (string_from 0 1 [] false cs).faults) (string_from 0 1 [] false cs).open_end r
unfolding parse_string_tokens
string_parts p cs r =
    let s = string_from 0 1 [] false cs in
    rw (tokens_first p (ch "\"") s s.pieces, faults_first p (ch "\"") s s.faults)

-- Behind a segment that is no white space.
pub after_plain : (p : Position) (s : Segment) → is_space s.sort ≡ false → after p s ≡ advances p s.chars
unfolding after
after_plain p s e = ap (λ (b : Bool). if b then skips p s.chars else advances p s.chars) e

behind_string : (p : Position) (cs : Text) → after p (parse_string_tokens cs) ≡ advances (advance p (ch "\"")) (string_from 0 1 [] false cs).chars
unfolding parse_string_tokens is_space advances
behind_string p cs = after_plain p (first (ch "\"") (string_from 0 1 [] false cs)) (ap is_space (string_sort 0 1 [] false cs))

-- At the opening quote of an ordinary string, what is left is what is left inside it.
pub string_begins : (p : Position) (cs : Text) → starts_with (text "\"\"") cs ≡ false
    → lex 0 p (ch "\"" ∷ cs) ≡ held false p (advance p (ch "\"")) [] cs
unfolding segments place segment is_white within parse_quote parse_string_tokens held
string_begins p cs e =
    let s = string_from 0 1 [] false cs in
    let q = advance p (ch "\"") in
    rw (e, behind_string p cs) (string_parts p cs (lex (length s.chars) (advances q s.chars) cs) ∙
    ap (and_then (tokens_from p q s.chars s.pieces) (faults_from p q s.chars s.faults) s.open_end)
    (lex_skip (length s.chars) (advances q s.chars) cs (string_fits cs)))

-- For a cursor inside a string, nothing is held back.
pub left_inside : (start p : Position) (cs : Text) → left (InString start p) cs ≡ held true start p [] cs
unfolding left
left_inside start p cs = refl

-- ── One step ──

pub advances_append : (p : Position) (a b : Text) → advances p (a ++ b) ≡ advances (advances p a) b
unfolding advances
advances_append p [] b = refl
advances_append p (c ∷ a) b = advances_append (advance p c) a b

place_later : (start p : Position) (t u : Text) (k : ℕ) → place_from start p (t ++ u) (later_from (length t) k) ≡ place_from start (advances p t) u k
unfolding place_from later_from
place_later start p t u zero = refl
place_later start p t u (suc k) =
    let n : suc k + length t ≡ suc (length t + k) = omega arith in
    rw (is_not (suc k) 0 (omega arith), n, take-append-add t u k) (advances_append p t (take k u))

tokens_later : (start p : Position) (t u : Text) (xs : List Piece)
    → tokens_from start p (t ++ u) (map (later_piece (length t)) xs) ≡ tokens_from start (advances p t) u xs
unfolding tokens_from
tokens_later start p t u [] = refl
tokens_later start p t u (x ∷ xs) = rw (place_later start p t u x.end, tokens_later start p t u xs)

faults_later : (start p : Position) (t u : Text) (xs : List Fault)
    → faults_from start p (t ++ u) (map (later_fault (length t)) xs) ≡ faults_from start (advances p t) u xs
unfolding faults_from
faults_later start p t u [] = refl
faults_later start p t u (x ∷ xs) = rw (place_later start p t u x.from, place_later start p t u x.to, faults_later start p t u xs)

tokens_append : (start p : Position) (t : Text) (xs ys : List Piece) → tokens_from start p t (xs ++ ys) ≡ tokens_from start p t xs ++ tokens_from start p t ys
unfolding tokens_from
tokens_append start p t [] ys = refl
tokens_append start p t (x ∷ xs) ys = rw (tokens_append start p t xs ys)

faults_append : (start p : Position) (t : Text) (xs ys : List Fault) → faults_from start p t (xs ++ ys) ≡ faults_from start p t xs ++ faults_from start p t ys
unfolding faults_from
faults_append start p t [] ys = refl
faults_append start p t (x ∷ xs) ys = rw (faults_append start p t xs ys)

-- Two steps are one.
pub then_join : (ts us : List Token) (es fs : List TokenizeError) (o o' : Bool) (r : Lexed)
    → and_then ts es o (and_then us fs o' r) ≡ and_then (ts ++ us) (es ++ fs) (o || o') r
then_join ts us es fs o o' r =
    rw (append_assoc ts us r.body, append_assoc es fs r.errors, sym (or_assoc o o' r.open_end))

-- A step that takes `t`, yields the tokens `ps` and the errors `fs`, with `o` for whether the text ran out in it, and then holds `buf'`
-- back.
pub held_step : (interp interp' : Bool) (start p : Position) (buf buf' t rest : Text) (ps : List Piece) (fs : List Fault) (o : Bool)
    → string_from 0 1 buf interp (t ++ rest) ≡ taking t (before ps fs o (string_from 0 (1 + length t) buf' interp' rest))
    → held interp start p buf (t ++ rest)
    ≡ and_then (tokens_from start p (t ++ (string_from 0 1 buf' interp' rest).chars) ps) (faults_from start p (t ++ (string_from 0 1 buf' interp' rest).chars) fs)
    o (held interp' start (advances p t) buf' rest)
unfolding held
held_step interp interp' start p buf buf' t rest ps fs o e =
    let s = string_from 0 1 buf' interp' rest in
    let d = length t in
    let r : Lexed = lex 0 (advances (advances p t) s.chars) (drop (length s.chars) rest) in
    let whole : Segment → Lexed
    = λ x. and_then (tokens_from start p x.chars x.pieces) (faults_from start p x.chars x.faults) x.open_end
    (lex 0 (advances p x.chars) (drop (length x.chars) (t ++ rest))) in
    let e' : string_from 0 1 buf interp (t ++ rest) ≡ taking t (before ps fs o (later d s))
    = e ∙ ap (λ x. taking t (before ps fs o x)) (string_later d 0 1 buf' interp' rest (suc-le-suc zero-le)) in
    ap whole e'
    ∙ rw (
      tokens_append start p (t ++ s.chars) ps (map (later_piece d) s.pieces),
      faults_append start p (t ++ s.chars) fs (map (later_fault d) s.faults),
      tokens_later start p t s.chars s.pieces,
      faults_later start p t s.chars s.faults,
      advances_append p t s.chars,
      length-append t s.chars,
      drop-append-add t rest (length s.chars),
      append_assoc (tokens_from start p (t ++ s.chars) ps) (tokens_from start (advances p t) s.chars s.pieces) r.body,
      append_assoc (faults_from start p (t ++ s.chars) fs) (faults_from start (advances p t) s.chars s.faults) r.errors,
      sym (or_assoc o s.open_end r.open_end),
    )
