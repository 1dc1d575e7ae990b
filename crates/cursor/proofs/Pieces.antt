-- How a row of units in a string ends, and interpolations, as steps of what is left. Assumes nothing.
use Rattle.std.specs.Prelude.{if◌then◌else◌}
use mathlib.Core.Path.{◌≡◌, refl, sym, ap, ◌∙◌}
use mathlib.Core.Bool.{Bool, true, false, ◌&&◌, ◌||◌, true≢false, false≢true}
use mathlib.Core.List.{List, [], ◌∷◌, ◌++◌, append_assoc, append-nil}
use Prim.Native.Nat.{ℕ, suc, ◌+◌, ◌≤◌}
use native.Mathlib.Omega.{arith}
use lib.ListN.{length, take, drop, length-append}
use lib.Seq.{drop-append_seam, take-append_seam}
use borrow.Author.Tests.{not-false}
use Rattle.characters.specs.Choice.{◌is◌}
use Rattle.characters.proofs.Choice.{if_all, if_both}
use Rattle.spans.specs.declared.Position.{Position}
use Rattle.rules.specs.Text.{Char, Text, ch, text, LF, is_empty, is_ident_part}
use Rattle.rules.specs.Scan.{next, starts_with, run, Upto, up_to, closing}
use Rattle.rules.specs.Tokens.{Token, TokenizeError}
use Rattle.rules.specs.Tables.{StringLiteral, StringInterpStart, UnterminatedString, LineFeedInString, UnterminatedInterpolation}
use Rattle.rules.specs.Segment.{Piece, piece, Fault, fault, Segment}
use Rattle.rules.specs.Strings.{before, flush, Turn, on, follow, turn, brace_interp, name_interp, is_interp_start, string_dollar, string_from, string_ran_out, string_broken, string_ended}
use Rattle.rules.specs.Lexer.{advance, advances, Lexed}
use Rattle.rules.proofs.Ahead.{is_eq, is_not}
use Rattle.rules.proofs.Front.{starts_split, run_splits, up_to_splits}
use Rattle.cursor.specs.declared.Cursor.TheVariants.{Outside, InString}
use Rattle.cursor.specs.Strings.{stands, units_made, units_errors, Interpolation, braces, named, interpolation_of}
use Rattle.cursor.specs.Cursor.{place_from, tokens_from, faults_from, and_then, held, left, literal, interpolation, error_at, interpolation_errors}
use Rattle.cursor.proofs.Inside.{taking, string_turn, left_inside, then_join, held_step}
use Rattle.cursor.proofs.Units.{Whole}

-- ── What stands where no unit does ──

pub empty_nil : (t : Text) → is_empty t ≡ true → t ≡ []
unfolding is_empty
empty_nil [] e = refl
empty_nil (c ∷ t) e = absurd (false≢true e)

pub stops_dollar : (c : Char) (cs : Text) → stands (c ∷ cs) ≡ false → (c ≡ LF → ⊥) → (c ≡ ch "\"" → ⊥)
    → (c ≡ ch "$") × (next is_interp_start cs ≡ true)
unfolding stands
stops_dollar c cs h a b = go (c is ch "$") refl
  where
    go : (d : Bool) → (c is ch "$") ≡ d → (c ≡ ch "$") × (next is_interp_start cs ≡ true)
    go true e = (is_eq c (ch "$") e, not-false (next is_interp_start cs) (rw (is_not c LF a, is_not c (ch "\"") b, e) at h))
    go false e = absurd (true≢false (rw (is_not c LF a, is_not c (ch "\"") b, e) at h))

-- ── Interpolations ──

-- Whether a closing quote has something to give: always in a string's first step, later where the text held back is not empty.
pub first_gives : (t : Text) → (is_empty t && false) ≡ false
unfolding is_empty
first_gives [] = refl
first_gives (c ∷ t) = refl

pub later_gives : (t : Text) → (is_empty t && true) ≡ is_empty t
unfolding is_empty
later_gives [] = refl
later_gives (c ∷ t) = refl

-- An interpolation's characters are the text's.
pub interp_splits : (cs : Text) → next is_interp_start cs ≡ true
    → ch "$" ∷ cs ≡ (interpolation_of cs).chars ++ drop (length (interpolation_of cs).chars) (ch "$" ∷ cs)
unfolding interpolation_of braces named
interp_splits cs h =
    let P : Interpolation → Type 0 = λ i. ch "$" ∷ cs ≡ i.chars ++ drop (length i.chars) (ch "$" ∷ cs) in
    if_all P (starts_with (text "{") cs)
    (λ e.
    let u = up_to (text "}") (drop 1 cs) in
    let (r, s, _) = up_to_splits (text "}") (drop 1 cs) in
    seam (text "${" ++ (u.before ++ closing (text "}") u)) r
    (ap (λ (l : Text). ch "$" ∷ l) (sym (starts_split (text "{") cs e) ∙ ap (λ (l : Text). ch "{" ∷ l) (sym s))))
    (λ _. seam (ch "$" ∷ (run is_ident_part cs).taken) (run is_ident_part cs).left (ap (λ (l : Text). ch "$" ∷ l) (sym (run_splits is_ident_part cs))))
  where
    seam : (t r : Text) → ch "$" ∷ cs ≡ t ++ r → ch "$" ∷ cs ≡ t ++ drop (length t) (ch "$" ∷ cs)
    seam t r e = e ∙ ap (λ (l : Text). t ++ l) (sym (drop-append_seam t r) ∙ ap (drop (length t)) (sym e))

-- The turn at an interpolation with the characters `$` and `t`.
abbrev InterpTurn : Interpolation → Text → Turn
InterpTurn i t =
    on (piece StringInterpStart i.text (1 + length i.chars) ∷ [])
    (if i.open_end then fault UnterminatedInterpolation (1 + length i.chars) (1 + length i.chars) ∷ [] else [])
    i.open_end (length t) [] true

interp_turn : (x : Bool) (cs : Text) → next is_interp_start cs ≡ true
    → (t : Text) × ((interpolation_of cs).chars ≡ ch "$" ∷ t) × (turn 1 [] x (ch "$") cs ≡ InterpTurn (interpolation_of cs) t)
unfolding interpolation_of braces named turn string_dollar brace_interp name_interp flush is_empty
interp_turn x cs h =
    rw h (if_both (λ (i : Interpolation) (y : Turn). (t : Text) × (i.chars ≡ ch "$" ∷ t) × (y ≡ InterpTurn i t)) (starts_with (text "{") cs)
    (λ _. (_, refl, refl)) (λ _. (_, refl, refl)))

faults_interp : (start p : Position) (n : Text) (i : Interpolation)
    → faults_from start p (i.chars ++ n) (if i.open_end then fault UnterminatedInterpolation (1 + length i.chars) (1 + length i.chars) ∷ [] else [])
    ≡ interpolation_errors (advances p i.chars) i
unfolding faults_from place_from interpolation_errors
faults_interp start p n i =
    let z : 1 + length i.chars ≡ suc (length i.chars) = omega arith in
    if_both (λ (a : List Fault) (b : List TokenizeError). faults_from start p (i.chars ++ n) a ≡ b) i.open_end
    (λ _. rw (z, take-append_seam i.chars n)) (λ _. refl)

tokens_interp : (start p : Position) (n : Text) (i : Interpolation)
    → tokens_from start p (i.chars ++ n) (piece StringInterpStart i.text (1 + length i.chars) ∷ [])
    ≡ interpolation start (advances p i.chars) i ∷ []
unfolding tokens_from place_from
tokens_interp start p n i =
    let z : 1 + length i.chars ≡ suc (length i.chars) = omega arith in
    rw (z, take-append_seam i.chars n)

-- At an interpolation, where nothing is held back: one token, and the cursor behind it.
pub held_interp : (x : Bool) (start p : Position) (cs rest : Text) → next is_interp_start cs ≡ true → ch "$" ∷ cs ≡ (interpolation_of cs).chars ++ rest
    → held x start p [] (ch "$" ∷ cs)
    ≡ and_then (interpolation start (advances p (interpolation_of cs).chars) (interpolation_of cs) ∷ [])
    (interpolation_errors (advances p (interpolation_of cs).chars) (interpolation_of cs)) (interpolation_of cs).open_end
    (left (InString start (advances p (interpolation_of cs).chars)) rest)
unfolding left
held_interp x start p cs rest h q = go (interpolation_of cs) (interp_turn x cs h) q
  where
    go : (i : Interpolation) → ((t : Text) × (i.chars ≡ ch "$" ∷ t) × (turn 1 [] x (ch "$") cs ≡ InterpTurn i t)) → ch "$" ∷ cs ≡ i.chars ++ rest
        → held x start p [] (ch "$" ∷ cs)
        ≡ and_then (interpolation start (advances p i.chars) i ∷ []) (interpolation_errors (advances p i.chars) i) i.open_end (held true start (advances p i.chars) [] rest)
    go i (t, e, y) q =
        let n = length i.chars in
        let ps = piece StringInterpStart i.text (1 + n) ∷ [] in
        let fs = if i.open_end then fault UnterminatedInterpolation (1 + n) (1 + n) ∷ [] else [] in
        let s : cs ≡ t ++ rest = ap (drop 1) (q ∙ ap (λ (l : Text). l ++ rest) e) in
        let fits : length t ≤ length cs = omega (arith, ap length s, length-append t rest) in
        let j : suc 1 + length t ≡ 1 + n = omega (arith, ap length e) in
        let a : take (length t) cs ≡ t = ap (take (length t)) s ∙ take-append_seam t rest in
        let b : drop (length t) cs ≡ rest = ap (drop (length t)) s ∙ drop-append_seam t rest in
        let w : string_from 0 1 [] x (i.chars ++ rest) ≡ taking i.chars (before ps fs i.open_end (string_from 0 (1 + n) [] true rest))
        = ap (string_from 0 1 [] x) (sym q)
        ∙ (string_turn 1 [] x (ch "$") cs ps fs i.open_end (length t) [] true y fits
        ∙ rw (a, b, j) (ap (λ (l : Text). taking l (before ps fs i.open_end (string_from 0 (1 + n) [] true rest))) (sym e))) in
        let m = (string_from 0 1 [] true rest).chars in
        ap (held x start p []) q
        ∙ (held_step x true start p [] [] i.chars rest ps fs i.open_end w
        ∙ rw (tokens_interp start p m i, faults_interp start p m i))

-- ── How a string stops, with the text `m` held back ──

-- At the end of the text.
held_end : (x : Bool) (start p : Position) (m : Text)
    → held x start p m [] ≡ and_then (literal start p m ∷ []) (error_at UnterminatedString p p ∷ []) true (left (Outside p) [])
unfolding held left string_from string_ran_out tokens_from faults_from place_from advances
held_end x start p m = refl

-- At a line feed, which it does not take.
held_feed : (x : Bool) (start p : Position) (m cs : Text)
    → held x start p m (LF ∷ cs) ≡ and_then (literal start p m ∷ []) (error_at LineFeedInString start p ∷ []) false (left (Outside p) (LF ∷ cs))
unfolding held left string_from turn string_broken tokens_from faults_from place_from advances
held_feed x start p m cs = refl

-- At the closing quote, where there is something to give.
held_quote : (x : Bool) (start p : Position) (m cs : Text) → (is_empty m && x) ≡ false
    → held x start p m (ch "\"" ∷ cs) ≡ and_then (literal start (advance p (ch "\"")) m ∷ []) [] false (left (Outside (advance p (ch "\""))) cs)
unfolding held left string_from turn string_ended tokens_from faults_from place_from advances
held_quote x start p m cs e = rw e

-- At the closing quote, where there is nothing to give.
held_over : (x : Bool) (start p : Position) (m cs : Text) → (is_empty m && x) ≡ true
    → held x start p m (ch "\"" ∷ cs) ≡ and_then [] [] false (left (Outside (advance p (ch "\""))) cs)
unfolding held left string_from turn string_ended tokens_from faults_from place_from advances
held_over x start p m cs e = rw e

-- At an interpolation: the text held back comes out, and the string is taken up again at the same `$` with nothing held back.
flush_one : (i : ℕ) (m : Text) → is_empty m ≡ false → flush i m ≡ piece StringLiteral m i ∷ []
unfolding flush
flush_one i m e = rw e

follow_flushed : (m : Text) (x : Piece) (fs : List Fault) (o : Bool) (k : ℕ) (go : ℕ → Text → Bool → Segment)
    → follow (ch "$") (on (flush 1 m ++ (x ∷ [])) fs o k [] true) go ≡ before (flush 1 m) [] false (follow (ch "$") (on (x ∷ []) fs o k [] true) go)
follow_flushed m x fs o k go =
    let s = go k [] true in
    rw (append_assoc (flush 1 m) (x ∷ []) s.pieces)

brace_flushed : (m : Text) (u : Upto) (go : ℕ → Text → Bool → Segment)
    → follow (ch "$") (brace_interp 1 m u) go ≡ before (flush 1 m) [] false (follow (ch "$") (brace_interp 1 [] u) go)
unfolding brace_interp flush is_empty
brace_flushed m u go =
    let end = 1 + length (text "${" ++ (u.before ++ closing (text "}") u)) in
    follow_flushed m (piece StringInterpStart (text "${" ++ (u.before ++ text "}")) end)
    (if u.open_end then fault UnterminatedInterpolation end end ∷ [] else []) u.open_end (suc (length (u.before ++ closing (text "}") u))) go

name_flushed : (m name : Text) (go : ℕ → Text → Bool → Segment)
    → follow (ch "$") (name_interp 1 m name) go ≡ before (flush 1 m) [] false (follow (ch "$") (name_interp 1 [] name) go)
unfolding name_interp flush is_empty
name_flushed m name go = follow_flushed m (piece StringInterpStart (ch "$" ∷ name) (1 + suc (length name))) [] false (length name) go

string_flushed : (m : Text) (x : Bool) (cs : Text) → next is_interp_start cs ≡ true
    → string_from 0 1 m x (ch "$" ∷ cs) ≡ before (flush 1 m) [] false (string_from 0 1 [] true (ch "$" ∷ cs))
unfolding string_from turn string_dollar
string_flushed m x cs h =
    let go : ℕ → Text → Bool → Segment = λ k b y. string_from k 2 b y cs in
    rw h (if_both (λ (t t' : Turn). follow (ch "$") t go ≡ before (flush 1 m) [] false (follow (ch "$") t' go)) (starts_with (text "{") cs)
    (λ _. brace_flushed m (up_to (text "}") (drop 1 cs)) go) (λ _. name_flushed m (run is_ident_part cs).taken go))

held_before : (x : Bool) (start p : Position) (m cs : Text)
    → string_from 0 1 m x cs ≡ before (piece StringLiteral m 1 ∷ []) [] false (string_from 0 1 [] true cs)
    → held x start p m cs ≡ and_then (literal start p m ∷ []) [] false (left (InString start p) cs)
unfolding held left tokens_from faults_from place_from advances
held_before x start p m cs e = rw e

held_dollar : (x : Bool) (start p : Position) (m cs : Text) → next is_interp_start cs ≡ true → is_empty m ≡ false
    → held x start p m (ch "$" ∷ cs) ≡ and_then (literal start p m ∷ []) [] false (left (InString start p) (ch "$" ∷ cs))
held_dollar x start p m cs h e =
    held_before x start p m (ch "$" ∷ cs)
    (string_flushed m x cs h ∙ ap (λ (ps : List Piece). before ps [] false (string_from 0 1 [] true (ch "$" ∷ cs))) (flush_one 1 m e))

-- ── A step inside a string ──

-- The step takes the whole units `t`, which make `m` and have the errors `es`, from `p` to `q`; then it goes by what stands behind
-- them. `x` is false for a string's first step and true for a cursor inside a string.
module _ (x : Bool) (start p : Position) (cs t : Text) where
  abbrev m : Text
  m = units_made (length t) cs

  abbrev es : List TokenizeError
  es = units_errors (length t) p cs

  abbrev q : Position
  q = advances p t

  units_then : (rest : Text) (ts : List Token) (fs : List TokenizeError) (o : Bool) (r : Lexed) → Whole cs t rest
      → held x start q m rest ≡ and_then ts fs o r → held x start p [] cs ≡ and_then ts (es ++ fs) o r
  units_then rest ts fs o r w e = w.same x start p [] ∙ (ap (and_then [] es false) e ∙ then_join [] ts es fs false o r)

  -- The end of the text: a literal, and error 4.
  pub piece_end : Whole cs t []
      → held x start p [] cs ≡ and_then (literal start q m ∷ []) (es ++ (error_at UnterminatedString q q ∷ [])) true (left (Outside q) [])
  piece_end w = units_then [] (literal start q m ∷ []) (error_at UnterminatedString q q ∷ []) true (left (Outside q) []) w (held_end x start q m)

  -- A line feed: a literal, and error 5.
  pub piece_feed : (rest : Text) → Whole cs t (LF ∷ rest)
      → held x start p [] cs ≡ and_then (literal start q m ∷ []) (es ++ (error_at LineFeedInString start q ∷ [])) false (left (Outside q) (LF ∷ rest))
  piece_feed rest w =
      units_then (LF ∷ rest) (literal start q m ∷ []) (error_at LineFeedInString start q ∷ []) false (left (Outside q) (LF ∷ rest)) w (held_feed x start q m rest)

  -- The closing quote: a literal.
  pub piece_quote : (rest : Text) → Whole cs t (ch "\"" ∷ rest) → (is_empty m && x) ≡ false
      → held x start p [] cs ≡ and_then (literal start (advance q (ch "\"")) m ∷ []) es false (left (Outside (advance q (ch "\""))) rest)
  piece_quote rest w e =
      units_then (ch "\"" ∷ rest) (literal start (advance q (ch "\"")) m ∷ []) [] false (left (Outside (advance q (ch "\""))) rest) w (held_quote x start q m rest e)
      ∙ rw (append-nil es)

  -- The closing quote behind an interpolation and units that make nothing: no token more.
  pub string_over : (rest : Text) → Whole cs t (ch "\"" ∷ rest) → (is_empty m && x) ≡ true
      → held x start p [] cs ≡ and_then [] es false (left (Outside (advance q (ch "\""))) rest)
  string_over rest w e =
      units_then (ch "\"" ∷ rest) [] [] false (left (Outside (advance q (ch "\""))) rest) w (held_over x start q m rest e) ∙ rw (append-nil es)

  -- An interpolation behind units that make something: a literal, and the cursor at the interpolation.
  pub piece_dollar : (rest : Text) → Whole cs t (ch "$" ∷ rest) → next is_interp_start rest ≡ true → is_empty m ≡ false
      → held x start p [] cs ≡ and_then (literal start q m ∷ []) es false (left (InString start q) (ch "$" ∷ rest))
  piece_dollar rest w h e =
      units_then (ch "$" ∷ rest) (literal start q m ∷ []) [] false (left (InString start q) (ch "$" ∷ rest)) w (held_dollar x start q m rest h e) ∙ rw (append-nil es)

  -- An interpolation behind units that make nothing: its token, and the cursor behind it.
  pub piece_interp : (ds rest : Text) → Whole cs t (ch "$" ∷ ds) → next is_interp_start ds ≡ true → is_empty m ≡ true → ch "$" ∷ ds ≡ (interpolation_of ds).chars ++ rest
      → held x start p [] cs
      ≡ and_then (interpolation start (advances q (interpolation_of ds).chars) (interpolation_of ds) ∷ [])
      (es ++ interpolation_errors (advances q (interpolation_of ds).chars) (interpolation_of ds)) (interpolation_of ds).open_end
      (left (InString start (advances q (interpolation_of ds).chars)) rest)
  piece_interp ds rest w h e s =
      let i = interpolation_of ds in
      let q' = advances q i.chars in
      units_then (ch "$" ∷ ds) (interpolation start q' i ∷ []) (interpolation_errors q' i) i.open_end (left (InString start q') rest) w
      (ap (λ (b : Text). held x start q b (ch "$" ∷ ds)) (empty_nil m e) ∙ held_interp x start q ds rest h s)

-- An interpolation, and behind it units `u` that make nothing and the closing quote: its token, and the string is over.
pub interp_over : (x : Bool) (start p : Position) (cs t ds mid u rest : Text)
    → Whole cs t (ch "$" ∷ ds) → next is_interp_start ds ≡ true → is_empty (units_made (length t) cs) ≡ true → ch "$" ∷ ds ≡ (interpolation_of ds).chars ++ mid
    → Whole mid u (ch "\"" ∷ rest) → is_empty (units_made (length u) mid) ≡ true
    → let q = advances (advances p t) (interpolation_of ds).chars in
    held x start p [] cs
    ≡ and_then (interpolation start q (interpolation_of ds) ∷ []) (units_errors (length t) p cs ++ interpolation_errors q (interpolation_of ds) ++ units_errors (length u) q mid)
    ((interpolation_of ds).open_end || false) (left (Outside (advance (advances q u) (ch "\""))) rest)
interp_over x start p cs t ds mid u rest w h e s v g =
    let i = interpolation_of ds in
    let q = advances (advances p t) i.chars in
    let es = units_errors (length t) p cs ++ interpolation_errors q i in
    let fs = units_errors (length u) q mid in
    piece_interp x start p cs t ds mid w h e s
    ∙ (ap (and_then (interpolation start q i ∷ []) es i.open_end)
    (left_inside start q mid ∙ string_over true start q mid u rest v (later_gives (units_made (length u) mid) ∙ g))
    ∙ then_join (interpolation start q i ∷ []) [] es fs i.open_end false (left (Outside (advance (advances q u) (ch "\""))) rest))
