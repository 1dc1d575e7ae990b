-- What an open segment tells with a lone line feed behind: it swallows the line feed, and a token or an error ends behind it, or it
-- is a string that the line feed breaks, with one error 5 more. Nothing here looks at lines or columns. Assumes nothing.
use Rattle.std.specs.Prelude.{if◌then◌else◌}
use mathlib.Core.Path.{◌≡◌, refl, sym, ap, ap₂, ◌∙◌}
use mathlib.Core.Logic.{◌⊎◌, inl, inr, ⊎_map, ⊎_elim}
use mathlib.Core.Bool.{Bool, true, false, ◌&&◌, not, false≢true}
use mathlib.Core.List.{List, [], ◌∷◌, ◌++◌, append-nil}
use mathlib.Core.Option.{Option, none, some}
use Prim.Native.Nat.{ℕ, zero, suc, ◌+◌, max, ◌≤◌, ◌<◌}
use native.Mathlib.Omega.{arith}
use lib.ListN.{length, drop}
use Rattle.characters.specs.Choice.{◌is◌, within}
use Rattle.characters.specs.Space.{is_white}
use Rattle.characters.proofs.Choice.{if_all, if_rel}
use Rattle.rules.specs.Text.{Char, Text, ch, text, one_of, LF, is_digit, is_ident_start, is_letter}
use Rattle.rules.specs.Scan.{next, starts_with, Upto, up_to}
use Rattle.rules.specs.Tables.{LineFeedInString, MARKS, THIRDS, ESCAPES, lookup, Row}
use Rattle.rules.specs.Segment.{Piece, Fault, Segment}
use Rattle.rules.specs.Comments.{white_space, line_comment, block_comment}
use Rattle.rules.specs.Numbers.{radix, decimal, zero_then, parse_number}
use Rattle.rules.specs.Names.{parse_identifier_or_keyword}
use Rattle.rules.specs.Marks.{unexpected, two_marks, mark_with, mark_in, parse_mark}
use Rattle.rules.specs.Strings.{parse_raw_string, plain_escape, escape, first, string_ran_out, string_broken, string_ended, Turn, stop, on, other_escape, string_escape, brace_interp, name_interp, is_interp_start, string_dollar, turn, follow, string_from, parse_string_tokens, parse_quote}
use Rattle.rules.specs.Characters.{close_char, char_escape, parse_char}
use Rattle.rules.specs.Docs.{line_doc, block_doc, parse_slash_or_comment}
use Rattle.rules.specs.Lexer.{dollar_braces, parse_dollar, segment}
use Rattle.rules.proofs.Ahead.{and_left, is_eq, next_same, starts_same, drop_same}
use Rattle.rules.proofs.Kept.{out, turn_out, turn_same}
use Rattle.rules.proofs.Front.{closed_not, Takes, segment_takes, TurnFits, turn_fits, string_open}

-- The line feed alone.
abbrev pub Z : Text
Z = LF ∷ []

-- How many errors are of kind 5, a line feed in a string.
unfoldable pub fives : {A : Type 0} → (A → ℕ) → List A → ℕ
fives kind [] = 0
fives kind (x ∷ xs) = (if kind x is LineFeedInString then 1 else 0) + fives kind xs

pub fives_append : {A : Type 0} (kind : A → ℕ) (xs ys : List A) → fives kind (xs ++ ys) ≡ fives kind xs + fives kind ys
unfolding fives
fives_append kind [] ys = omega arith
fives_append kind (x ∷ xs) ys = omega (arith, fives_append kind xs ys)

abbrev pub fault_fives : List Fault → ℕ
fault_fives = fives (λ (f : Fault). f.kind)

-- ── Where tokens and errors end ──

-- The greatest of the numbers of a list's items.
unfoldable pub top : {A : Type 0} → (A → ℕ) → List A → ℕ
top f [] = 0
top f (x ∷ xs) = max (f x) (top f xs)

pub top_append : {A : Type 0} (f : A → ℕ) (xs ys : List A) → top f (xs ++ ys) ≡ max (top f xs) (top f ys)
unfolding top
top_append f [] ys = omega arith
top_append f (x ∷ xs) ys = omega (arith, top_append f xs ys)

abbrev pub last_end : List Piece → ℕ
last_end = top (λ (x : Piece). x.end)

abbrev pub last_to : List Fault → ℕ
last_to = top (λ (f : Fault). f.to)

-- A token or an error ends where the segment ends.
abbrev pub Marked : Segment → Type 0
Marked s = length s.chars ≤ max (last_end s.pieces) (last_to s.faults)

block_comment_marked : (u : Upto) → u.open_end ≡ true → Marked (block_comment u)
unfolding block_comment top
block_comment_marked u e = rw e (omega arith)

block_doc_marked : (u : Upto) → Marked (block_doc u)
unfolding block_doc top
block_doc_marked u = omega arith

raw_marked : (u : Upto) → Marked (parse_raw_string u)
unfolding parse_raw_string top
raw_marked u = omega arith

braces_marked : (u : Upto) → Marked (dollar_braces u)
unfolding dollar_braces top
braces_marked u = omega arith

-- ── What stays open ──

up_to_open : (mark : Text) → one_of mark LF ≡ false → starts_with mark [] ≡ false → (cs : Text)
    → (up_to mark cs).open_end ≡ true → (up_to mark (cs ++ Z)).open_end ≡ true
unfolding up_to
up_to_open mark e e₀ [] = λ h. rw (starts_same [] mark e [], e₀)
up_to_open mark e e₀ (c ∷ cs) =
    if_rel (λ (u u' : Upto). u.open_end ≡ true → u'.open_end ≡ true) (starts_with mark (c ∷ cs)) (starts_with mark (c ∷ (cs ++ Z)))
    (starts_same [] mark e (c ∷ cs)) (λ _. closed_not) (λ _. up_to_open mark e e₀ cs)

open_behind : (pre mark : Text) → one_of mark LF ≡ false → starts_with mark [] ≡ false → (cs : Text) → starts_with pre cs ≡ true
    → (up_to mark (drop (length pre) cs)).open_end ≡ true → (up_to mark (drop (length pre) (cs ++ Z))).open_end ≡ true
open_behind pre mark e e₀ cs q h = rw (drop_same [] pre cs q) (up_to_open mark e e₀ (drop (length pre) cs) h)

-- An open segment is open with a line feed behind, and a token or an error ends at its end.
abbrev Stays : Segment → Segment → Type 0
Stays s s' = out s ≡ true → (out s' ≡ true) × Marked s'

mark_closed : (c : Char) (cs : Text) → out (parse_mark c cs) ≡ false
unfolding parse_mark mark_in mark_with unexpected two_marks
mark_closed c cs = row (lookup c MARKS) cs
  where
    two : (k : ℕ) (o : Option ℕ) (d : Char) (cs : Text) → out (two_marks k o c d cs) ≡ false
    two k none d cs = refl
    two k (some third) d cs = if_all (λ s. out s ≡ false) (starts_with (d ∷ []) cs) (λ _. refl) (λ _. refl)

    column : (alone : ℕ) (o : Option ℕ) (d : Char) (cs : Text) → out (mark_with alone c o d cs) ≡ false
    column alone none d cs = refl
    column alone (some k) d cs = two k (lookup k THIRDS) d cs

    row : (o : Option Row) (cs : Text) → out (mark_in o c cs) ≡ false
    row none cs = refl
    row (some r) [] = refl
    row (some r) (d ∷ cs) = column r.alone (lookup d r.columns) d cs

not_open {ℓ} : {A : Type ℓ} {b : Bool} → b ≡ false → b ≡ true → A
not_open e h = absurd (false≢true (sym e ∙ h))

slash_stays : (cs : Text) → Stays (parse_slash_or_comment cs) (parse_slash_or_comment (cs ++ Z))
unfolding parse_slash_or_comment line_doc line_comment block_doc block_comment one_of starts_with
slash_stays cs =
    if_rel Stays (starts_with (text "//") cs) _ (starts_same [] (text "//") refl cs) (λ _. closed_not)
    (λ _. if_rel Stays (starts_with (text "/") cs) _ (starts_same [] (text "/") refl cs) (λ _. closed_not)
    (λ _. if_rel Stays (starts_with (text "**") cs && not (starts_with (text "**/") cs)) _
    (ap₂ (λ a b. a && not b) (starts_same [] (text "**") refl cs) (starts_same [] (text "**/") refl cs))
    (λ e h. (open_behind (text "**") (text "*/") refl refl cs (and_left _ _ e) h, block_doc_marked (up_to (text "*/") (drop 2 (cs ++ Z)))))
    (λ _. if_rel Stays (starts_with (text "*") cs) _ (starts_same [] (text "*") refl cs)
    (λ e h. let o = open_behind (text "*") (text "*/") refl refl cs e h in (o, block_comment_marked (up_to (text "*/") (drop 1 (cs ++ Z))) o))
    (λ _ h. not_open (mark_closed (ch "/") cs) h))))

dollar_stays : (cs : Text) → Stays (parse_dollar cs) (parse_dollar (cs ++ Z))
unfolding parse_dollar dollar_braces one_of starts_with
dollar_stays cs =
    if_rel Stays (starts_with (text "{") cs) _ (starts_same [] (text "{") refl cs)
    (λ e h. (open_behind (text "{") (text "}") refl refl cs e h, braces_marked (up_to (text "}") (drop 1 (cs ++ Z)))))
    (λ _. closed_not)

-- ── What is told ──

-- `s'` takes all the text and the line feed, and a token or an error ends there.
abbrev pub Swallows : Char → Text → Segment → Type 0
Swallows c cs s' = (s'.chars ≡ c ∷ (cs ++ Z)) × Marked s'

-- The line feed adds an error 5.
abbrev pub Breaks : Segment → Segment → Type 0
Breaks s s' = fault_fives s.faults < fault_fives s'.faults

abbrev Tells : Char → Text → Segment → Segment → Type 0
Tells c cs s s' = out s ≡ true → ((out s' ≡ true) × Marked s') ⊎ (Swallows c cs s' ⊎ Breaks s s')

pub open_takes_all : (c : Char) (cs : Text) (s : Segment) → Takes c cs s → out s ≡ true → s.chars ≡ c ∷ cs
open_takes_all c cs s t o =
    t.took ∙ ap (λ x. c ∷ x) (sym (append-nil t.more) ∙ (ap (λ r. t.more ++ r) (sym (t.all o)) ∙ t.split))

-- ── Strings ──

-- A string stops closed.
abbrev StopClosed : Turn → Type 0
StopClosed (stop s) = out s ≡ false
StopClosed (on ps fs o k buf interp) = Unit {0}

turn_stops : (i : ℕ) (buf : Text) (interp : Bool) (c : Char) (cs : Text) → StopClosed (turn i buf interp c cs)
unfolding turn string_broken string_ended string_escape string_dollar brace_interp name_interp
turn_stops i buf interp c cs =
    if_all StopClosed (c is LF) (λ _. refl)
    (λ _. if_all StopClosed (c is ch "\"") (λ _. refl)
    (λ _. if_all StopClosed (c is ch "\\") (λ _. esc cs)
    (λ _. if_all StopClosed (c is ch "$")
    (λ _. if_all StopClosed (next is_interp_start cs)
    (λ _. if_all StopClosed (starts_with (text "{") cs) (λ _. tt) (λ _. tt)) (λ _. tt))
    (λ _. tt))))
  where
    esc : (cs : Text) → StopClosed (string_escape i buf interp cs)
    esc [] = tt
    esc (e ∷ cs) = tt

-- A turn in which the text ran out leaves the string open with the line feed behind.
module _ (i : ℕ) (c : Char) (cs : Text) where
  abbrev TurnStays : Turn → Turn → Type 0
  TurnStays t t' = turn_out t ≡ true → out (follow c t' (λ k b x. string_from k (suc i) b x (cs ++ Z))) ≡ true

escape_stays : (i : ℕ) (buf : Text) (interp : Bool) (c : Char) (cs : Text)
    → TurnStays i c cs (string_escape i buf interp cs) (string_escape i buf interp (cs ++ Z))
unfolding string_escape escape plain_escape other_escape lookup ESCAPES string_from string_ran_out
escape_stays i buf interp c [] h = refl
escape_stays i buf interp c (e ∷ cs) h = closed_not h

brace_stays : (i : ℕ) (buf : Text) (c : Char) (cs : Text) → starts_with (text "{") cs ≡ true
    → TurnStays i c cs (brace_interp i buf (up_to (text "}") (drop 1 cs))) (brace_interp i buf (up_to (text "}") (drop 1 (cs ++ Z))))
unfolding brace_interp one_of starts_with
brace_stays i buf c cs e h = rw (open_behind (text "{") (text "}") refl refl cs e h)

string_dollar_stays : (i : ℕ) (buf : Text) (interp : Bool) (c : Char) (cs : Text)
    → TurnStays i c cs (string_dollar i buf interp cs) (string_dollar i buf interp (cs ++ Z))
unfolding string_dollar name_interp one_of is_interp_start is_ident_start is_letter within
string_dollar_stays i buf interp c cs =
    if_rel (TurnStays i c cs) (next is_interp_start cs) (next is_interp_start (cs ++ Z)) (next_same [] is_interp_start refl cs)
    (λ _. if_rel (TurnStays i c cs) (starts_with (text "{") cs) (starts_with (text "{") (cs ++ Z)) (starts_same [] (text "{") refl cs)
    (λ e. brace_stays i buf c cs e) (λ _. closed_not))
    (λ _. closed_not)

turn_stays : (i : ℕ) (buf : Text) (interp : Bool) (c : Char) (cs : Text)
    → TurnStays i c cs (turn i buf interp c cs) (turn i buf interp c (cs ++ Z))
unfolding turn
turn_stays i buf interp c cs =
    if_rel (TurnStays i c cs) (c is LF) (c is LF) refl (λ _. closed_not)
    (λ _. if_rel (TurnStays i c cs) (c is ch "\"") (c is ch "\"") refl (λ _. closed_not)
    (λ _. if_rel (TurnStays i c cs) (c is ch "\\") (c is ch "\\") refl (λ _. escape_stays i buf interp c cs)
    (λ _. if_rel (TurnStays i c cs) (c is ch "$") (c is ch "$") refl (λ _. string_dollar_stays i buf interp c cs) (λ _. closed_not))))

abbrev StringTells : Segment → Segment → Type 0
StringTells s s' = out s ≡ true → (out s' ≡ true) ⊎ Breaks s s'

follow_tells : (c : Char) (t t' : Turn) (go go' : ℕ → Text → Bool → Segment) → StopClosed t → (turn_out t ≡ false → t' ≡ t)
    → (turn_out t ≡ true → out (follow c t' go') ≡ true)
    → ((k : ℕ) (b : Text) (x : Bool) → StringTells (go k b x) (go' k b x))
    → StringTells (follow c t go) (follow c t' go')
follow_tells c (stop s) t' go go' hs hk hw hg h = not_open hs h
follow_tells c (on ps fs true k b x) t' go go' hs hk hw hg h = inl (hw refl)
follow_tells c (on ps fs false k b x) t' go go' hs hk hw hg h =
    rw (hk refl)
    (⊎_map (λ e. e) (λ (br : Breaks (go k b x) (go' k b x)). omega (arith, fives_append (λ (f : Fault). f.kind) fs (go k b x).faults, fives_append (λ (f : Fault). f.kind) fs (go' k b x).faults)) (hg k b x h))

string_tells : (k i : ℕ) (buf : Text) (interp : Bool) (cs : Text) → StringTells (string_from k i buf interp cs) (string_from k i buf interp (cs ++ Z))
unfolding string_from string_ran_out turn string_broken fives
string_tells zero i buf interp [] h = inr (omega arith)
string_tells (suc k) i buf interp [] h = inl refl
string_tells (suc k) i buf interp (c ∷ cs) h = string_tells k (suc i) buf interp cs h
string_tells zero i buf interp (c ∷ cs) h =
    follow_tells c (turn i buf interp c cs) (turn i buf interp c (cs ++ Z)) _ _
    (turn_stops i buf interp c cs) (turn_same [] i buf interp c cs) (turn_stays i buf interp c cs)
    (λ k b x. string_tells k (suc i) b x cs) h

-- An open string has an error at its end.
abbrev StringMarked : ℕ → Segment → Type 0
StringMarked i s = out s ≡ true → i + length s.chars ≤ last_to s.faults

follow_marked : (i : ℕ) (c : Char) (cs : Text) (t : Turn) (go : ℕ → Text → Bool → Segment) → StopClosed t → TurnFits c cs t
    → ((k : ℕ) (b : Text) (x : Bool) → length cs ≤ k → out (go k b x) ≡ true) → ((k : ℕ) (b : Text) (x : Bool) → StringMarked (suc i) (go k b x))
    → StringMarked i (follow c t go)
follow_marked i c cs (stop s) go hs hf ho hg h = not_open hs h
follow_marked i c cs (on ps fs true k b x) go hs hf ho hg h = omega (arith, hg k b x (ho k b x (hf refl)), top_append (λ (f : Fault). f.to) fs (go k b x).faults)
follow_marked i c cs (on ps fs false k b x) go hs hf ho hg h = omega (arith, hg k b x h, top_append (λ (f : Fault). f.to) fs (go k b x).faults)

string_marked : (k i : ℕ) (buf : Text) (interp : Bool) (cs : Text) → StringMarked i (string_from k i buf interp cs)
unfolding string_from string_ran_out top
string_marked k i buf interp [] h = omega arith
string_marked (suc k) i buf interp (c ∷ cs) h = omega (arith, string_marked k (suc i) buf interp cs h)
string_marked zero i buf interp (c ∷ cs) h =
    follow_marked i c cs (turn i buf interp c cs) _ (turn_stops i buf interp c cs) (turn_fits i buf interp c cs)
    (λ k b x. string_open k (suc i) b x cs) (λ k b x. string_marked k (suc i) b x cs) h

quote_tells : (cs : Text) → Tells (ch "\"") cs (parse_quote cs) (parse_quote (cs ++ Z))
unfolding parse_quote parse_raw_string parse_string_tokens one_of starts_with
quote_tells cs =
    if_rel (Tells (ch "\"") cs) (starts_with (text "\"\"") cs) (starts_with (text "\"\"") (cs ++ Z)) (starts_same [] (text "\"\"") refl cs)
    (λ e h. inl (open_behind (text "\"\"") (text "\"\"\"") refl refl cs e h, raw_marked (up_to (text "\"\"\"") (drop 2 (cs ++ Z)))))
    (λ _ h. ⊎_map (λ e. (e, whole_marked e)) inr (string_tells 0 1 [] false cs h))
  where
    whole_marked : out (string_from 0 1 [] false (cs ++ Z)) ≡ true → Marked (first (ch "\"") (string_from 0 1 [] false (cs ++ Z)))
    whole_marked e = omega (arith, string_marked 0 1 [] false (cs ++ Z) e)

-- ── Characters ──

close_char_closed : (taken t : Text) (fs : List Fault) (cs : Text) → out (close_char taken t fs cs) ≡ false
unfolding close_char
close_char_closed taken t fs cs = if_all (λ s. out s ≡ false) (starts_with (text "'") cs) (λ _. refl) (λ _. refl)

char_escape_closed : (e : Char) (cs : Text) → out (char_escape (e ∷ cs)) ≡ false
unfolding char_escape
char_escape_closed e cs = close_char_closed _ _ _ _

char_escape_tells : (cs : Text) → Tells (ch "'") (ch "\\" ∷ cs) (char_escape cs) (char_escape (cs ++ Z))
unfolding char_escape escape plain_escape lookup ESCAPES close_char starts_with top
char_escape_tells [] h = inr (inl (refl, omega arith))
char_escape_tells (e ∷ cs) h = not_open (char_escape_closed e cs) h

char_tells : (cs : Text) → Tells (ch "'") cs (parse_char cs) (parse_char (cs ++ Z))
unfolding parse_char close_char starts_with top
char_tells [] = λ h. inr (inl (refl, omega arith))
char_tells (c ∷ cs) =
    if_rel (Tells (ch "'") (c ∷ cs)) (c is ch "\\") (c is ch "\\") refl
    (λ e. rw (is_eq c (ch "\\") e) (char_escape_tells cs))
    (λ _ h. not_open (close_char_closed (ch "'" ∷ c ∷ []) (c ∷ []) [] cs) h)

-- ── Every segment ──

number_closed : (cs : Text) → out (parse_number cs) ≡ false
unfolding parse_number radix decimal
number_closed cs =
    if_all (λ s. out s ≡ false) (zero_then (text "xX") cs) (λ _. refl)
    (λ _. if_all (λ s. out s ≡ false) (zero_then (text "bB") cs) (λ _. refl) (λ _. refl))

segment_told : (c : Char) (cs : Text) → Tells c cs (segment (c ∷ cs)) (segment (c ∷ (cs ++ Z)))
unfolding segment white_space parse_identifier_or_keyword
segment_told c cs =
    if_rel (Tells c cs) (is_white c) (is_white c) refl (λ _. closed_not)
    (λ _. if_rel (Tells c cs) (c is ch "/") (c is ch "/") refl (λ e h. inl (slash_stays cs h))
    (λ _. if_rel (Tells c cs) (c is ch "$") (c is ch "$") refl (λ e h. inl (dollar_stays cs h))
    (λ _. if_rel (Tells c cs) (c is ch "\"") (c is ch "\"") refl (λ e. rw (is_eq c (ch "\"") e) (quote_tells cs))
    (λ _. if_rel (Tells c cs) (c is ch "'") (c is ch "'") refl (λ e. rw (is_eq c (ch "'") e) (char_tells cs))
    (λ _. if_rel (Tells c cs) (is_digit c) (is_digit c) refl (λ _ h. not_open (number_closed (c ∷ cs)) h)
    (λ _. if_rel (Tells c cs) (is_ident_start c) (is_ident_start c) refl (λ _. closed_not)
    (λ _ h. not_open (mark_closed c cs) h)))))))

-- An open segment, with the line feed behind, swallows it or is broken by it.
pub segment_tells : (c : Char) (cs : Text) → out (segment (c ∷ cs)) ≡ true → Swallows c cs (segment (c ∷ (cs ++ Z))) ⊎ Breaks (segment (c ∷ cs)) (segment (c ∷ (cs ++ Z)))
segment_tells c cs h =
    ⊎_elim (λ (o, m). inl (open_takes_all c (cs ++ Z) (segment (c ∷ (cs ++ Z))) (segment_takes c (cs ++ Z)) o, m)) (λ x. x) (segment_told c cs h)
