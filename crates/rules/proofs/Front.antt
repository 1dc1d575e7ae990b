-- A segment takes its characters from the front of the text, at least one; where the text ran out in it, it takes them all.
-- Assumes nothing.
use mathlib.Core.Path.{◌≡◌, refl, sym, ap, ap₂, ◌∙◌}
use mathlib.Core.Bool.{Bool, true, false, ◌&&◌, ◌||◌, not, true≢false, false≢true}
use mathlib.Core.List.{List, [], ◌∷◌, ◌++◌, append_assoc, append-nil}
use mathlib.Core.Option.{Option, none, some}
use Prim.Native.Nat.{ℕ, zero, suc, ◌≤◌, zero-le}
use native.Mathlib.Omega.{arith}
use lib.ListN.{length, take, drop, take-append-drop}
use Rattle.characters.specs.Choice.{◌is◌}
use Rattle.characters.specs.Space.{is_white}
use Rattle.characters.proofs.Choice.{if_all}
use Rattle.rules.specs.Text.{Char, Text, ch, text, one_of, LF, is_digit, is_letter, is_ident_start, is_ident_part, is_empty}
use Rattle.rules.specs.Scan.{next, starts_with, Part, run, one_char, ◌and_then◌, Upto, up_to, closing}
use Rattle.rules.specs.Tables.{Ident, Row, MARKS, THIRDS, lookup}
use Rattle.rules.specs.Segment.{Fault, Segment, word_token}
use Rattle.rules.specs.Comments.{white_space, not_lf, line_comment, block_comment}
use Rattle.rules.specs.Numbers.{hex_part, binary_part, maybe_suffix, radix, is_digit_or_underscore, whole_part, fraction, exponent, decimal, zero_then, parse_number}
use Rattle.rules.specs.Names.{parse_identifier_or_keyword}
use Rattle.rules.specs.Marks.{unexpected, two_marks, mark_with, mark_in, parse_mark}
use Rattle.rules.specs.Strings.{parse_raw_string, escape, string_ran_out, string_broken, string_ended, Turn, stop, on, string_escape, brace_interp, name_interp, is_interp_start, string_dollar, turn, follow, string_from, parse_string_tokens, parse_quote}
use Rattle.rules.specs.Characters.{close_char, char_escape, parse_char}
use Rattle.rules.specs.Docs.{line_doc, block_doc, parse_slash_or_comment}
use Rattle.rules.specs.Lexer.{dollar_braces, parse_dollar, segment}
use Rattle.rules.proofs.Ahead.{and_left, and_right, is_eq}
use Rattle.rules.proofs.Kept.{out}

-- ── What looking ahead takes ──

pub starts_split : (mark cs : Text) → starts_with mark cs ≡ true → mark ++ drop (length mark) cs ≡ cs
unfolding starts_with
starts_split [] cs e = refl
starts_split (p ∷ ps) [] e = absurd (false≢true e)
starts_split (p ∷ ps) (c ∷ cs) e =
    ap₂ (λ a b. a ∷ b) (sym (is_eq c p (and_left (c is p) (starts_with ps cs) e)))
    (starts_split ps cs (and_right (c is p) (starts_with ps cs) e))

-- A step's two parts are the text.
abbrev pub Splits : (Text → Part) → Type 0
Splits f = (cs : Text) → (f cs).taken ++ (f cs).left ≡ cs

pub run_splits : (p : Char → Bool) → Splits (run p)
unfolding run
run_splits p [] = refl
run_splits p (c ∷ cs) = if_all (λ (a : Part). a.taken ++ a.left ≡ c ∷ cs) (p c) (λ _. ap (λ t. c ∷ t) (run_splits p cs)) (λ _. refl)

pub one_splits : (p : Char → Bool) → Splits (one_char p)
unfolding one_char
one_splits p [] = refl
one_splits p (c ∷ cs) = if_all (λ (a : Part). a.taken ++ a.left ≡ c ∷ cs) (p c) (λ _. refl) (λ _. refl)

pub and_then_splits : (f g : Text → Part) → Splits f → Splits g → Splits (f and_then g)
and_then_splits f g hf hg cs = rw (append_assoc, hg (f cs).left) (hf cs)

pub fraction_splits : Splits fraction
unfolding fraction
fraction_splits [] = refl
fraction_splits (c ∷ cs) =
    if_all (λ (a : Part). a.taken ++ a.left ≡ c ∷ cs) (c is ch "." && next is_digit cs)
    (λ _. ap (λ t. c ∷ t) (run_splits is_digit_or_underscore cs)) (λ _. refl)

pub exponent_splits : Splits exponent
unfolding exponent
exponent_splits [] = refl
exponent_splits (c ∷ cs) =
    if_all (λ (a : Part). a.taken ++ a.left ≡ c ∷ cs) (one_of (text "eE") c)
    (λ _. ap (λ t. c ∷ t) (and_then_splits (one_char (one_of (text "+-"))) (run is_digit) (one_splits _) (run_splits _) cs)) (λ _. refl)

-- The characters up to the closing mark, the mark, and the rest are the text; nothing is left where there is no mark.
abbrev pub UptoSplits : Text → Text → Upto → Type 0
UptoSplits mark cs u = (r : Text) × (u.before ++ closing mark u ++ r ≡ cs) × (u.open_end ≡ true → r ≡ [])

pub up_to_splits : (mark cs : Text) → UptoSplits mark cs (up_to mark cs)
unfolding up_to
up_to_splits mark [] = ([], refl, λ _. refl)
up_to_splits mark (c ∷ cs) =
    if_all (λ (u : Upto). UptoSplits mark (c ∷ cs) u) (starts_with mark (c ∷ cs))
    (λ e. (drop (length mark) (c ∷ cs), starts_split mark (c ∷ cs) e, λ h. absurd (false≢true h)))
    (λ _. ((up_to_splits mark cs).0, ap (λ t. c ∷ t) (up_to_splits mark cs).1, (up_to_splits mark cs).2))

-- ── What a segment takes ──

-- `s` takes `c`, then `t` from the front of `cs`, and leaves `r`.
pub record Takes (c : Char) (cs : Text) (s : Segment) : Type 0 where
  pub more : Text
  pub rest : Text
  pub took : s.chars ≡ c ∷ more
  pub split : more ++ rest ≡ cs
  pub all : out s ≡ true → rest ≡ []

-- The same where the first character is part of the text.
abbrev pub Front : Text → Segment → Type 0
Front cs s = (r : Text) × (s.chars ++ r ≡ cs) × (out s ≡ true → r ≡ [])

pub closed_not {ℓ} : {A : Type ℓ} → false ≡ true → A
closed_not e = absurd (false≢true e)

-- From a text that begins with `c`.
front_takes : (c : Char) (cs : Text) (s : Segment) → is_empty s.chars ≡ false → Front (c ∷ cs) s → Takes c cs s
unfolding is_empty
front_takes c cs s ne f = go s.chars refl ne
  where
    go : (t : Text) → s.chars ≡ t → is_empty t ≡ false → Takes c cs s
    go [] q h = absurd (true≢false h)
    go (d ∷ ds) q h =
        let whole : d ∷ (ds ++ f.0) ≡ c ∷ cs = ap (λ t. t ++ f.0) (sym q) ∙ f.1 in
        record { more = ds; rest = f.0; took = cc; split = cc; all = f.2 }

-- A segment that goes up to a closing mark.
pub upto_takes : (c : Char) (pre mark cs : Text) (s : Segment) → starts_with pre cs ≡ true
    → s.chars ≡ c ∷ (pre ++ ((up_to mark (drop (length pre) cs)).before ++ closing mark (up_to mark (drop (length pre) cs))))
    → out s ≡ (up_to mark (drop (length pre) cs)).open_end → Takes c cs s
upto_takes c pre mark cs s e q o =
    let u = up_to mark (drop (length pre) cs) in
    let h = up_to_splits mark (drop (length pre) cs) in
    record {
      more = pre ++ (u.before ++ closing mark u);
      rest = h.0;
      took = q;
      split = append_assoc pre (u.before ++ closing mark u) h.0 ∙ (ap (λ t. pre ++ t) h.1 ∙ starts_split pre cs e);
      all = λ x. h.2 (sym o ∙ x);
    }

-- ── Numbers and names ──

decimal_takes : (c : Char) (cs : Text) → is_digit c ≡ true → Takes c cs (decimal (c ∷ cs))
unfolding decimal run is_digit_or_underscore is_empty
decimal_takes c cs d =
    front_takes c cs (decimal (c ∷ cs)) (rw d) (
      ((whole_part and_then fraction and_then exponent and_then maybe_suffix) (c ∷ cs)).left,
      and_then_splits whole_part (fraction and_then exponent and_then maybe_suffix) (run_splits _)
          (and_then_splits fraction (exponent and_then maybe_suffix) fraction_splits
          (and_then_splits exponent maybe_suffix exponent_splits (one_splits _)))
          (c ∷ cs),
      closed_not,
    )

radix_takes : (p : Char → Bool) (c : Char) (cs : Text) → (c is ch "0") ≡ true → Takes c cs (radix p (c ∷ cs))
unfolding radix one_char one_of is_empty
radix_takes p c cs d =
    front_takes c cs (radix p (c ∷ cs)) (rw d) (
      ((one_char (one_of (text "0")) and_then one_char (one_of (text "xXbB")) and_then run p and_then maybe_suffix) (c ∷ cs)).left,
      and_then_splits (one_char (one_of (text "0"))) (one_char (one_of (text "xXbB")) and_then run p and_then maybe_suffix) (one_splits _)
          (and_then_splits (one_char (one_of (text "xXbB"))) (run p and_then maybe_suffix) (one_splits _)
          (and_then_splits (run p) maybe_suffix (run_splits p) (one_splits _)))
          (c ∷ cs),
      closed_not,
    )

pub number_takes : (c : Char) (cs : Text) → is_digit c ≡ true → Takes c cs (parse_number (c ∷ cs))
unfolding parse_number zero_then
number_takes c cs d =
    if_all (Takes c cs) (zero_then (text "xX") (c ∷ cs)) (λ e. radix_takes hex_part c cs (and_left (c is ch "0") _ e))
    (λ _. if_all (Takes c cs) (zero_then (text "bB") (c ∷ cs)) (λ e. radix_takes binary_part c cs (and_left (c is ch "0") _ e))
    (λ _. decimal_takes c cs d))

-- A character that begins a name may stand in one.
pub start_part : (c : Char) → is_ident_start c ≡ true → is_ident_part c ≡ true
unfolding is_ident_start is_ident_part
start_part c = go (is_letter c) (is_digit c) (c is ch "_") (c is ch "$")
  where
    go : (a d b e : Bool) → (a || b || e) ≡ true → (a || d || b || e) ≡ true
    go true d b e h = refl
    go false true b e h = refl
    go false false b e h = h

pub name_takes : (c : Char) (cs : Text) → is_ident_part c ≡ true → Takes c cs (parse_identifier_or_keyword (c ∷ cs))
unfolding parse_identifier_or_keyword run
name_takes c cs e =
    rw e (record { more = (run is_ident_part cs).taken; rest = (run is_ident_part cs).left; took = refl; split = run_splits is_ident_part cs; all = closed_not })

-- ── Strings ──

-- Where the string stops, it took its part of the text; where it goes on and the text ran out, all that follows is dealt with.
abbrev pub TurnFits : Char → Text → Turn → Type 0
TurnFits c cs (stop s) = Front (c ∷ cs) s
TurnFits c cs (on ps fs o k buf interp) = o ≡ true → length cs ≤ k

pub brace_fits : (cs : Text) (u : Upto) → starts_with (text "{") cs ≡ true → UptoSplits (text "}") (drop 1 cs) u → u.open_end ≡ true
    → length cs ≤ suc (length (u.before ++ closing (text "}") u))
brace_fits cs u e (r, split, all) o =
    let a : length cs ≡ suc (length (drop 1 cs)) = ap length (sym (starts_split (text "{") cs e)) in
    let b : (u.before ++ closing (text "}") u) ≡ drop 1 cs = sym (append-nil _) ∙ (ap (λ t. u.before ++ closing (text "}") u ++ t) (sym (all o)) ∙ split) in
    omega (arith, ap length b)

pub turn_fits : (i : ℕ) (buf : Text) (interp : Bool) (c : Char) (cs : Text) → TurnFits c cs (turn i buf interp c cs)
unfolding turn string_broken string_ended string_escape string_dollar brace_interp name_interp
turn_fits i buf interp c cs =
    if_all (TurnFits c cs) (c is LF) (λ _. (c ∷ cs, refl, closed_not))
    (λ _. if_all (TurnFits c cs) (c is ch "\"") (λ e. (cs, rw (is_eq c (ch "\"") e), closed_not))
    (λ _. if_all (TurnFits c cs) (c is ch "\\") (λ _. esc cs)
    (λ _. if_all (TurnFits c cs) (c is ch "$")
    (λ _. if_all (TurnFits c cs) (next is_interp_start cs)
    (λ _. if_all (TurnFits c cs) (starts_with (text "{") cs)
    (λ e. brace_fits cs (up_to (text "}") (drop 1 cs)) e (up_to_splits (text "}") (drop 1 cs))) (λ _. closed_not))
    (λ _. closed_not))
    (λ _. closed_not))))
  where
    esc : (cs : Text) → TurnFits c cs (string_escape i buf interp cs)
    esc [] = λ _. zero-le
    esc (e ∷ cs) = closed_not

pub string_open : (k i : ℕ) (buf : Text) (interp : Bool) (cs : Text) → length cs ≤ k → out (string_from k i buf interp cs) ≡ true
unfolding string_from string_ran_out
string_open k i buf interp [] h = refl
string_open (suc k) i buf interp (c ∷ cs) h = string_open k (suc i) buf interp cs (omega arith)
string_open zero i buf interp (c ∷ cs) h = absurd (omega arith)

follow_front : (c : Char) (cs : Text) (t : Turn) (go : ℕ → Text → Bool → Segment) → TurnFits c cs t
    → ((k : ℕ) (b : Text) (i : Bool) → Front cs (go k b i)) → ((k : ℕ) (b : Text) (i : Bool) → length cs ≤ k → out (go k b i) ≡ true)
    → Front (c ∷ cs) (follow c t go)
follow_front c cs (stop s) go ht hf ho = ht
follow_front c cs (on ps fs o k b i) go ht hf ho =
    ((hf k b i).0, ap (λ t. c ∷ t) (hf k b i).1, λ h. (hf k b i).2 (ran o refl h))
  where
    ran : (o' : Bool) → o ≡ o' → (o' || out (go k b i)) ≡ true → out (go k b i) ≡ true
    ran true q h = ho k b i (ht q)
    ran false q h = h

pub string_front : (k i : ℕ) (buf : Text) (interp : Bool) (cs : Text) → Front cs (string_from k i buf interp cs)
unfolding string_from string_ran_out
string_front k i buf interp [] = ([], refl, λ _. refl)
string_front (suc k) i buf interp (c ∷ cs) =
    let f = string_front k (suc i) buf interp cs in (f.0, ap (λ t. c ∷ t) f.1, f.2)
string_front zero i buf interp (c ∷ cs) =
    follow_front c cs (turn i buf interp c cs) _ (turn_fits i buf interp c cs)
    (λ k b t. string_front k (suc i) b t cs) (λ k b t h. string_open k (suc i) b t cs h)

string_takes : (cs : Text) → Takes (ch "\"") cs (parse_string_tokens cs)
unfolding parse_string_tokens
string_takes cs =
    let f = string_front 0 1 [] false cs in
    record { more = (string_from 0 1 [] false cs).chars; rest = f.0; took = refl; split = f.1; all = f.2 }

-- ── Characters ──

close_char_takes : (c : Char) (pre t : Text) (fs : List Fault) (rest cs : Text) → pre ++ rest ≡ cs → Takes c cs (close_char (c ∷ pre) t fs rest)
unfolding close_char
close_char_takes c pre t fs rest cs q =
    if_all (Takes c cs) (starts_with (text "'") rest)
    (λ e. record {
      more = pre ++ text "'";
      rest = drop 1 rest;
      took = refl;
      split = append_assoc pre (text "'") (drop 1 rest) ∙ (ap (λ r. pre ++ r) (starts_split (text "'") rest e) ∙ q);
      all = closed_not;
    })
    (λ _. record { more = pre; rest = rest; took = refl; split = q; all = closed_not })

pub char_escape_takes : (cs : Text) → Takes (ch "'") (ch "\\" ∷ cs) (char_escape cs)
unfolding char_escape
char_escape_takes [] = record { more = text "\\"; rest = []; took = refl; split = refl; all = λ _. refl }
char_escape_takes (e ∷ cs) =
    let x = escape 2 (record { text = e ∷ []; extra = 0; faults = [] }) e cs in
    close_char_takes (ch "'") (ch "\\" ∷ e ∷ take x.extra cs) x.text x.faults (drop x.extra cs) (ch "\\" ∷ e ∷ cs)
    (ap (λ t. ch "\\" ∷ e ∷ t) (take-append-drop x.extra cs))

pub char_takes : (cs : Text) → Takes (ch "'") cs (parse_char cs)
unfolding parse_char
char_takes [] = record { more = []; rest = []; took = refl; split = refl; all = λ _. refl }
char_takes (c ∷ cs) =
    if_all (Takes (ch "'") (c ∷ cs)) (c is ch "\\")
    (λ e. rw (is_eq c (ch "\\") e) (char_escape_takes cs))
    (λ _. close_char_takes (ch "'") (c ∷ []) (c ∷ []) [] cs (c ∷ cs) refl)

-- ── Marks ──

two_marks_takes : (k : ℕ) (o : Option ℕ) (c d : Char) (cs : Text) → Takes c (d ∷ cs) (two_marks k o c d cs)
unfolding two_marks
two_marks_takes k none c d cs = record { more = d ∷ []; rest = cs; took = refl; split = refl; all = closed_not }
two_marks_takes k (some third) c d cs =
    if_all (Takes c (d ∷ cs)) (starts_with (d ∷ []) cs)
    (λ e. record { more = d ∷ d ∷ []; rest = drop 1 cs; took = refl; split = ap (λ t. d ∷ t) (starts_split (d ∷ []) cs e); all = closed_not })
    (λ _. record { more = d ∷ []; rest = cs; took = refl; split = refl; all = closed_not })

lone_takes : (k : ℕ) (c : Char) (cs : Text) → Takes c cs (word_token k (c ∷ []))
lone_takes k c cs = record { more = []; rest = cs; took = refl; split = refl; all = closed_not }

pub mark_takes : (c : Char) (cs : Text) → Takes c cs (parse_mark c cs)
unfolding parse_mark mark_in mark_with unexpected
mark_takes c cs = row (lookup c MARKS) cs
  where
    column : (alone : ℕ) (o : Option ℕ) (d : Char) (cs : Text) → Takes c (d ∷ cs) (mark_with alone c o d cs)
    column alone none d cs = lone_takes alone c (d ∷ cs)
    column alone (some k) d cs = two_marks_takes k (lookup k THIRDS) c d cs

    row : (o : Option Row) (cs : Text) → Takes c cs (mark_in o c cs)
    row none cs = record { more = []; rest = cs; took = refl; split = refl; all = closed_not }
    row (some r) [] = lone_takes r.alone c []
    row (some r) (d ∷ cs) = column r.alone (lookup d r.columns) d cs

-- ── Comments, `$`, raw strings ──

line_takes : (pre cs : Text) (s : Segment) → starts_with pre cs ≡ true → s.chars ≡ ch "/" ∷ (pre ++ (run not_lf (drop (length pre) cs)).taken) → out s ≡ false
    → Takes (ch "/") cs s
line_takes pre cs s e q o =
    let a = run not_lf (drop (length pre) cs) in
    record {
      more = pre ++ a.taken;
      rest = a.left;
      took = q;
      split = append_assoc pre a.taken a.left ∙ (ap (λ t. pre ++ t) (run_splits not_lf (drop (length pre) cs)) ∙ starts_split pre cs e);
      all = λ h. absurd (true≢false (sym h ∙ o));
    }

pub slash_takes : (cs : Text) → Takes (ch "/") cs (parse_slash_or_comment cs)
unfolding parse_slash_or_comment line_doc line_comment block_doc block_comment
slash_takes cs =
    if_all (Takes (ch "/") cs) (starts_with (text "//") cs) (λ e. line_takes (text "//") cs _ e refl refl)
    (λ _. if_all (Takes (ch "/") cs) (starts_with (text "/") cs) (λ e. line_takes (text "/") cs _ e refl refl)
    (λ _. if_all (Takes (ch "/") cs) (starts_with (text "**") cs && not (starts_with (text "**/") cs))
    (λ e. upto_takes (ch "/") (text "**") (text "*/") cs _ (and_left _ _ e) refl refl)
    (λ _. if_all (Takes (ch "/") cs) (starts_with (text "*") cs)
    (λ e. upto_takes (ch "/") (text "*") (text "*/") cs _ e refl refl)
    (λ _. mark_takes (ch "/") cs))))

pub dollar_takes : (cs : Text) → Takes (ch "$") cs (parse_dollar cs)
unfolding parse_dollar dollar_braces
dollar_takes cs =
    if_all (Takes (ch "$") cs) (starts_with (text "{") cs)
    (λ e. upto_takes (ch "$") (text "{") (text "}") cs _ e refl refl)
    (λ _. lone_takes Ident (ch "$") cs)

pub quote_takes : (cs : Text) → Takes (ch "\"") cs (parse_quote cs)
unfolding parse_quote parse_raw_string
quote_takes cs =
    if_all (Takes (ch "\"") cs) (starts_with (text "\"\"") cs)
    (λ e. upto_takes (ch "\"") (text "\"\"") (text "\"\"\"") cs _ e refl refl)
    (λ _. string_takes cs)

-- ── Every segment ──

pub segment_takes : (c : Char) (cs : Text) → Takes c cs (segment (c ∷ cs))
unfolding segment white_space
segment_takes c cs =
    if_all (Takes c cs) (is_white c) (λ _. record { more = []; rest = cs; took = refl; split = refl; all = closed_not })
    (λ _. if_all (Takes c cs) (c is ch "/") (λ e. rw (is_eq c _ e) (slash_takes cs))
    (λ _. if_all (Takes c cs) (c is ch "$") (λ e. rw (is_eq c _ e) (dollar_takes cs))
    (λ _. if_all (Takes c cs) (c is ch "\"") (λ e. rw (is_eq c _ e) (quote_takes cs))
    (λ _. if_all (Takes c cs) (c is ch "'") (λ e. rw (is_eq c _ e) (char_takes cs))
    (λ _. if_all (Takes c cs) (is_digit c) (λ e. number_takes c cs e)
    (λ _. if_all (Takes c cs) (is_ident_start c) (λ e. name_takes c cs (start_part c e)) (λ _. mark_takes c cs)))))))
