-- The suffix law: a segment in which the text did not run out is the same with a line feed and any text behind. Assumes nothing.
use Rattle.std.specs.Prelude.{if◌then◌else◌}
use mathlib.Core.Path.{◌≡◌, refl, ap, ap₂}
use mathlib.Core.Bool.{Bool, true, false, ◌&&◌, not, true≢false, false≢true}
use mathlib.Core.List.{List, [], ◌∷◌, ◌++◌}
use mathlib.Core.Option.{Option, none, some}
use Prim.Native.Nat.{ℕ, zero, suc, ◌+◌, ◌*◌, ◌≤◌, zero-le, suc-le-suc}
use native.Mathlib.Omega.{arith}
use lib.Seq.{take-append-le, drop-append-le}
use lib.ListN.{length, drop}
use Rattle.characters.specs.Choice.{◌is◌, within}
use Rattle.characters.specs.Space.{is_white}
use Rattle.characters.proofs.Choice.{if_all, if_both}
use Rattle.rules.specs.Text.{Char, Text, ch, text, one_of, LF, is_digit, is_letter, is_hex_digit, is_ident_start, is_ident_part, hex_value}
use Rattle.rules.specs.Scan.{next, starts_with, Part, run, one_char, takes, ◌and_then◌}
use Rattle.rules.specs.Tables.{IntLiteral, Columns, Row, MARKS, THIRDS, ESCAPES, lookup}
use Rattle.rules.specs.Segment.{Fault, Segment, whole_token}
use Rattle.rules.specs.Comments.{not_lf, line_comment, block_comment}
use Rattle.rules.specs.Numbers.{hex_part, binary_part, maybe_suffix, radix, is_digit_or_underscore, whole_part, fraction, exponent, decimal_kind, decimal, zero_then, parse_number}
use Rattle.rules.specs.Names.{parse_identifier_or_keyword}
use Rattle.rules.specs.Marks.{two_marks, mark_with, mark_in, parse_mark}
use Rattle.rules.specs.Strings.{parse_raw_string, Escape, hex_code, unicode_escape, plain_escape, escape, first, before, string_ran_out, Turn, stop, on, other_escape, string_escape, brace_interp, is_interp_start, string_dollar, turn, follow, string_from, parse_string_tokens, parse_quote}
use Rattle.rules.specs.Characters.{close_char, char_escape, parse_char}
use Rattle.rules.specs.Docs.{line_doc, block_doc, parse_slash_or_comment}
use Rattle.rules.specs.Lexer.{dollar_braces, parse_dollar, segment}
use Rattle.rules.proofs.Ahead.{Keeps, keeps_if, or_left, or_right, and_left, and_right, is_eq, next_same, starts_same, drop_same, up_to_same, run_cuts, one_cuts, and_then_cuts, Cuts, with_X, X}

-- The text ran out.
abbrev pub out : Segment → Bool
out s = s.open_end

-- The text ran out in this turn.
abbrev pub turn_out : Turn → Bool
turn_out (stop s) = false
turn_out (on ps fs o k buf interp) = o

-- ── Facts of the tables and of escapes ──

hex_long : (k v : ℕ) (cs : Text) (w : ℕ) → hex_code k v cs ≡ some w → k ≤ length cs
unfolding hex_code
hex_long zero v cs w e = zero-le
hex_long (suc k) v [] w e = let z : ◌≡◌ {A = ℕ} 0 1 = cc in omega arith
hex_long (suc k) v (c ∷ cs) w e = go (is_hex_digit c) (hex_long k (v * 16 + hex_value c) cs w) e
  where
    go : (b : Bool) → (hex_code k (v * 16 + hex_value c) cs ≡ some w → k ≤ length cs)
        → (if b then hex_code k (v * 16 + hex_value c) cs else none) ≡ some w → suc k ≤ suc (length cs)
    go true ih e' = suc-le-suc (ih e')
    go false ih e' = let z : ◌≡◌ {A = ℕ} 0 1 = cc in omega arith

pub escape_fits : (i : ℕ) (other : Escape) (e : Char) (cs : Text) → other.extra ≤ length cs → (escape i other e cs).extra ≤ length cs
unfolding escape unicode_escape plain_escape
escape_fits i other e cs h =
    if_all (λ (x : Escape). x.extra ≤ length cs) (e is ch "u")
    (λ _. uni (hex_code 4 0 cs) refl) (λ _. plain (lookup e ESCAPES))
  where
    uni : (o : Option ℕ) → hex_code 4 0 cs ≡ o → (unicode_escape i o).extra ≤ length cs
    uni none q = zero-le
    uni (some v) q = hex_long 4 0 cs v q

    plain : (o : Option Char) → (plain_escape other o).extra ≤ length cs
    plain none = h
    plain (some c) = zero-le

is_none {ℓ} : {A : Type ℓ} → Option A → Bool
is_none none = true
is_none (some a) = false

-- No row has a column for the line feed.
no_lf : List (ℕ × Row) → Bool
no_lf [] = true
no_lf (x ∷ xs) = is_none (lookup LF x.1.columns) && no_lf xs

no_LF_column : (c : Char) (rows : List (ℕ × Row)) (r : Row) → no_lf rows ≡ true → lookup c rows ≡ some r → lookup LF r.columns ≡ none
unfolding lookup no_lf is_none
no_LF_column c [] r t e = cc
no_LF_column c (x ∷ xs) r t e = go (c is x.0) (no_LF_column c xs r (and_right (is_none (lookup LF x.1.columns)) (no_lf xs) t)) e
  where
    here : (o : Option ℕ) → is_none o ≡ true → o ≡ none
    here none q = refl
    here (some a) q = absurd (false≢true q)

    go : (b : Bool) → (lookup c xs ≡ some r → lookup LF r.columns ≡ none)
        → (if b then some x.1 else lookup c xs) ≡ some r → lookup LF r.columns ≡ none
    go true ih e' =
        let q : x.1 ≡ r = cc in
        rw (← q) (here (lookup LF x.1.columns) (and_left _ (no_lf xs) t))
    go false ih e' = ih e'

not_found : (d : Char) (cols : Columns) (k : ℕ) → lookup LF cols ≡ none → lookup d cols ≡ some k → (LF is d) ≡ false
not_found d cols k e h = go (LF is d) refl
  where
    go : (b : Bool) → (LF is d) ≡ b → b ≡ false
    go true q = let same : LF ≡ d = is_eq LF d q in cc
    go false q = refl

module _ (B : Text) where
  -- ── Numbers and names ──
  fraction_cuts : Cuts B fraction
  unfolding fraction is_digit is_digit_or_underscore within
  fraction_cuts [] = refl
  fraction_cuts (c ∷ cs) =
      rw (next_same B is_digit refl cs)
      (if_both (λ a a'. a ≡ with_X B a') (c is ch "." && next is_digit cs)
      (λ _. ap (takes c) (run_cuts B is_digit_or_underscore refl cs)) (λ _. refl))

  exponent_cuts : Cuts B exponent
  unfolding exponent is_digit one_of within
  exponent_cuts [] = refl
  exponent_cuts (c ∷ cs) =
      if_both (λ a a'. a ≡ with_X B a') (one_of (text "eE") c)
      (λ _. ap (takes c) (and_then_cuts B (one_char (one_of (text "+-"))) (run is_digit) (one_cuts B _ refl) (run_cuts B _ refl) cs))
      (λ _. refl)

  suffix_cuts : Cuts B maybe_suffix
  unfolding one_of
  suffix_cuts = one_cuts B (one_of (text "LlfFdDuU")) refl

  whole_cuts : Cuts B whole_part
  unfolding is_digit_or_underscore is_digit within
  whole_cuts = run_cuts B is_digit_or_underscore refl

  decimal_same : (cs : Text) → decimal (cs ++ X B) ≡ decimal cs
  unfolding decimal decimal_kind
  decimal_same cs = rw (whole_cuts cs, fraction_cuts _, exponent_cuts _, suffix_cuts _)

  radix_cuts : (p : Char → Bool) → p LF ≡ false
      → Cuts B (one_char (one_of (text "0")) and_then one_char (one_of (text "xXbB")) and_then run p and_then maybe_suffix)
  unfolding one_of
  radix_cuts p e =
      and_then_cuts B (one_char (one_of (text "0"))) (one_char (one_of (text "xXbB")) and_then run p and_then maybe_suffix)
      (one_cuts B _ refl)
      (and_then_cuts B (one_char (one_of (text "xXbB"))) (run p and_then maybe_suffix)
      (one_cuts B _ refl)
      (and_then_cuts B (run p) maybe_suffix (run_cuts B p e) suffix_cuts))

  radix_same : (p : Char → Bool) → p LF ≡ false → (cs : Text) → radix p (cs ++ X B) ≡ radix p cs
  unfolding radix
  radix_same p e cs = ap (λ (a : Part). whole_token IntLiteral a.taken) (radix_cuts p e cs)

  zero_same : (letters : Text) → one_of letters LF ≡ false → (cs : Text) → zero_then letters (cs ++ X B) ≡ zero_then letters cs
  unfolding zero_then
  zero_same letters e [] = refl
  zero_same letters e (c ∷ cs) = rw (next_same B (one_of letters) e cs)

  number_same : (cs : Text) → parse_number (cs ++ X B) ≡ parse_number cs
  unfolding parse_number one_of hex_part binary_part is_hex_digit is_digit within
  number_same cs =
      rw (
        zero_same (text "xX") refl cs,
        zero_same (text "bB") refl cs,
        radix_same hex_part refl cs,
        radix_same binary_part refl cs,
        decimal_same cs,
      )

  name_same : (cs : Text) → parse_identifier_or_keyword (cs ++ X B) ≡ parse_identifier_or_keyword cs
  unfolding parse_identifier_or_keyword is_ident_part is_letter is_digit within
  name_same cs = rw (run_cuts B is_ident_part refl cs)

  -- ── Escapes ──
  hex_same : (k v : ℕ) (cs : Text) → hex_code k v (cs ++ X B) ≡ hex_code k v cs
  unfolding hex_code is_hex_digit is_digit within
  hex_same zero v cs = refl
  hex_same (suc k) v [] = refl
  hex_same (suc k) v (c ∷ cs) = rw (hex_same k (v * 16 + hex_value c) cs)

  escape_same : (i : ℕ) (other : Escape) (e : Char) (cs : Text) → escape i other e (cs ++ X B) ≡ escape i other e cs
  unfolding escape
  escape_same i other e cs = rw (hex_same 4 0 cs)

  -- ── Strings ──
  string_escape_same : (i : ℕ) (buf : Text) (interp : Bool) (cs : Text)
      → Keeps turn_out (string_escape i buf interp cs) (string_escape i buf interp (cs ++ X B))
  unfolding string_escape
  string_escape_same i buf interp [] h = absurd (true≢false h)
  string_escape_same i buf interp (e ∷ cs) h = rw (escape_same (suc i) (other_escape (suc i) e) e cs)

  string_dollar_same : (i : ℕ) (buf : Text) (interp : Bool) (cs : Text)
      → Keeps turn_out (string_dollar i buf interp cs) (string_dollar i buf interp (cs ++ X B))
  unfolding string_dollar brace_interp one_of is_interp_start is_ident_start is_ident_part is_letter is_digit within
  string_dollar_same i buf interp cs =
      keeps_if turn_out (next is_interp_start cs) _ (next_same B is_interp_start refl cs)
      (λ _. keeps_if turn_out (starts_with (text "{") cs) _ (starts_same B (text "{") refl cs)
      (λ t h. rw (drop_same B (text "{") cs t) (ap (brace_interp i buf) (up_to_same B (text "}") refl (drop 1 cs) h)))
      (λ _ _. rw (run_cuts B is_ident_part refl cs)))
      (λ _ _. refl)

  pub turn_same : (i : ℕ) (buf : Text) (interp : Bool) (c : Char) (cs : Text)
      → Keeps turn_out (turn i buf interp c cs) (turn i buf interp c (cs ++ X B))
  unfolding turn
  turn_same i buf interp c cs =
      keeps_if turn_out (c is LF) _ refl (λ _ _. refl)
      (λ _. keeps_if turn_out (c is ch "\"") _ refl (λ _ _. refl)
      (λ _. keeps_if turn_out (c is ch "\\") _ refl (λ _. string_escape_same i buf interp cs)
      (λ _. keeps_if turn_out (c is ch "$") _ refl (λ _. string_dollar_same i buf interp cs) (λ _ _. refl))))

  follow_same : (c : Char) (t t' : Turn) (go go' : ℕ → Text → Bool → Segment)
      → Keeps turn_out t t' → ((k : ℕ) (b : Text) (i : Bool) → Keeps out (go k b i) (go' k b i))
      → Keeps out (follow c t go) (follow c t' go')
  follow_same c (stop s) t' go go' ht hg h = rw (ht refl)
  follow_same c (on ps fs o k b i) t' go go' ht hg h =
      rw (ht (or_left o (go k b i).open_end h)) (ap (λ s. first c (before ps fs o s)) (hg k b i (or_right o (go k b i).open_end h)))

  string_same : (k i : ℕ) (buf : Text) (interp : Bool) (cs : Text)
      → Keeps out (string_from k i buf interp cs) (string_from k i buf interp (cs ++ X B))
  unfolding string_from string_ran_out
  string_same k i buf interp [] h = absurd (true≢false h)
  string_same (suc k) i buf interp (c ∷ cs) h = ap (first c) (string_same k (suc i) buf interp cs h)
  string_same zero i buf interp (c ∷ cs) h =
      follow_same c (turn i buf interp c cs) (turn i buf interp c (cs ++ X B)) _ _
      (turn_same i buf interp c cs) (λ k b t. string_same k (suc i) b t cs) h

  parse_string_same : (cs : Text) → Keeps out (parse_string_tokens cs) (parse_string_tokens (cs ++ X B))
  unfolding parse_string_tokens
  parse_string_same cs h = ap (first (ch "\"")) (string_same 0 1 [] false cs h)

  -- ── Characters ──
  close_char_same : (taken t : Text) (fs : List Fault) (cs : Text) → close_char taken t fs (cs ++ X B) ≡ close_char taken t fs cs
  unfolding close_char one_of
  close_char_same taken t fs cs = rw (starts_same B (text "'") refl cs)

  char_escape_same : (cs : Text) → Keeps out (char_escape cs) (char_escape (cs ++ X B))
  unfolding char_escape
  char_escape_same [] h = absurd (true≢false h)
  char_escape_same (e ∷ cs) h =
      let other : Escape = record { text = e ∷ []; extra = 0; faults = [] } in
      let fits : (escape 2 other e cs).extra ≤ length cs = escape_fits 2 other e cs zero-le in
      rw (
        escape_same 2 other e cs,
        take-append-le (escape 2 other e cs).extra cs (X B) fits,
        drop-append-le (escape 2 other e cs).extra cs (X B) fits,
        close_char_same _ (escape 2 other e cs).text (escape 2 other e cs).faults (drop (escape 2 other e cs).extra cs),
      )

  char_same : (cs : Text) → Keeps out (parse_char cs) (parse_char (cs ++ X B))
  unfolding parse_char
  char_same [] = λ h. absurd (true≢false h)
  char_same (c ∷ cs) =
      keeps_if out (c is ch "\\") _ refl (λ _. char_escape_same cs) (λ _ _. close_char_same (ch "'" ∷ c ∷ []) (c ∷ []) [] cs)

  -- ── Marks ──
  two_marks_same : (k : ℕ) (third : Option ℕ) (c d : Char) → (LF is d) ≡ false → (cs : Text) → two_marks k third c d (cs ++ X B) ≡ two_marks k third c d cs
  unfolding two_marks one_of
  two_marks_same k none c d e cs = refl
  two_marks_same k (some third) c d e cs = rw (starts_same B (d ∷ []) (rw e) cs)

  mark_same : (c : Char) (cs : Text) → parse_mark c (cs ++ X B) ≡ parse_mark c cs
  unfolding parse_mark mark_in mark_with MARKS no_lf is_none lookup
  mark_same c cs = go (lookup c MARKS) refl cs
    where
      two : (r : Row) (d : Char) (cs : Text) → lookup LF r.columns ≡ none → (o : Option ℕ) → lookup d r.columns ≡ o
          → mark_with r.alone c o d (cs ++ X B) ≡ mark_with r.alone c o d cs
      two r d cs e none h = refl
      two r d cs e (some k) h = two_marks_same k (lookup k THIRDS) c d (not_found d r.columns k e h) cs

      go : (o : Option Row) → lookup c MARKS ≡ o → (cs : Text) → mark_in o c (cs ++ X B) ≡ mark_in o c cs
      go none e cs = refl
      go (some r) e [] = rw (no_LF_column c MARKS r refl e)
      go (some r) e (d ∷ cs) = two r d cs (no_LF_column c MARKS r refl e) (lookup d r.columns) refl

  -- ── Comments, `$`, raw strings ──
  line_doc_same : (cs : Text) → line_doc (cs ++ X B) ≡ line_doc cs
  unfolding line_doc
  line_doc_same cs = rw (run_cuts B not_lf refl cs)

  line_comment_same : (cs : Text) → line_comment (cs ++ X B) ≡ line_comment cs
  unfolding line_comment
  line_comment_same cs = rw (run_cuts B not_lf refl cs)

  slash_same : (cs : Text) → Keeps out (parse_slash_or_comment cs) (parse_slash_or_comment (cs ++ X B))
  unfolding parse_slash_or_comment one_of block_doc block_comment
  slash_same cs =
      keeps_if out (starts_with (text "//") cs) _ (starts_same B (text "//") refl cs)
      (λ t _. rw (drop_same B (text "//") cs t) (line_doc_same (drop 2 cs)))
      (λ _. keeps_if out (starts_with (text "/") cs) _ (starts_same B (text "/") refl cs)
      (λ t _. rw (drop_same B (text "/") cs t) (line_comment_same (drop 1 cs)))
      (λ _. keeps_if out (starts_with (text "**") cs && not (starts_with (text "**/") cs)) _
      (ap₂ (λ a b. a && not b) (starts_same B (text "**") refl cs) (starts_same B (text "**/") refl cs))
      (λ t h. rw (drop_same B (text "**") cs (and_left _ _ t)) (ap block_doc (up_to_same B (text "*/") refl (drop 2 cs) h)))
      (λ _. keeps_if out (starts_with (text "*") cs) _ (starts_same B (text "*") refl cs)
      (λ t h. rw (drop_same B (text "*") cs t) (ap block_comment (up_to_same B (text "*/") refl (drop 1 cs) h)))
      (λ _ _. mark_same (ch "/") cs))))

  dollar_same : (cs : Text) → Keeps out (parse_dollar cs) (parse_dollar (cs ++ X B))
  unfolding parse_dollar one_of dollar_braces
  dollar_same cs =
      keeps_if out (starts_with (text "{") cs) _ (starts_same B (text "{") refl cs)
      (λ t h. rw (drop_same B (text "{") cs t) (ap dollar_braces (up_to_same B (text "}") refl (drop 1 cs) h)))
      (λ _ _. refl)

  quote_same : (cs : Text) → Keeps out (parse_quote cs) (parse_quote (cs ++ X B))
  unfolding parse_quote one_of parse_raw_string
  quote_same cs =
      keeps_if out (starts_with (text "\"\"") cs) _ (starts_same B (text "\"\"") refl cs)
      (λ t h. rw (drop_same B (text "\"\"") cs t) (ap parse_raw_string (up_to_same B (text "\"\"\"") refl (drop 2 cs) h)))
      (λ _. parse_string_same cs)

  -- ── The suffix law ──
  pub segment_same : (c : Char) (cs : Text) → Keeps out (segment (c ∷ cs)) (segment (c ∷ (cs ++ X B)))
  unfolding segment
  segment_same c cs =
      keeps_if out (is_white c) _ refl (λ _ _. refl)
      (λ _. keeps_if out (c is ch "/") _ refl (λ _. slash_same cs)
      (λ _. keeps_if out (c is ch "$") _ refl (λ _. dollar_same cs)
      (λ _. keeps_if out (c is ch "\"") _ refl (λ _. quote_same cs)
      (λ _. keeps_if out (c is ch "'") _ refl (λ _. char_same cs)
      (λ _. keeps_if out (is_digit c) _ refl (λ _ _. number_same (c ∷ cs))
      (λ _. keeps_if out (is_ident_start c) _ refl (λ _ _. name_same (c ∷ cs)) (λ _ _. mark_same c cs)))))))
