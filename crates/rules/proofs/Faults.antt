-- The errors of a segment: their kinds, and the code points that kinds 1 and 7 name, which are characters of the text. Assumes nothing.
use Rattle.std.specs.Prelude.{if◌then◌else◌}
use mathlib.Core.Path.{◌≡◌, refl, sym, ◌∙◌}
use mathlib.Core.Bool.{Bool, true, false, ◌&&◌, ◌||◌, not, true≢false}
use mathlib.Core.List.{List, [], ◌∷◌}
use mathlib.Core.Option.{Option, none, some}
use Prim.Native.Nat.{ℕ, zero, suc, ◌≤◌}
use native.Mathlib.Omega.{arith}
use lib.ListN.{drop}
use Rattle.characters.specs.Choice.{◌is◌}
use Rattle.characters.specs.Space.{is_white}
use Rattle.characters.proofs.Choice.{if_all}
use Rattle.rules.specs.Text.{Char, Text, ch, text, LF, is_digit, is_ident_start}
use Rattle.rules.specs.Scan.{next, starts_with, Upto, up_to}
use Rattle.rules.specs.Tables.{UnexpectedCharacter, UnterminatedBlockComment, UnterminatedRawString, UnterminatedString, LineFeedInString, BadUnicodeEscape, BadEscape, UnterminatedInterpolation, UnterminatedCharacter, UnterminatedDocComment, MARKS, THIRDS, ESCAPES, lookup, Row}
use Rattle.rules.specs.Segment.{Fault, fault, fault_of, Segment}
use Rattle.rules.specs.Comments.{white_space, line_comment, block_comment}
use Rattle.rules.specs.Numbers.{radix, decimal, zero_then, parse_number}
use Rattle.rules.specs.Names.{parse_identifier_or_keyword}
use Rattle.rules.specs.Marks.{unexpected, two_marks, mark_with, mark_in, parse_mark}
use Rattle.rules.specs.Strings.{parse_raw_string, Escape, hex_code, unicode_escape, plain_escape, escape, string_ran_out, string_broken, string_ended, Turn, stop, on, other_escape, string_escape, brace_interp, name_interp, is_interp_start, string_dollar, turn, follow, string_from, parse_string_tokens, parse_quote}
use Rattle.rules.specs.Characters.{close_char, char_escape, parse_char}
use Rattle.rules.specs.Docs.{line_doc, block_doc, parse_slash_or_comment}
use Rattle.rules.specs.Lexer.{dollar_braces, parse_dollar, segment}
use Rattle.rules.specs.Bounds.{Every}
use Rattle.rules.proofs.Ahead.{is_eq}
use Rattle.rules.proofs.Every.{every_append}

-- The kinds that name a code point.
unfoldable pub names_code : ℕ → Bool
names_code k = k is UnexpectedCharacter || k is BadEscape

-- An error of a known kind, with a code point of which `P` holds where its kind names one.
pub record Known (P : Char → Type 0) (f : Fault) : Type 0 where
  pub low : 1 ≤ f.kind
  pub high : f.kind ≤ 10
  pub code : names_code f.kind ≡ true → (c : Char) × (f.char ≡ some c) × P c
  pub bare : names_code f.kind ≡ false → f.char ≡ none

module _ (P : Char → Type 0) where
  abbrev AllKnown : List Fault → Type 0
  AllKnown = Every (Known P)

  abbrev SegmentKnown : Segment → Type 0
  SegmentKnown s = AllKnown s.faults

  bare_known : (k i j : ℕ) → 1 ≤ k → k ≤ 10 → names_code k ≡ false → Known P (fault k i j)
  bare_known k i j l h e = record { low = l; high = h; code = λ q. absurd (true≢false (sym q ∙ e)); bare = λ _. refl }

  coded_known : (k i j : ℕ) (c : Char) → 1 ≤ k → k ≤ 10 → names_code k ≡ true → P c → Known P (fault_of k i j c)
  coded_known k i j c l h e p = record { low = l; high = h; code = λ _. (c, refl, p); bare = λ q. absurd (true≢false (sym e ∙ q)) }

  -- One error where the text ran out.
  ran_known : (o : Bool) (k i j : ℕ) → 1 ≤ k → k ≤ 10 → names_code k ≡ false → AllKnown (if o then fault k i j ∷ [] else [])
  ran_known true k i j l h e = (bare_known k i j l h e, tt)
  ran_known false k i j l h e = tt

  -- ── Comments, marks, raw strings ──

  block_comment_known : (u : Upto) → SegmentKnown (block_comment u)
  unfolding block_comment names_code
  block_comment_known u = ran_known u.open_end UnterminatedBlockComment 0 _ (omega arith) (omega arith) refl

  block_doc_known : (u : Upto) → SegmentKnown (block_doc u)
  unfolding block_doc names_code
  block_doc_known u = ran_known u.open_end UnterminatedDocComment 0 _ (omega arith) (omega arith) refl

  raw_known : (u : Upto) → SegmentKnown (parse_raw_string u)
  unfolding parse_raw_string names_code
  raw_known u = ran_known u.open_end UnterminatedRawString 0 _ (omega arith) (omega arith) refl

  mark_known : (c : Char) (cs : Text) → P c → SegmentKnown (parse_mark c cs)
  unfolding parse_mark mark_in mark_with unexpected two_marks names_code
  mark_known c cs p = row (lookup c MARKS) cs
    where
      two : (k : ℕ) (o : Option ℕ) (d : Char) (cs : Text) → SegmentKnown (two_marks k o c d cs)
      two k none d cs = tt
      two k (some third) d cs = if_all SegmentKnown (starts_with (d ∷ []) cs) (λ _. tt) (λ _. tt)

      column : (alone : ℕ) (o : Option ℕ) (d : Char) (cs : Text) → SegmentKnown (mark_with alone c o d cs)
      column alone none d cs = tt
      column alone (some k) d cs = two k (lookup k THIRDS) d cs

      row : (o : Option Row) (cs : Text) → SegmentKnown (mark_in o c cs)
      row none cs = (coded_known UnexpectedCharacter _ _ c (omega arith) (omega arith) refl p, tt)
      row (some r) [] = tt
      row (some r) (d ∷ cs) = column r.alone (lookup d r.columns) d cs

  slash_known : (cs : Text) → P (ch "/") → SegmentKnown (parse_slash_or_comment cs)
  unfolding parse_slash_or_comment line_doc line_comment
  slash_known cs p =
      if_all SegmentKnown (starts_with (text "//") cs) (λ _. tt)
      (λ _. if_all SegmentKnown (starts_with (text "/") cs) (λ _. tt)
      (λ _. if_all SegmentKnown (starts_with (text "**") cs && not (starts_with (text "**/") cs)) (λ _. block_doc_known _)
      (λ _. if_all SegmentKnown (starts_with (text "*") cs) (λ _. block_comment_known _) (λ _. mark_known (ch "/") cs p))))

  dollar_known : (cs : Text) → SegmentKnown (parse_dollar cs)
  unfolding parse_dollar dollar_braces
  dollar_known cs = if_all SegmentKnown (starts_with (text "{") cs) (λ _. tt) (λ _. tt)

  number_known : (cs : Text) → SegmentKnown (parse_number cs)
  unfolding parse_number radix decimal
  number_known cs =
      if_all SegmentKnown (zero_then (text "xX") cs) (λ _. tt) (λ _. if_all SegmentKnown (zero_then (text "bB") cs) (λ _. tt) (λ _. tt))

  -- ── Strings and characters ──

  escape_known : (i : ℕ) (other : Escape) (e : Char) (cs : Text) → AllKnown other.faults → AllKnown (escape i other e cs).faults
  unfolding escape unicode_escape plain_escape names_code
  escape_known i other e cs h =
      if_all (λ (x : Escape). AllKnown x.faults) (e is ch "u") (λ _. uni (hex_code 4 0 cs)) (λ _. plain (lookup e ESCAPES))
    where
      uni : (o : Option ℕ) → AllKnown (unicode_escape i o).faults
      uni none = (bare_known BadUnicodeEscape _ _ (omega arith) (omega arith) refl, tt)
      uni (some v) = tt

      plain : (o : Option Char) → AllKnown (plain_escape other o).faults
      plain none = h
      plain (some c) = tt

  other_known : (i : ℕ) (e : Char) → P e → AllKnown (other_escape i e).faults
  unfolding other_escape names_code
  other_known i e p = (coded_known BadEscape _ _ e (omega arith) (omega arith) refl p, tt)

  abbrev TurnKnown : Turn → Type 0
  TurnKnown (stop s) = SegmentKnown s
  TurnKnown (on ps fs o k b x) = AllKnown fs

  turn_known : (i : ℕ) (buf : Text) (interp : Bool) (c : Char) (cs : Text) → Every P cs → TurnKnown (turn i buf interp c cs)
  unfolding turn string_broken string_ended string_escape string_dollar brace_interp name_interp names_code
  turn_known i buf interp c cs h =
      if_all TurnKnown (c is LF) (λ _. (bare_known LineFeedInString _ _ (omega arith) (omega arith) refl, tt))
      (λ _. if_all TurnKnown (c is ch "\"") (λ _. tt)
      (λ _. if_all TurnKnown (c is ch "\\") (λ _. esc cs h)
      (λ _. if_all TurnKnown (c is ch "$")
      (λ _. if_all TurnKnown (next is_interp_start cs)
      (λ _. if_all TurnKnown (starts_with (text "{") cs)
      (λ _. ran_known (up_to (text "}") (drop 1 cs)).open_end UnterminatedInterpolation _ _ (omega arith) (omega arith) refl) (λ _. tt))
      (λ _. tt))
      (λ _. tt))))
    where
      esc : (cs : Text) → Every P cs → TurnKnown (string_escape i buf interp cs)
      esc [] h = tt
      esc (e ∷ cs) h = escape_known (suc i) (other_escape (suc i) e) e cs (other_known (suc i) e h.0)

  follow_known : (c : Char) (t : Turn) (go : ℕ → Text → Bool → Segment) → TurnKnown t → ((k : ℕ) (b : Text) (x : Bool) → SegmentKnown (go k b x))
      → SegmentKnown (follow c t go)
  follow_known c (stop s) go h hg = h
  follow_known c (on ps fs o k b x) go h hg = every_append (Known P) fs (go k b x).faults h (hg k b x)

  string_known : (k i : ℕ) (buf : Text) (interp : Bool) (cs : Text) → Every P cs → SegmentKnown (string_from k i buf interp cs)
  unfolding string_from string_ran_out names_code
  string_known k i buf interp [] h = (bare_known UnterminatedString _ _ (omega arith) (omega arith) refl, tt)
  string_known (suc k) i buf interp (c ∷ cs) h = string_known k (suc i) buf interp cs h.1
  string_known zero i buf interp (c ∷ cs) h =
      follow_known c (turn i buf interp c cs) _ (turn_known i buf interp c cs h.1) (λ k b x. string_known k (suc i) b x cs h.1)

  quote_known : (cs : Text) → Every P cs → SegmentKnown (parse_quote cs)
  unfolding parse_quote parse_string_tokens
  quote_known cs h = if_all SegmentKnown (starts_with (text "\"\"") cs) (λ _. raw_known _) (λ _. string_known 0 1 [] false cs h)

  close_char_known : (taken t : Text) (fs : List Fault) (cs : Text) → AllKnown fs → SegmentKnown (close_char taken t fs cs)
  unfolding close_char names_code
  close_char_known taken t fs cs h =
      if_all SegmentKnown (starts_with (text "'") cs) (λ _. h)
      (λ _. every_append (Known P) fs _ h (bare_known UnterminatedCharacter _ _ (omega arith) (omega arith) refl, tt))

  char_known : (cs : Text) → SegmentKnown (parse_char cs)
  unfolding parse_char char_escape names_code
  char_known [] = (bare_known UnterminatedCharacter _ _ (omega arith) (omega arith) refl, tt)
  char_known (c ∷ cs) = if_all SegmentKnown (c is ch "\\") (λ _. esc cs) (λ _. close_char_known _ _ [] cs tt)
    where
      esc : (cs : Text) → SegmentKnown (char_escape cs)
      esc [] = (bare_known UnterminatedCharacter _ _ (omega arith) (omega arith) refl, tt)
      esc (e ∷ cs) = close_char_known _ _ _ _ (escape_known 2 (record { text = e ∷ []; extra = 0; faults = [] }) e cs tt)

  -- ── Every segment ──

  pub segment_known : (cs : Text) → Every P cs → SegmentKnown (segment cs)
  unfolding segment white_space parse_identifier_or_keyword
  segment_known [] h = tt
  segment_known (c ∷ cs) h =
      if_all SegmentKnown (is_white c) (λ _. tt)
      (λ _. if_all SegmentKnown (c is ch "/") (λ e. slash_known cs (slash e))
      (λ _. if_all SegmentKnown (c is ch "$") (λ _. dollar_known cs)
      (λ _. if_all SegmentKnown (c is ch "\"") (λ _. quote_known cs h.1)
      (λ _. if_all SegmentKnown (c is ch "'") (λ _. char_known cs)
      (λ _. if_all SegmentKnown (is_digit c) (λ _. number_known (c ∷ cs))
      (λ _. if_all SegmentKnown (is_ident_start c) (λ _. tt) (λ _. mark_known c cs h.0)))))))
    where
      slash : (c is ch "/") ≡ true → P (ch "/")
      slash e = rw (← is_eq c (ch "/") e) h.0
