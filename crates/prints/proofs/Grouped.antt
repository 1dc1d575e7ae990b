-- How tokens tell the elements of a script: the pieces of a string share its start, at which a quote stands; every other token starts
-- for itself, where no quote stands. Assumes nothing.
use Rattle.std.specs.Prelude.{if◌then◌else◌}
use mathlib.Core.Path.{◌≡◌, refl, sym, ◌∙◌, ap₂, ap}
use mathlib.Core.Logic.{◌⊎◌, inl, inr}
use mathlib.Core.Bool.{Bool, true, false, ◌&&◌, not, false≢true, true≢false}
use mathlib.Core.List.{List, [], ◌∷◌, ◌++◌, map, append_assoc, map-append}
use mathlib.Core.Option.{Option, none, some}
use Prim.Native.Nat.{ℕ, suc, ◌≤◌, zero, zero-le}
use native.Mathlib.Omega.{arith}
use borrow.Author.Tests.{not-true}
use lib.Seq.{get_or_at}
use lib.ListN.{length, length-append, drop, take, get_or, length-map}
use Rattle.characters.specs.Choice.{◌is◌}
use Rattle.characters.specs.Utf8.{encode, encode_char, bytes}
use Rattle.characters.specs.Space.{is_white}
use Rattle.byte_order_mark.specs.Mark.{after_mark}
use Rattle.characters.proofs.Choice.{if_all}
use Rattle.characters.proofs.Texts.{encode_append, encode_length, bytes_append}
use Rattle.spans.specs.declared.Position.{Position}
use Rattle.rules.specs.Text.{Char, Text, ch, text, LF, is_empty, is_ident_part, same_text, is_digit, is_ident_start}
use Rattle.rules.specs.Scan.{next, starts_with, run, ◌and_then◌}
use Rattle.rules.specs.Tokens.{Token}
use Rattle.rules.specs.Tables.{EOF, KEYWORDS, keyword_in, lookup_keyword, Row, MARKS, THIRDS, lookup, StringLiteral, DocComment}
use Rattle.rules.specs.Segment.{Piece, Fault, Segment, piece}
use Rattle.rules.specs.Comments.{line_comment, block_comment, white_space}
use Rattle.rules.specs.Numbers.{radix, whole_part, fraction, exponent, decimal_kind, decimal, zero_then, parse_number}
use Rattle.rules.specs.Names.{parse_identifier_or_keyword}
use Rattle.rules.specs.Marks.{unexpected, two_marks, mark_with, mark_in, parse_mark}
use Rattle.rules.specs.Strings.{string_broken, string_ended, Turn, stop, on, flush, string_escape, brace_interp, name_interp, is_interp_start, string_dollar, turn, string_ran_out, follow, string_from, parse_string_tokens, parse_raw_string, parse_quote}
use Rattle.rules.specs.Characters.{close_char, char_escape, parse_char}
use Rattle.rules.specs.Docs.{line_doc, block_doc, parse_slash_or_comment}
use Rattle.rules.specs.Lexer.{dollar_braces, parse_dollar, segment, tokens_of, segments, size_behind_first, after, span, place_in, place, lex, origin, lexed}
use Rattle.rules.specs.Script.{as_bytes, accepted, script_text}
use Rattle.rules.proofs.Ahead.{and_left, and_right, is_not}
use Rattle.rules.proofs.Front.{Takes, quote_takes, slash_takes, dollar_takes, char_takes, number_takes, name_takes, start_part, mark_takes, segment_takes}
use Rattle.rules.proofs.Placed.{after_offset, span_plain}
use Rattle.rules.proofs.Join.{rest_is, size_fits}
use Rattle.rules.specs.Bounds.{Every}
use Rattle.rules.proofs.Bounds.{slash_one, dollar_one, number_one, name_one, mark_one, tokens_length}
use Rattle.rules.proofs.Sources.{all_rows, found_right}
use Rattle.rules.proofs.Sizes.{chars_low}
use Rattle.rules.proofs.Starts.{AllAt, is_piece, AllPieces, string_pieces}
use Rattle.rules.proofs.Fits.{script_body, script_bytes}
use Rattle.prints.specs.Elements.{Element, lone, string, token_word, word, elements_of, elements_in, elements, word_bytes, element_bytes, script_elements}
use Rattle.prints.specs.Records.{quote_at}
use Rattle.prints.proofs.Printed.{white_no_quote}
use Rattle.prints.proofs.Bytewise.{BytesOf, low, high, bytes_of_char}

-- A token that is not EOF.
abbrev pub NoEof : Token → Type 0
NoEof t = (t.kind is EOF) ≡ false

-- A piece of a string, by its kind.
abbrev pub IsPiece : Token → Type 0
IsPiece t = is_piece t.kind ≡ true

piece_not : (k n : ℕ) → is_piece n ≡ false → is_piece k ≡ true → (k is n) ≡ false
piece_not k n f e = is_not k n (λ q. true≢false (sym e ∙ (ap is_piece q ∙ f)))

pub piece_no_eof : (k : ℕ) → is_piece k ≡ true → (k is EOF) ≡ false
unfolding is_piece
piece_no_eof k e = piece_not k EOF refl e

pub piece_no_doc : (k : ℕ) → is_piece k ≡ true → (k is DocComment) ≡ false
unfolding is_piece
piece_no_doc k e = piece_not k DocComment refl e

-- The tokens, which all start at `n` or behind it, are those of the elements; `quoted` says at which places a quote stands.
pub data Grouped (quoted : ℕ → Bool) : ℕ → List Token → List Element → Type 0 where
  no_more : {n : ℕ} → Grouped quoted n [] []
  alone : {n : ℕ} (t : Token) {ts : List Token} {xs : List Element} → n ≤ t.span.start → quoted t.span.start ≡ false → NoEof t
      → Grouped quoted (suc t.span.start) ts xs → Grouped quoted n (t ∷ ts) (lone (token_word t) ∷ xs)
  strung : {n : ℕ} (m : ℕ) (t : Token) (g : List Token) {ts : List Token} {xs : List Element} → n ≤ m → quoted m ≡ true
      → AllAt m (t ∷ g) → Every IsPiece (t ∷ g) → Grouped quoted (suc m) ts xs
      → Grouped quoted n (t ∷ (g ++ ts)) (string (token_word t ∷ map token_word g) ∷ xs)

grouped_weaken : {q : ℕ → Bool} (m n : ℕ) {ts : List Token} {xs : List Element} → m ≤ n → Grouped q n ts xs → Grouped q m ts xs
grouped_weaken m n h no_more = no_more
grouped_weaken m n h (alone t a b c g) = alone {n = m} t (omega arith) b c g
grouped_weaken m n h (strung k t g a b c d r) = strung {n = m} k t g (omega arith) b c d r

-- ── What the tokens of a segment are ──

abbrev pub Kinds : List Piece → Type 0
Kinds = Every (λ (x : Piece). (x.kind is EOF) ≡ false)

-- One token at most, which is not EOF.
abbrev One : Segment → Type 0
One s = (length s.pieces ≤ 1) × Kinds s.pieces

-- A string has a token, and all are pieces; another segment has one token at most, which is not EOF.
record Told (s : Segment) : Type 0 where
  some_token : starts_with (text "\"") s.chars ≡ true → 1 ≤ length s.pieces
  strings : starts_with (text "\"") s.chars ≡ true → AllPieces s.pieces
  few : starts_with (text "\"") s.chars ≡ false → length s.pieces ≤ 1
  kinds : starts_with (text "\"") s.chars ≡ false → Kinds s.pieces

begins : (s : Segment) (c : Char) (more : Text) → s.chars ≡ c ∷ more → starts_with (text "\"") s.chars ≡ (c is ch "\"")
unfolding starts_with
begins s c more e = rw e (and_yes (c is ch "\""))
  where
    and_yes : (b : Bool) → (b && true) ≡ b
    and_yes true = refl
    and_yes false = refl

one_told : (c : Char) (cs : Text) (s : Segment) → Takes c cs s → (c is ch "\"") ≡ false → One s → Told s
one_told c cs s t n (l, k) =
    let no : starts_with (text "\"") s.chars ≡ true → ⊥ = λ e. false≢true (sym n ∙ (sym (begins s c t.more t.took) ∙ e)) in
    record { some_token = λ e. absurd (no e); strings = λ e. absurd (no e); few = λ _. l; kinds = λ _. k }

-- Names and marks, by one test of each table.
keywords_no_eof : List (Text × ℕ) → Bool
keywords_no_eof [] = true
keywords_no_eof (r ∷ rs) = not (r.1 is EOF) && keywords_no_eof rs

keyword_kind : (rows : List (Text × ℕ)) (t : Text) → keywords_no_eof rows ≡ true → (keyword_in rows t is EOF) ≡ false
unfolding keyword_in keywords_no_eof
keyword_kind [] t h = refl
keyword_kind (r ∷ rs) t h =
    if_all (λ k. (k is EOF) ≡ false) (same_text t r.0) (λ _. not-true (r.1 is EOF) (and_left (not (r.1 is EOF)) (keywords_no_eof rs) h))
    (λ _. keyword_kind rs t (and_right (not (r.1 is EOF)) (keywords_no_eof rs) h))

name_kind : (t : Text) → (lookup_keyword t is EOF) ≡ false
unfolding lookup_keyword KEYWORDS keywords_no_eof
name_kind t = keyword_kind KEYWORDS t refl

third_no_eof : Option ℕ → Bool
third_no_eof none = true
third_no_eof (some k) = not (k is EOF)

column_no_eof : Char → ℕ → Bool
column_no_eof d k = not (k is EOF) && third_no_eof (lookup k THIRDS)

row_no_eof : Char → Row → Bool
row_no_eof c r = not (r.alone is EOF) && all_rows column_no_eof r.columns

row_kinds : (c : Char) (r : Row) → lookup c MARKS ≡ some r → row_no_eof c r ≡ true
unfolding MARKS THIRDS all_rows row_no_eof column_no_eof third_no_eof lookup
row_kinds c r e = found_right row_no_eof c MARKS r refl e

pub mark_kinds : (c : Char) (cs : Text) → Kinds (parse_mark c cs).pieces
unfolding parse_mark mark_in mark_with unexpected two_marks row_no_eof column_no_eof third_no_eof
mark_kinds c cs = row (lookup c MARKS) refl cs
  where
    two : (k : ℕ) (o : Option ℕ) (d : Char) (cs : Text) → (k is EOF) ≡ false → third_no_eof o ≡ true → Kinds (two_marks k o c d cs).pieces
    two k none d cs e h = (e, tt)
    two k (some third) d cs e h =
        if_all (λ (s : Segment). Kinds s.pieces) (starts_with (d ∷ []) cs) (λ _. (not-true (third is EOF) h, tt)) (λ _. (e, tt))

    column : (r : Row) → row_no_eof c r ≡ true → (o : Option ℕ) (d : Char) (cs : Text) → lookup d r.columns ≡ o → Kinds (mark_with r.alone c o d cs).pieces
    column r h none d cs e = (not-true (r.alone is EOF) (and_left (not (r.alone is EOF)) _ h), tt)
    column r h (some k) d cs e =
        let g : column_no_eof d k ≡ true = found_right column_no_eof d r.columns k (and_right (not (r.alone is EOF)) _ h) e in
        two k (lookup k THIRDS) d cs (not-true (k is EOF) (and_left (not (k is EOF)) _ g)) (and_right (not (k is EOF)) _ g)

    row : (o : Option Row) → lookup c MARKS ≡ o → (cs : Text) → Kinds (mark_in o c cs).pieces
    row none e cs = (refl, tt)
    row (some r) e [] = (not-true (r.alone is EOF) (and_left (not (r.alone is EOF)) _ (row_kinds c r e)), tt)
    row (some r) e (d ∷ cs) = column r (row_kinds c r e) (lookup d r.columns) d cs refl

slash_kinds : (cs : Text) → Kinds (parse_slash_or_comment cs).pieces
unfolding parse_slash_or_comment line_doc line_comment block_doc block_comment
slash_kinds cs =
    let P : Segment → Type 0 = λ s. Kinds s.pieces in
    if_all P (starts_with (text "//") cs) (λ _. (refl, tt))
    (λ _. if_all P (starts_with (text "/") cs) (λ _. tt)
    (λ _. if_all P (starts_with (text "**") cs && not (starts_with (text "**/") cs)) (λ _. (refl, tt))
    (λ _. if_all P (starts_with (text "*") cs) (λ _. tt) (λ _. mark_kinds (ch "/") cs))))

dollar_kinds : (cs : Text) → Kinds (parse_dollar cs).pieces
unfolding parse_dollar dollar_braces
dollar_kinds cs = if_all (λ (s : Segment). Kinds s.pieces) (starts_with (text "{") cs) (λ _. (refl, tt)) (λ _. (refl, tt))

decimal_kind_lem : (cs : Text) → (decimal_kind cs is EOF) ≡ false
unfolding decimal_kind
decimal_kind_lem cs = if_all (λ k. (k is EOF) ≡ false) (is_empty ((fraction and_then exponent) (whole_part cs).left).taken) (λ _. refl) (λ _. refl)

pub number_kinds : (cs : Text) → Kinds (parse_number cs).pieces
unfolding parse_number radix decimal
number_kinds cs =
    let P : Segment → Type 0 = λ s. Kinds s.pieces in
    if_all P (zero_then (text "xX") cs) (λ _. (refl, tt)) (λ _. if_all P (zero_then (text "bB") cs) (λ _. (refl, tt)) (λ _. (decimal_kind_lem cs, tt)))

pub name_kinds : (cs : Text) → Kinds (parse_identifier_or_keyword cs).pieces
unfolding parse_identifier_or_keyword
name_kinds cs = (name_kind (run is_ident_part cs).taken, tt)

close_one : (taken t : Text) (fs : List Fault) (cs : Text) → One (close_char taken t fs cs)
unfolding close_char
close_one taken t fs cs = if_all One (starts_with (text "'") cs) (λ _. (omega arith, (refl, tt))) (λ _. (omega arith, (refl, tt)))

char_one : (cs : Text) → One (parse_char cs)
unfolding parse_char char_escape
char_one [] = (omega arith, (refl, tt))
char_one (c ∷ cs) = if_all One (c is ch "\\") (λ _. esc cs) (λ _. close_one _ _ _ _)
  where
    esc : (cs : Text) → One (char_escape cs)
    esc [] = (omega arith, (refl, tt))
    esc (e ∷ cs) = close_one _ _ _ _

-- ── Strings ──

-- Where there was no interpolation before, a piece comes out, or there is still none.
abbrev TurnSome : Turn → Type 0
TurnSome (stop s) = 1 ≤ length s.pieces
TurnSome (on ps fs o k b x) = (1 ≤ length ps) ⊎ (x ≡ false)

behind_some : (i : ℕ) (buf : Text) (x : Piece) → 1 ≤ length (flush i buf ++ (x ∷ []))
behind_some i buf x = omega (arith, length-append (flush i buf) (x ∷ []))

ended_some : (i : ℕ) (buf : Text) → 1 ≤ length (string_ended i buf false).pieces
unfolding string_ended
ended_some i buf = go (is_empty buf)
  where
    go : (b : Bool) → 1 ≤ length (if b && false then [] else piece StringLiteral buf (suc i) ∷ [])
    go true = omega arith
    go false = omega arith

turn_some : (i : ℕ) (buf : Text) (c : Char) (cs : Text) → TurnSome (turn i buf false c cs)
unfolding turn string_broken string_dollar brace_interp name_interp
turn_some i buf c cs =
    if_all TurnSome (c is LF) (λ _. omega arith)
    (λ _. if_all TurnSome (c is ch "\"") (λ _. ended_some i buf)
    (λ _. if_all TurnSome (c is ch "\\") (λ _. esc cs)
    (λ _. if_all TurnSome (c is ch "$")
    (λ _. if_all TurnSome (next is_interp_start cs)
    (λ _. if_all TurnSome (starts_with (text "{") cs) (λ _. inl (behind_some i buf _)) (λ _. inl (behind_some i buf _)))
    (λ _. inr refl))
    (λ _. inr refl))))
  where
    esc : (cs : Text) → TurnSome (string_escape i buf false cs)
    esc [] = unfold string_escape in (inr refl)
    esc (e ∷ cs) = unfold string_escape in (inr refl)

follow_some : (c : Char) (t : Turn) (go : ℕ → Text → Bool → Segment) → TurnSome t → ((k : ℕ) (b : Text) → 1 ≤ length (go k b false).pieces)
    → 1 ≤ length (follow c t go).pieces
follow_some c (stop s) go h hg = h
follow_some c (on ps fs o k b y) go (inl h) hg = omega (arith, length-append ps (go k b y).pieces)
follow_some c (on ps fs o k b y) go (inr e) hg =
    let g : 1 ≤ length (go k b y).pieces = rw e (hg k b) in
    omega (arith, length-append ps (go k b y).pieces)

pub string_some : (k i : ℕ) (buf : Text) (cs : Text) → 1 ≤ length (string_from k i buf false cs).pieces
unfolding string_from string_ran_out
string_some k i buf [] = omega arith
string_some (suc k) i buf (c ∷ cs) = string_some k (suc i) buf cs
string_some zero i buf (c ∷ cs) =
    follow_some c (turn i buf false c cs) _ (turn_some i buf c cs) (λ k b. string_some k (suc i) b cs)

quote_told : (cs : Text) → (1 ≤ length (parse_quote cs).pieces) × AllPieces (parse_quote cs).pieces
unfolding parse_quote parse_raw_string parse_string_tokens is_piece
quote_told cs =
    if_all (λ (s : Segment). (1 ≤ length s.pieces) × AllPieces s.pieces) (starts_with (text "\"\"") cs)
    (λ _. (omega arith, (refl, tt))) (λ _. (string_some 0 1 [] cs, string_pieces 0 1 [] false cs))

-- ── Every segment ──

string_told : (cs : Text) → Told (parse_quote cs)
string_told cs =
    let t = quote_takes cs in
    record {
      few = λ e. absurd (true≢false (sym (begins (parse_quote cs) (ch "\"") t.more t.took) ∙ e));
      some_token = λ _. (quote_told cs).0;
      strings = λ _. (quote_told cs).1;
      kinds = λ e. absurd (true≢false (sym (begins (parse_quote cs) (ch "\"") t.more t.took) ∙ e));
    }

white_told : (c : Char) → (c is ch "\"") ≡ false → Told (white_space c)
unfolding white_space
white_told c n = one_told c [] (white_space c) (record { more = []; rest = []; took = refl; split = refl; all = λ e. absurd (false≢true e) }) n (zero-le, tt)

segment_told : (c : Char) (cs : Text) → Told (segment (c ∷ cs))
unfolding segment
segment_told c cs =
    if_all Told (is_white c) (λ e. white_told c (white_no_quote c e))
    (λ _. if_all Told (c is ch "/") (λ _. one_told (ch "/") cs _ (slash_takes cs) refl ((slash_one cs).0, slash_kinds cs))
    (λ _. if_all Told (c is ch "$") (λ _. one_told (ch "$") cs _ (dollar_takes cs) refl ((dollar_one cs).0, dollar_kinds cs))
    (λ _. if_all Told (c is ch "\"") (λ _. string_told cs)
    (λ n. if_all Told (c is ch "'") (λ _. one_told (ch "'") cs _ (char_takes cs) refl (char_one cs))
    (λ _. if_all Told (is_digit c) (λ d. one_told c cs _ (number_takes c cs d) n ((number_one (c ∷ cs)).0, number_kinds (c ∷ cs)))
    (λ _. if_all Told (is_ident_start c) (λ i. one_told c cs _ (name_takes c cs (start_part c i)) n ((name_one (c ∷ cs)).0, name_kinds (c ∷ cs)))
    (λ _. one_told c cs _ (mark_takes c cs) n ((mark_one c cs).0, mark_kinds c cs))))))))

-- ── The tokens of a segment ──

words_of : (p : Position) (s : Segment) (xs : List Piece) → map token_word (map as_bytes (tokens_of p s xs)) ≡ map word_bytes (map word xs)
unfolding tokens_of
words_of p s [] = refl
words_of p s (x ∷ xs) = ap (λ ws. word_bytes (word x) ∷ ws) (words_of p s xs)

tokens_at : (p : Position) (s : Segment) (xs : List Piece) → AllAt p.offset (map as_bytes (tokens_of p s xs))
unfolding tokens_of
tokens_at p s [] = tt
tokens_at p s (x ∷ xs) = (ap (λ y. y.start) (span_plain p (take x.end s.chars)), tokens_at p s xs)

tokens_pieces : (p : Position) (s : Segment) (xs : List Piece) → AllPieces xs → Every IsPiece (map as_bytes (tokens_of p s xs))
unfolding tokens_of
tokens_pieces p s [] h = tt
tokens_pieces p s (x ∷ xs) h = (h.0, tokens_pieces p s xs h.1)

module _ (q : ℕ → Bool) (p : Position) (s : Segment) (n : ℕ) (ts : List Token) (xs : List Element) (far : suc p.offset ≤ n) (more : Grouped q n ts xs) where
  string_grouped : q p.offset ≡ true → (ps : List Piece) → 1 ≤ length ps → AllPieces ps
      → Grouped q p.offset (map as_bytes (tokens_of p s ps) ++ ts) (string (map word_bytes (map word ps)) ∷ xs)
  string_grouped e [] l h = absurd (omega arith)
  string_grouped e (x ∷ ps) l h =
      rw (← (words_of p s (x ∷ ps)))
      (strings (map as_bytes (tokens_of p s (x ∷ ps))) (rw (length-map (tokens_of p s (x ∷ ps)) as_bytes, tokens_length p s (x ∷ ps)) l)
      (tokens_at p s (x ∷ ps)) (tokens_pieces p s (x ∷ ps) h))
    where
      strings : (g : List Token) → 1 ≤ length g → AllAt p.offset g → Every IsPiece g → Grouped q p.offset (g ++ ts) (string (map token_word g) ∷ xs)
      strings [] l a h = absurd (omega arith)
      strings (t ∷ g) l a h = strung {n = p.offset} p.offset t g (omega arith) e a h (grouped_weaken (suc p.offset) n far more)

  lone_grouped : q p.offset ≡ false → (ps : List Piece) → length ps ≤ 1 → Kinds ps
      → Grouped q p.offset (map as_bytes (tokens_of p s ps) ++ ts) (map element_bytes (map (λ x. lone (word x)) ps) ++ xs)
  unfolding tokens_of
  lone_grouped e [] l h = grouped_weaken p.offset n (omega arith) more
  lone_grouped e (x ∷ []) l h =
      let at : (span p (place_in p s x.end)).start ≡ p.offset = ap (λ y. y.start) (span_plain p (take x.end s.chars)) in
      let t : Token = record { kind = x.kind; text = encode x.text; span = span p (place_in p s x.end) } in
      let r : Grouped q (suc (span p (place_in p s x.end)).start) ts xs = grouped_weaken (suc (span p (place_in p s x.end)).start) n (omega (arith, at)) more in
      alone {n = p.offset} t (omega (arith, at)) (ap q at ∙ e) h.0 r
  lone_grouped e (x ∷ y ∷ ps) l h = absurd (omega arith)

  segment_grouped : q p.offset ≡ starts_with (text "\"") s.chars → Told s
      → Grouped q p.offset (map as_bytes (tokens_of p s s.pieces) ++ ts) (map element_bytes (elements_of s) ++ xs)
  unfolding elements_of
  segment_grouped e t = go (starts_with (text "\"") s.chars) refl
    where
      go : (b : Bool) → starts_with (text "\"") s.chars ≡ b
          → Grouped q p.offset (map as_bytes (tokens_of p s s.pieces) ++ ts)
          (map element_bytes (if b then string (map word s.pieces) ∷ [] else map (λ x. lone (word x)) s.pieces) ++ xs)
      go true f = string_grouped (e ∙ f) s.pieces (t.some_token f) (t.strings f)
      go false f = lone_grouped (e ∙ f) s.pieces (t.few f) (t.kinds f)

-- ── The whole text ──

-- At the place of a character stands a quote exactly if it is one.
quote_at_lem : (pre : Text) (c : Char) (cs : Text) → quote_at (encode (pre ++ (c ∷ cs))) (bytes pre) ≡ (c is ch "\"")
unfolding quote_at encode
quote_at_lem pre c cs = go (bytes_of_char c)
  where
    at : (b : ℕ) (bs : List ℕ) → encode_char c ≡ b ∷ bs → get_or (encode (pre ++ (c ∷ cs))) (bytes pre) 0 ≡ b
    at b bs e =
        ap (λ l. get_or l (bytes pre) 0) (encode_append pre (c ∷ cs) ∙ ap (λ l. encode pre ++ (l ++ encode cs)) e)
        ∙ get_or_at (encode pre) b (bs ++ encode cs) 0 (bytes pre) (encode_length pre)

    go : BytesOf c → (get_or (encode (pre ++ (c ∷ cs))) (bytes pre) 0 is ch "\"") ≡ (c is ch "\"")
    go (low h e) = ap (λ b. b is ch "\"") (at c [] e)
    go (high h b bs e g gs) =
        ap (λ b. b is ch "\"") (at b bs e) ∙ (is_not b (ch "\"") (λ z. omega arith) ∙ sym (is_not c (ch "\"") (λ z. omega arith)))

module _ (A : Text) where
  lex_grouped : (k : ℕ) (pre : Text) (p : Position) (cs : Text) → k ≤ length cs → A ≡ pre ++ drop k cs → p.offset ≡ bytes pre
      → Grouped (quote_at (encode A)) p.offset (map as_bytes (lex k p cs).body) (map element_bytes (elements_in (segments k cs)))
  unfolding segments place elements_in
  lex_grouped k pre p [] h e o = no_more
  lex_grouped (suc k) pre p (c ∷ cs) h e o = lex_grouped k pre p cs (omega arith) e o
  lex_grouped zero pre p (c ∷ cs) h e o =
      let s = segment (c ∷ cs) in
      let w = segment_takes c cs in
      let size = size_behind_first s.chars in
      let body = (lex size (after p s) cs).body in
      let xs = elements_in (segments size cs) in
      let split : c ∷ cs ≡ s.chars ++ drop size cs
      = ap (λ (t : Text). c ∷ t) (sym w.split) ∙ (ap (λ (t : Text). t ++ w.rest) (sym w.took) ∙ ap (λ (t : Text). s.chars ++ t) (sym (rest_is c cs))) in
      let e' : A ≡ pre ++ s.chars ++ drop size cs = e ∙ (ap (λ (t : Text). pre ++ t) split ∙ sym (append_assoc pre s.chars _)) in
      let o' : (after p s).offset ≡ bytes (pre ++ s.chars) = omega (arith, after_offset p s, bytes_append pre s.chars) in
      let far : suc p.offset ≤ (after p s).offset = omega (arith, after_offset p s, chars_low c cs) in
      let here : quote_at (encode A) p.offset ≡ starts_with (text "\"") s.chars
      = ap₂ (λ (t : Text) (n : ℕ). quote_at (encode t) n) e o ∙ (quote_at_lem pre c cs ∙ sym (begins s c w.more w.took)) in
      let more = lex_grouped size (pre ++ s.chars) (after p s) cs (size_fits c cs) e' o' in
      rw (map-append as_bytes (tokens_of p s s.pieces) body, map-append element_bytes (elements_of s) xs)
      (segment_grouped (quote_at (encode A)) p s (after p s).offset (map as_bytes body) (map element_bytes xs) far more here (segment_told c cs))

  -- The tokens of a text, with their texts as bytes, tell its elements.
  pub text_grouped : Grouped (quote_at (encode A)) 0 (map as_bytes (lexed A).body) (map element_bytes (elements A))
  unfolding bytes elements
  text_grouped = lex_grouped 0 [] origin A zero-le refl refl

-- The tokens of an accepted script tell its elements.
pub script_grouped : (s : List ℕ) → accepted s ≡ true → Grouped (quote_at (after_mark s)) 0 (script_body s) (script_elements s)
unfolding script_elements
script_grouped s ok = rw (← (script_bytes s ok)) (text_grouped (script_text s))
