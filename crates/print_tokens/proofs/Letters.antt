-- Character literals: their texts have at most four bytes; and how they are printed. Assumes nothing.
use mathlib.Core.Path.{◌≡◌, refl, sym, ◌∙◌, ap, subst}
use mathlib.Core.Bool.{true, false}
use mathlib.Core.List.{List, [], ◌∷◌, ◌++◌}
use Prim.Native.Nat.{ℕ, ◌+◌, ◌*◌, ◌≤◌, ◌<◌, zero-le}
use native.Mathlib.Omega.{arith}
use lib.ListN.{length, get_or, length-append}
use lib.Seq.{slice, length-slice}
use Rattle.characters.specs.Choice.{◌is◌}
use Rattle.characters.specs.Utf8.{chars_at, encode, bytes}
use Rattle.characters.proofs.Choice.{if_all}
use Rattle.characters.proofs.Texts.{encode_length, bytes_most}
use Rattle.spans.specs.declared.Position.{Position}
use Rattle.rules.specs.Text.{Text, ch, text, is_empty}
use Rattle.rules.specs.Scan.{next, starts_with}
use Rattle.rules.specs.Tables.{CharLiteral}
use Rattle.rules.specs.Segment.{Fault, Segment}
use Rattle.rules.specs.Characters.{close_char, char_escape, parse_char}
use Rattle.rules.specs.Lexer.{segment}
use Rattle.rules.proofs.Ahead.{is_eq}
use Rattle.rules.proofs.Sizes.{piece_bytes}
use Rattle.bridge.specs.Bridge.{placed, exactly}
use Rattle.bridge.proofs.Bytes.{next_cons}
use Rattle.bridge.proofs.Tests.{low_is}
use Rattle.output.specs.Writing.{Put}
use Rattle.output.proofs.Buffers.{put_then, front_part}
use Rattle.multiline.specs.declared.Made.{Made}
use Rattle.letters.specs.Letters.{CharacterAt}
use Rattle.letters.proofs.CharLaws.{quote_parse}
use Rattle.prints.specs.Print.{escapes, character}
use Rattle.prints.specs.Writing.{begun}
use Rattle.prints.specs.Print.{is_doc}
use Rattle.prints.proofs.Signs.{OneAtMost, escape_small}
use Rattle.prints.proofs.Stepwise.{begun_char}
use Rattle.print_escapes.proofs.Bare.{put_same}
use Rattle.print_escapes.proofs.Sizes.{escapes_length}
use Rattle.print_places.specs.Places.{Emits}
use Rattle.print_places.proofs.Elements.{word_of, alone_emits}
use Rattle.print_tokens.proofs.Faults.{token_right, quote_is}
use Rattle.print_tokens.proofs.Sizes.{token_bytes_lem}

-- ── At most four bytes ──

abbrev Short : Segment → Type 0
Short s = piece_bytes s.pieces ≤ 4

one_short : (t : Text) → OneAtMost t → bytes t ≤ 4
one_short [] h = omega (arith, bytes_most [])
one_short (c ∷ []) h = omega (arith, bytes_most (c ∷ []))
one_short (c ∷ d ∷ t) h = absurd h

close_short : (cs t : Text) (fs : List Fault) (rest : Text) → OneAtMost t → Short (close_char cs t fs rest)
unfolding close_char piece_bytes
close_short cs t fs rest h =
    if_all Short (starts_with (text "'") rest) (λ _. omega (arith, one_short t h)) (λ _. omega (arith, one_short t h))

escape_short : (cs : Text) → Short (char_escape cs)
unfolding char_escape piece_bytes bytes
escape_short [] = zero-le
escape_short (e ∷ cs) = close_short _ _ _ _ (escape_small 2 e cs)

parse_short : (cs : Text) → Short (parse_char cs)
unfolding parse_char piece_bytes bytes
parse_short [] = zero-le
parse_short (c ∷ cs) = if_all Short (c is ch "\\") (λ _. escape_short cs) (λ _. close_short _ (c ∷ []) _ cs tt)

-- ── The print of a text ──

character_none : character [] ≡ text "'\\uD800'"
unfolding character is_empty
character_none = refl

character_some : (t : Text) → 0 < length t → character t ≡ text "'" ++ (escapes (ch "'") t ++ text "'")
unfolding character is_empty
character_some [] h = absurd (omega arith)
character_some (c ∷ t) h = refl

character_small : (t : Text) → length (character t) ≤ 6 * length t + 8
character_small [] = omega (arith, ap length character_none)
character_small (c ∷ t) =
    let E = escapes (ch "'") (c ∷ t) in
    omega (arith, ap length (character_some (c ∷ t) (omega arith)), length-append (text "'") (E ++ text "'"), length-append E (text "'"), escapes_length (ch "'") (c ∷ t))

module _ (s : List ℕ) (n : ℕ) where
  pub none_put : (a b : List ℕ) (at r : ℕ) → n ≡ 0 → Put a b at (text "'\\uD800'") r → Put a b at (character (slice 0 n s)) r
  none_put a b at r e p =
      put_same a b at r (character (slice 0 n s)) (text "'\\uD800'") (ap (λ (k : ℕ). character (slice 0 k s)) e ∙ character_none) p

  pub some_put : (a b c d : List ℕ) (at x y r : ℕ) → n ≤ length s → (n ≡ 0 → ⊥) → Put a b at (text "'") x → Put b c x (escapes (ch "'") (slice 0 n s)) y → Put c d y (text "'") r
      → Put a d at (character (slice 0 n s)) r
  some_put a b c d at x y r h e p q v =
      let t = slice 0 n s in
      let E = escapes (ch "'") t in
      put_same a d at r (character t) (text "'" ++ (E ++ text "'")) (character_some t (omega (arith, length-slice 0 n s h)))
      (put_then a b d at x r (text "'") (E ++ text "'") p (put_then b c d x y r E (text "'") q v))

-- ── The literal at a place ──

pub letter_placed : (s : List ℕ) (from : ℕ) (p : Position) (texts texts' errors errors' : List ℕ) (m : Made) → p ≡ placed from
    → CharacterAt s p texts texts' 0 errors errors' 0 m → CharacterAt s (placed from) texts texts' 0 errors errors' 0 m
letter_placed s from p texts texts' errors errors' m e i = subst (λ (x : Position). CharacterAt s x texts texts' 0 errors errors' 0 m) e i

module _ (s : List ℕ) (from : ℕ) (e : next (exactly (ch "'")) (chars_at s from) ≡ true) (zeros made errors errors' : List ℕ) (m : Made)
    (i : CharacterAt s (placed from) zeros made 0 errors errors' 0 m) where
  parsed : segment (chars_at s from) ≡ parse_char (chars_at s (from + 1))
  parsed =
      let k = next_cons (exactly (ch "'")) (low_is 1 (ch "'") (omega arith) (omega arith)) s from e in
      ap segment (k.1 ∙ ap (λ (c : ℕ). c ∷ chars_at s (from + 1)) (is_eq (get_or s from 0) (ch "'") k.2))
      ∙ quote_parse (chars_at s (from + 1))

  short : bytes i.text ≤ 4
  short =
      omega (
        arith,
        token_bytes_lem s (placed from) CharLiteral i.text m.at m.at i.one,
        ap (λ (g : Segment). piece_bytes g.pieces) parsed,
        parse_short (chars_at s (from + 1)),
      )

  pub letter_few : m.texts ≤ 4
  letter_few = omega (arith, short, i.made.place, encode_length i.text)

  module _ (size : length zeros ≡ 4) where
    letter_made : slice 0 m.texts made ≡ encode i.text
    letter_made =
        ap (slice 0 m.texts) i.made.written
        ∙ front_part zeros (encode i.text) m.texts (omega (arith, i.made.place)) (omega (arith, letter_few))

    pub letter_emits : m.errors ≤ 0 → (a b : List ℕ) (at r : ℕ) → Put a b at (character (slice 0 m.texts made)) r
        → Emits true s from a b at (record { at = m.at.offset; out = r })
    unfolding is_doc
    letter_emits h a b at r p =
        let w = word_of CharLiteral i.text in
        let f : begun false w ≡ character (slice 0 m.texts made) = begun_char w refl ∙ ap character (sym letter_made) in
        alone_emits s from CharLiteral i.text m.at i.one
        (token_right s from CharLiteral i.text m.at i.one errors errors' m.errors i.written h) refl
        a b at (record { at = m.at.offset; out = r }) refl
        (omega (arith, p.place, character_small (slice 0 m.texts made), ap length letter_made, encode_length i.text, short, i.one.forth))
        (quote_is s from (ch "'") (omega arith) (omega arith) e)
        (put_same a b at r (begun false w) (character (slice 0 m.texts made)) f p)
