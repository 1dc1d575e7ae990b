-- Raw strings: their bytes between the quotes, and how they are printed. Assumes nothing.
use mathlib.Core.Path.{◌≡◌, refl, sym, ◌∙◌, ap, subst}
use mathlib.Core.Bool.{true, false}
use mathlib.Core.List.{List, [], ◌∷◌, ◌++◌, append_assoc}
use Prim.Native.Nat.{ℕ, ◌+◌, ◌*◌, ◌≤◌}
use native.Mathlib.Omega.{arith}
use lib.ListN.{length, drop}
use lib.Seq.{slice, length-slice}
use Rattle.characters.specs.Utf8.{chars_at, encode, bytes}
use Rattle.characters.proofs.Texts.{encode_length, chars_passed, chars_slice}
use Rattle.spans.specs.declared.Position.{Position}
use Rattle.rules.specs.Text.{Text, ch, text}
use Rattle.rules.specs.Scan.{starts_with, up_to, closing}
use Rattle.rules.specs.Tables.{StringLiteral}
use Rattle.rules.proofs.Front.{up_to_splits}
use Rattle.bridge.specs.Bridge.{placed, Within, Reach, onward}
use Rattle.bridge.proofs.Bytes.{starts_first}
use Rattle.output.specs.Writing.{Put}
use Rattle.output.proofs.Buffers.{put_then}
use Rattle.walks.specs.Walks.{quotes}
use Rattle.walks.proofs.Enclosed.{begin_reach}
use Rattle.multiline.specs.Tokens.{raw_text, RawAt}
use Rattle.multiline.specs.declared.Made.{Made}
use Rattle.prints.specs.Print.{escapes}
use Rattle.prints.specs.Writing.{one_piece}
use Rattle.prints.proofs.Stepwise.{piece_literal}
use Rattle.print_escapes.proofs.Bare.{put_same}
use Rattle.print_escapes.proofs.Sizes.{escapes_length, literal_false}
use Rattle.print_places.specs.Places.{Emits}
use Rattle.print_places.proofs.Elements.{word_of, quoted_emits}
use Rattle.print_tokens.proofs.Faults.{token_right, quote_is}

pub raw_placed : (s : List ℕ) (from : ℕ) (p : Position) (texts texts' errors errors' : List ℕ) (m : Made) → p ≡ placed from
    → RawAt s p texts texts' 0 errors errors' 0 m → RawAt s (placed from) texts texts' 0 errors errors' 0 m
raw_placed s from p texts texts' errors errors' m e i = subst (λ (x : Position). RawAt s x texts texts' 0 errors errors' 0 m) e i

module _ (s : List ℕ) (from : ℕ) (w : Within s (placed from)) (e : starts_with quotes (chars_at s from) ≡ true) where
  abbrev inner : Text
  inner = raw_text (chars_at s from)

  abbrev rest : Text
  rest =
      let u = up_to quotes (drop 3 (chars_at s from)) in
      closing quotes u ++ (up_to_splits quotes (drop 3 (chars_at s from))).0

  front : Reach s (placed from) quotes (onward (placed from) 3)
  front = begin_reach quotes s (placed from) (onward (placed from) 3) (omega arith) w e refl

  behind : chars_at s (from + 3) ≡ inner ++ rest
  behind =
      let u = up_to quotes (drop 3 (chars_at s from)) in
      let k = up_to_splits quotes (drop 3 (chars_at s from)) in
      sym (ap (drop 3) front.chars) ∙ (sym k.1 ∙ append_assoc u.before (closing quotes u) k.0)

  module _ (texts texts' errors errors' : List ℕ) (m : Made) (i : RawAt s (placed from) texts texts' 0 errors errors' 0 m) where
    abbrev begin : ℕ
    begin = from + 3

    many : m.texts ≡ bytes inner
    many = omega (arith, i.made.place, encode_length inner)

    -- The bytes of its text.
    pub raw_inside : begin + m.texts ≤ length s
    raw_inside = omega (arith, (chars_passed s begin inner rest behind).inside front.within.inside, many)

    raw_bytes : slice begin (begin + m.texts) s ≡ encode inner
    raw_bytes =
        ap (λ (n : ℕ). slice begin (begin + n) s) many ∙ chars_slice s begin inner rest front.within.inside behind

    module _ (a b c : List ℕ) (at x y : ℕ) (p : Put a b at (ch "\"" ∷ []) x)
        (v : Put b c x (escapes (ch "\"") (slice begin (begin + m.texts) s)) y) where
      -- No place is far behind the first.
      pub raw_small : y ≤ at + 1 + 6 * m.texts
      raw_small =
          omega (arith, p.place, v.place, escapes_length (ch "\"") (slice begin (begin + m.texts) s), length-slice begin (begin + m.texts) s raw_inside)

      raw_piece : one_piece false (word_of StringLiteral inner) ≡ escapes (ch "\"") (slice begin (begin + m.texts) s)
      raw_piece =
          piece_literal false (word_of StringLiteral inner) refl ∙ (literal_false (encode inner) ∙ ap (escapes (ch "\"")) (sym raw_bytes))

      pub raw_emits : (d : List ℕ) (r : ℕ) → m.errors ≤ 0 → Put c d y (ch "\"" ∷ []) r
          → Emits true s from a d at (record { at = m.at.offset; out = r })
      raw_emits d r h z =
          let E = escapes (ch "\"") (slice begin (begin + m.texts) s) in
          let P = one_piece false (word_of StringLiteral inner) in
          quoted_emits s from StringLiteral inner m.at i.one (token_right s from StringLiteral inner m.at i.one errors errors' m.errors i.written h)
          refl a d at (record { at = m.at.offset; out = r }) refl (omega (arith, raw_small, z.place, i.small, i.one.forth))
          (quote_is s from (ch "\"") (omega arith) (omega arith) (starts_first (ch "\"") (text "\"\"") (chars_at s from) e))
          (put_same a d at r (text "\"" ++ (P ++ text "\"")) (text "\"" ++ (E ++ text "\""))
          (ap (λ (l : Text). text "\"" ++ (l ++ text "\"")) raw_piece)
          (put_then a b d at x r (text "\"") (E ++ text "\"") p (put_then b c d x y r E (text "\"") v z)))
