-- How long the text of a token is. Assumes nothing.
use Rattle.std.specs.Prelude.{if◌then◌else◌}
use mathlib.Core.Path.{◌≡◌, refl, ap}
use mathlib.Core.List.{List, [], ◌∷◌}
use Prim.Native.Nat.{ℕ, ◌+◌, ◌*◌, ◌-◌, ◌≤◌, zero-le}
use native.Mathlib.Omega.{arith}
use lib.ListN.{length}
use Rattle.characters.specs.Utf8.{chars_at, encode, bytes}
use Rattle.characters.proofs.Choice.{if_all}
use Rattle.characters.proofs.Texts.{encode_length}
use Rattle.spans.specs.declared.Position.{Position}
use Rattle.rules.specs.Text.{Text}
use Rattle.rules.specs.Tokens.{Token}
use Rattle.rules.specs.Segment.{Piece, Segment}
use Rattle.rules.specs.Lexer.{segment, span, tokens_of}
use Rattle.rules.proofs.Sizes.{piece_bytes, TextsFit, segment_fits}
use Rattle.walks.specs.Segments.{segment_at, OneToken}
use Rattle.walks.proofs.Enclosed.{reach_offset}

-- The text of the one piece.
pieces_one : (p end : Position) (s : Segment) (xs : List Piece) (kind : ℕ) (t : Text)
    → tokens_of p s xs ≡ record { kind = kind; text = t; span = span p end } ∷ [] → piece_bytes xs ≡ bytes t
unfolding tokens_of piece_bytes
pieces_one p end s [] kind t e = absurd (omega (arith, ap length e))
pieces_one p end s (x ∷ []) kind t e = omega (arith, ap bytes (same e))
  where
    same : tokens_of p s (x ∷ []) ≡ record { kind = kind; text = t; span = span p end } ∷ [] → x.text ≡ t
    same e = ap first_text e
      where
        first_text : List Token → Text
        first_text [] = []
        first_text (u ∷ us) = u.text
pieces_one p end s (x ∷ y ∷ xs) kind t e = absurd (omega (arith, ap length e))

module _ (s : List ℕ) (p : Position) (kind : ℕ) (t : Text) (end q : Position) (one : OneToken s p kind t end q) where
  pub token_bytes_lem : piece_bytes (segment_at s p).pieces ≡ bytes t
  token_bytes_lem = pieces_one p end (segment_at s p) (segment_at s p).pieces kind t one.token

  token_fits : TextsFit (segment_at s p)
  token_fits = go (chars_at s p.offset) refl
    where
      go : (cs : Text) → chars_at s p.offset ≡ cs → TextsFit (segment cs)
      go [] e = unfold segment piece_bytes bytes in zero-le
      go (c ∷ cs) e = segment_fits c cs

  -- It has at most two bytes for each byte of the token, and two more.
  pub token_small : length (encode t) ≤ 2 * (q.offset - p.offset) + 2
  token_small =
      omega (arith, encode_length t, token_bytes_lem, token_fits, two, reach_offset s p q (segment_at s p).chars one.reach)
    where
      two : (if (segment_at s p).open_end then 2 else 0) ≤ 2
      two = if_all (λ (n : ℕ). n ≤ 2) (segment_at s p).open_end (λ _. omega arith) (λ _. omega arith)
