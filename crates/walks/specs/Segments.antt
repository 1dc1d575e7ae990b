-- The segment at a position of a text.
use Rattle.std.specs.Prelude.{◌≡◌, List, [], ◌∷◌, ℕ, ◌<◌}
use Rattle.characters.specs.Utf8.{chars_at}
use Rattle.spans.specs.declared.Position.{Position}
use Rattle.rules.specs.Text.{Text}
use Rattle.rules.specs.Tokens.{TokenizeError}
use Rattle.rules.specs.Segment.{Segment, one_token}
use Rattle.rules.specs.Lexer.{segment, span, tokens_of, errors_of}
use Rattle.bridge.specs.Bridge.{Reach}

abbrev pub segment_at : List ℕ → Position → Segment
segment_at s p = segment (chars_at s p.offset)

-- Its errors.
abbrev pub errors_at : List ℕ → Position → List TokenizeError
errors_at s p = errors_of p (segment_at s p) (segment_at s p).faults

-- The segment at `p` is one token, of this kind and text, whose span ends at `end`; `q` is the position behind it.
pub record OneToken (s : List ℕ) (p : Position) (kind : ℕ) (text : Text) (end q : Position) : Type 0 where
  pub sort : (segment_at s p).sort ≡ one_token
  pub token :
      tokens_of p (segment_at s p) (segment_at s p).pieces ≡ record { kind = kind; text = text; span = span p end } ∷ []
  pub reach : Reach s p (segment_at s p).chars q
  pub forth : p.offset < q.offset
