-- A segment that is not white space, as a step. Assumes nothing.
use mathlib.Core.Path.{◌≡◌, refl, sym, ◌∙◌, ap, subst}
use mathlib.Core.Bool.{true, false, true≢false}
use mathlib.Core.List.{List, [], ◌∷◌, ◌++◌}
use Prim.Native.Nat.{ℕ}
use Rattle.characters.specs.Utf8.{chars_at}
use Rattle.spans.specs.declared.Position.{Position}
use Rattle.rules.specs.Text.{Text}
use Rattle.rules.specs.Tokens.{Token}
use Rattle.rules.specs.Lexer.{segment, advances, span, tokens_of, errors_of, is_space}
use Rattle.cursor.specs.Cursor.{Yields}
use Rattle.cursor.specs.declared.Cursor.TheVariants.{Outside}
use Rattle.cursor.proofs.Inside.{after_plain}
use Rattle.cursor.proofs.Steps.{yields_segment}
use Rattle.bridge.specs.Bridge.{Reach}
use Rattle.walks.specs.Segments.{segment_at, errors_at, OneToken}

empty_is_space : is_space (segment []).sort ≡ true
unfolding segment is_space
empty_is_space = refl

text_yields : (p q : Position) (cs rest : Text) → is_space (segment cs).sort ≡ false → cs ≡ (segment cs).chars ++ rest
    → q ≡ advances p (segment cs).chars
    → Yields (Outside p) cs (tokens_of p (segment cs) (segment cs).pieces) (errors_of p (segment cs) (segment cs).faults)
    (segment cs).open_end (Outside q) rest
text_yields p q [] rest f e m = absurd (true≢false (sym empty_is_space ∙ f))
text_yields p q (c ∷ cs) rest f e m =
    let s = segment (c ∷ cs) in
    subst (λ (r : Position). Yields (Outside p) (c ∷ cs) (tokens_of p s s.pieces) (errors_of p s s.faults) s.open_end (Outside r) rest)
    (after_plain p s f ∙ sym m) (yields_segment p c cs rest s refl e)

module _ (s : List ℕ) (p q : Position) where
  pub segment_yields : is_space (segment_at s p).sort ≡ false → Reach s p (segment_at s p).chars q
      → Yields (Outside p) (chars_at s p.offset) (tokens_of p (segment_at s p) (segment_at s p).pieces) (errors_at s p)
      (segment_at s p).open_end (Outside q) (chars_at s q.offset)
  segment_yields f r = text_yields p q (chars_at s p.offset) (chars_at s q.offset) f r.chars r.moved

  -- One token is one step.
  pub one_token_yields : (kind : ℕ) (t : Text) (end : Position) → OneToken s p kind t end q
      → Yields (Outside p) (chars_at s p.offset) (record { kind = kind; text = t; span = span p end } ∷ []) (errors_at s p)
      (segment_at s p).open_end (Outside q) (chars_at s q.offset)
  unfolding is_space
  one_token_yields kind t end o =
      subst
      (λ (ts : List Token). Yields (Outside p) (chars_at s p.offset) ts (errors_at s p) (segment_at s p).open_end (Outside q)
      (chars_at s q.offset))
      o.token
      (segment_yields (ap is_space o.sort) o.reach)
