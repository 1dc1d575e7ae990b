-- Tokens and errors, as in token.rs. A kind is its place in `TokenKind` (token.rs, lines 6 to 158), from 0.
use Rattle.std.specs.Prelude.{ℕ, List}
use Rattle.std.proofs.Math.Option.{Option}
use Rattle.spans.specs.declared.Span.{Span}

-- `Token`. The text is a list of characters in the rules, and a list of bytes where a script is given by its bytes (Script.antt).
pub record Token : Type 0 where
  pub kind : ℕ
  pub text : List ℕ
  pub span : Span

-- `TokenizeError`: a number in place of its message (document 01, "Records"), and the code point that kinds 1 and 7 name.
pub record TokenizeError : Type 0 where
  pub kind : ℕ
  pub span : Span
  pub char : Option ℕ
