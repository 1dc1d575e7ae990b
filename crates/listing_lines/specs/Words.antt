-- A token and an error by their parts, for the contracts of the inner functions.
use Rattle.std.specs.Prelude.{ℕ, List, if◌then◌else◌}
use Rattle.std.proofs.Math.Option.{none, some}
use Rattle.spans.specs.declared.Span.{Span}
use Rattle.rules.specs.Tokens.{Token, TokenizeError}
use Rattle.records.specs.Kinds.{has_code}

abbrev pub token : ℕ → List ℕ → Span → Token
token kind text span = record { kind = kind; text = text; span = span }

-- An error by the number of its kind, with the code point where kinds of this number carry one.
abbrev pub error : ℕ → Span → ℕ → TokenizeError
error kind span code = record { kind = kind; span = span; char = if has_code kind then some code else none }
