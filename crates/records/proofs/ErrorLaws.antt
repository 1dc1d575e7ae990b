-- Laws of the kinds of errors. Assumes nothing.
use Rattle.std.specs.Prelude as code
use Rattle.std.specs.Prelude.{Some, None, if◌then◌else◌}
use Rattle.std.specs.Option.{unwrap_or}
use mathlib.Core.Path.{◌≡◌, refl, ap}
use mathlib.Core.Bool.{Bool, true, false, false≢true, true≢false}
use mathlib.Core.Logic.{⊎_elim}
use mathlib.Core.Option.{some, none}
use Prim.Native.Nat.{ℕ, zero, suc, ◌≤◌}
use native.Mathlib.Omega.{arith}
use borrow.Author.Tests.{eqb-true}
use Rattle.characters.specs.Choice.{◌is◌}
use Rattle.characters.proofs.Choice.{or_either, or_neither}
use Rattle.records.specs.declared.errors.ErrorKind.{ErrorKind}
use Rattle.records.specs.declared.errors.ErrorKind.TheVariants as kind
use Rattle.records.specs.Kinds.{has_code}
use Rattle.records.specs.Layout.{code_of}
use Rattle.records.specs.Errors.{kind_number, kind_char, kind_code, kind_of}

-- ── A kind carries a code point exactly where its number says so ──

abbrev value : code.Option ℕ → ℕ
value (Some v) = v
value None = 0

abbrev is_some : code.Option ℕ → Bool
is_some (Some v) = true
is_some None = false

pub code_some : (k : ErrorKind) (v : ℕ) → kind_code k ≡ Some v → (has_code (kind_number k) ≡ true) × (kind_char k ≡ some v)
unfolding has_code
code_some (kind.UnexpectedCharacter c) v e = (refl, ap (λ (o : code.Option ℕ). some (value o)) e)
code_some kind.UnterminatedBlockComment v e = absurd (false≢true (ap is_some e))
code_some kind.UnterminatedRawString v e = absurd (false≢true (ap is_some e))
code_some kind.UnterminatedString v e = absurd (false≢true (ap is_some e))
code_some kind.LineFeedInString v e = absurd (false≢true (ap is_some e))
code_some kind.BadUnicodeEscape v e = absurd (false≢true (ap is_some e))
code_some (kind.BadEscape c) v e = (refl, ap (λ (o : code.Option ℕ). some (value o)) e)
code_some kind.UnterminatedInterpolation v e = absurd (false≢true (ap is_some e))
code_some kind.UnterminatedCharacter v e = absurd (false≢true (ap is_some e))
code_some kind.UnterminatedDocComment v e = absurd (false≢true (ap is_some e))

pub code_none : (k : ErrorKind) → kind_code k ≡ None → (has_code (kind_number k) ≡ false) × (kind_char k ≡ none)
unfolding has_code
code_none (kind.UnexpectedCharacter c) e = absurd (true≢false (ap is_some e))
code_none kind.UnterminatedBlockComment e = (refl, refl)
code_none kind.UnterminatedRawString e = (refl, refl)
code_none kind.UnterminatedString e = (refl, refl)
code_none kind.LineFeedInString e = (refl, refl)
code_none kind.BadUnicodeEscape e = (refl, refl)
code_none (kind.BadEscape c) e = absurd (true≢false (ap is_some e))
code_none kind.UnterminatedInterpolation e = (refl, refl)
code_none kind.UnterminatedCharacter e = (refl, refl)
code_none kind.UnterminatedDocComment e = (refl, refl)

pub char_none : (k : ErrorKind) → has_code (kind_number k) ≡ false → kind_char k ≡ none
unfolding has_code
char_none (kind.UnexpectedCharacter c) e = absurd (true≢false e)
char_none kind.UnterminatedBlockComment e = refl
char_none kind.UnterminatedRawString e = refl
char_none kind.UnterminatedString e = refl
char_none kind.LineFeedInString e = refl
char_none kind.BadUnicodeEscape e = refl
char_none (kind.BadEscape c) e = absurd (true≢false e)
char_none kind.UnterminatedInterpolation e = refl
char_none kind.UnterminatedCharacter e = refl
char_none kind.UnterminatedDocComment e = refl

-- What kinds of its number carry is what the kind carries.
pub char_or_none : (k : ErrorKind) → (if has_code (kind_number k) then some (unwrap_or (kind_code k) 0) else none) ≡ kind_char k
unfolding has_code
char_or_none (kind.UnexpectedCharacter c) = refl
char_or_none kind.UnterminatedBlockComment = refl
char_or_none kind.UnterminatedRawString = refl
char_or_none kind.UnterminatedString = refl
char_or_none kind.LineFeedInString = refl
char_or_none kind.BadUnicodeEscape = refl
char_or_none (kind.BadEscape c) = refl
char_or_none kind.UnterminatedInterpolation = refl
char_or_none kind.UnterminatedCharacter = refl
char_or_none kind.UnterminatedDocComment = refl

-- The code point, or 0 where there is none.
pub code_or_zero : (k : ErrorKind) → unwrap_or (kind_code k) 0 ≡ code_of (kind_char k)
unfolding code_of
code_or_zero (kind.UnexpectedCharacter c) = refl
code_or_zero kind.UnterminatedBlockComment = refl
code_or_zero kind.UnterminatedRawString = refl
code_or_zero kind.UnterminatedString = refl
code_or_zero kind.LineFeedInString = refl
code_or_zero kind.BadUnicodeEscape = refl
code_or_zero (kind.BadEscape c) = refl
code_or_zero kind.UnterminatedInterpolation = refl
code_or_zero kind.UnterminatedCharacter = refl
code_or_zero kind.UnterminatedDocComment = refl

-- ── From a number to its kind ──

pub of_number : (n c : ℕ) → 1 ≤ n → n ≤ 10 → kind_number (kind_of n c) ≡ n
unfolding kind_of
of_number zero c a b = absurd (omega arith)
of_number (suc zero) c a b = refl
of_number (suc (suc zero)) c a b = refl
of_number (suc (suc (suc zero))) c a b = refl
of_number (suc (suc (suc (suc zero)))) c a b = refl
of_number (suc (suc (suc (suc (suc zero))))) c a b = refl
of_number (suc (suc (suc (suc (suc (suc zero)))))) c a b = refl
of_number (suc (suc (suc (suc (suc (suc (suc zero))))))) c a b = refl
of_number (suc (suc (suc (suc (suc (suc (suc (suc zero)))))))) c a b = refl
of_number (suc (suc (suc (suc (suc (suc (suc (suc (suc zero))))))))) c a b = refl
of_number (suc (suc (suc (suc (suc (suc (suc (suc (suc (suc zero)))))))))) c a b = refl
of_number (suc (suc (suc (suc (suc (suc (suc (suc (suc (suc (suc n))))))))))) c a b = absurd (omega arith)

pub of_code : (n c : ℕ) → has_code n ≡ true → kind_char (kind_of n c) ≡ some c
unfolding kind_of has_code
of_code n c e = ⊎_elim (λ f. rw f) (λ f. rw (eqb-true n 7 f)) (or_either (n is 1) (n is 7) e)

pub of_none : (n c : ℕ) → 1 ≤ n → n ≤ 10 → has_code n ≡ false → kind_char (kind_of n c) ≡ none
of_none n c a b e = char_none (kind_of n c) (rw (of_number n c a b) e)

-- Where a kind carries no code point, none matters.
pub of_bare : (n c d : ℕ) → has_code n ≡ false → kind_of n c ≡ kind_of n d
unfolding kind_of has_code
of_bare n c d e = let f = or_neither (n is 1) (n is 7) e in rw (f.0, f.1)
