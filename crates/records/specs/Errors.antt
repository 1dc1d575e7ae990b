-- The kinds of errors as the code has them, and the error that a record is (document 01, "Records").
use Rattle.std.specs.Prelude as code
use Rattle.std.specs.Prelude.{ℕ, Some, None, if◌then◌else◌}
use Rattle.std.proofs.Math.Option.{Option, none, some}
use Rattle.characters.specs.Choice.{◌is◌}
use Rattle.rules.specs.Tables.{UnexpectedCharacter, UnterminatedBlockComment, UnterminatedRawString, UnterminatedString, LineFeedInString, BadUnicodeEscape, BadEscape, UnterminatedInterpolation, UnterminatedCharacter, UnterminatedDocComment}
use Rattle.rules.specs.Tokens.{TokenizeError}
use Rattle.records.specs.declared.errors.ErrorKind.{ErrorKind}
use Rattle.records.specs.declared.errors.ErrorKind.TheVariants as kind
use Rattle.records.specs.declared.answers.ErrorRecord.{ErrorRecord}

-- The number that a record holds.
abbrev pub kind_number : ErrorKind → ℕ
kind_number (kind.UnexpectedCharacter c) = UnexpectedCharacter
kind_number kind.UnterminatedBlockComment = UnterminatedBlockComment
kind_number kind.UnterminatedRawString = UnterminatedRawString
kind_number kind.UnterminatedString = UnterminatedString
kind_number kind.LineFeedInString = LineFeedInString
kind_number kind.BadUnicodeEscape = BadUnicodeEscape
kind_number (kind.BadEscape c) = BadEscape
kind_number kind.UnterminatedInterpolation = UnterminatedInterpolation
kind_number kind.UnterminatedCharacter = UnterminatedCharacter
kind_number kind.UnterminatedDocComment = UnterminatedDocComment

-- "Kinds 1 and 7 add the 32-bit code point."
abbrev pub kind_char : ErrorKind → Option ℕ
kind_char (kind.UnexpectedCharacter c) = some c
kind_char (kind.BadEscape c) = some c
kind_char other = none

-- The same, as the code answers it.
abbrev pub kind_code : ErrorKind → code.Option ℕ
kind_code (kind.UnexpectedCharacter c) = Some c
kind_code (kind.BadEscape c) = Some c
kind_code other = None

-- The kind of a number, with this code point where it carries one.
unfoldable pub kind_of : ℕ → ℕ → ErrorKind
kind_of number c =
    if number is UnexpectedCharacter then kind.UnexpectedCharacter c
    else if number is UnterminatedBlockComment then kind.UnterminatedBlockComment
    else if number is UnterminatedRawString then kind.UnterminatedRawString
    else if number is UnterminatedString then kind.UnterminatedString
    else if number is LineFeedInString then kind.LineFeedInString
    else if number is BadUnicodeEscape then kind.BadUnicodeEscape
    else if number is BadEscape then kind.BadEscape c
    else if number is UnterminatedInterpolation then kind.UnterminatedInterpolation
    else if number is UnterminatedCharacter then kind.UnterminatedCharacter
    else kind.UnterminatedDocComment

-- The error of the rules that a record is.
abbrev pub error_of : ErrorRecord → TokenizeError
error_of r = record { kind = kind_number r.kind; span = r.span; char = kind_char r.kind }
