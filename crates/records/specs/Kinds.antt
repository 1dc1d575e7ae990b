-- What the kind of a record fixes (document 01, "Records").
use Rattle.std.specs.Prelude.{ℕ, Bool, ◌||◌, leb, if◌then◌else◌}
use Rattle.characters.specs.Choice.{◌is◌, within}
use Rattle.rules.specs.Tables.{StringLiteral, CharLiteral, Ident, UnitKeyword, StringInterpStart, DocComment, Error}
use Rattle.rules.specs.Tables.{UnexpectedCharacter, BadEscape, UnterminatedDocComment}
use Rattle.records.specs.Fields.{HEAD, WITH_TEXT, WITH_CODE}

-- ── Tokens ──

-- A kind is known: `TokenKind` (token.rs, lines 6 to 158) has the places 0 to 125.
unfoldable pub is_kind : ℕ → Bool
is_kind kind = leb kind Error

-- "Kinds 0, 1, 2, 3, 4, 5, 39, 121, 123 and 125 add a text offset and length."
unfoldable pub has_text : ℕ → Bool
has_text kind = leb kind Ident || kind is UnitKeyword || kind is StringInterpStart || kind is DocComment || kind is Error

-- "For 0, 1, 4, 5, 39 and 125 the text is a part of the script after its byte-order mark; for 2, 3, 121 and 123 of the text
-- buffer."
unfoldable pub is_made : ℕ → Bool
is_made kind = within StringLiteral CharLiteral kind || kind is StringInterpStart || kind is DocComment

-- One byte of kind and a body of 24 or 32 bytes.
unfoldable pub record_length : ℕ → ℕ
record_length kind = if has_text kind then WITH_TEXT else HEAD

-- ── Errors ──

unfoldable pub is_error_kind : ℕ → Bool
is_error_kind kind = within UnexpectedCharacter UnterminatedDocComment kind

-- "Kinds 1 and 7 add the 32-bit code point."
unfoldable pub has_code : ℕ → Bool
has_code kind = kind is UnexpectedCharacter || kind is BadEscape

unfoldable pub error_length : ℕ → ℕ
error_length kind = if has_code kind then WITH_CODE else HEAD
