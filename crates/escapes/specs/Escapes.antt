-- Hexadecimal digits and the escapes of one letter, as the code answers them.
use Rattle.std.specs.Prelude as code
use Rattle.std.specs.Prelude.{List, ℕ, ◌+◌, get_or, if◌then◌else◌, Some, None}
use Rattle.characters.specs.Choice.{◌is◌}
use Rattle.rules.specs.Text.{Char, ch, is_hex_digit, hex_value}
use Rattle.rules.specs.Tables.{ESCAPES, lookup}
use Rattle.bridge.specs.Bridge.{value_of}

-- The value of a hexadecimal digit.
unfoldable pub digit_of : Char → code.Option ℕ
digit_of c = if is_hex_digit c then Some (hex_value c) else None

-- The byte that the backslash and the letter at a place stand for.
unfoldable pub short_escape : List ℕ → ℕ → code.Option ℕ
short_escape s at = if get_or s at 0 is ch "\\" then value_of (lookup (get_or s (at + 1) 0) ESCAPES) else None
