-- Numbers: `parse_number` and `maybe_suffix` (lexer.rs, lines 417 to 530).
use Rattle.std.specs.Prelude.{Bool, false, ◌&&◌, ◌||◌, [], ◌∷◌, ℕ, if◌then◌else◌}
use Rattle.characters.specs.Choice.{◌is◌}
use Rattle.rules.specs.Text.{Char, Text, ch, text, one_of, is_digit, is_hex_digit, is_empty}
use Rattle.rules.specs.Scan.{next, Part, nothing, takes, run, one_char, ◌and_then◌}
use Rattle.rules.specs.Tables.{IntLiteral, FloatLiteral}
use Rattle.rules.specs.Segment.{Segment, whole_token}

-- The digits after 0x and those after 0b: no underscore (lines 430 to 437 and 446 to 453).
unfoldable pub hex_part : Char → Bool
hex_part c = is_hex_digit c

unfoldable pub binary_part : Char → Bool
binary_part c = one_of (text "01") c

-- One suffix letter at most: `maybe_suffix` (lines 522 to 530).
abbrev pub maybe_suffix : Text → Part
maybe_suffix = one_char (one_of (text "LlfFdDuU"))

-- A zero, a letter, the digits after them, a suffix (lines 423 to 459).
unfoldable pub radix : (Char → Bool) → Text → Segment
radix isRadixDigit cs =
    whole_token IntLiteral
    ((one_char (one_of (text "0")) and_then one_char (one_of (text "xXbB")) and_then run isRadixDigit and_then maybe_suffix) cs).taken

unfoldable pub is_digit_or_underscore : Char → Bool
is_digit_or_underscore c = is_digit c || c is ch "_"

-- The whole part (lines 462 to 469).
abbrev pub whole_part : Text → Part
whole_part = run is_digit_or_underscore

-- A point belongs only before a digit (lines 472 to 489).
unfoldable pub fraction : Text → Part
fraction [] = nothing []
fraction (c ∷ cs) = if c is ch "." && next is_digit cs then takes c (run is_digit_or_underscore cs) else nothing (c ∷ cs)

-- Lines 492 to 512.
unfoldable pub exponent : Text → Part
exponent [] = nothing []
exponent (c ∷ cs) = if one_of (text "eE") c then takes c ((one_char (one_of (text "+-")) and_then run is_digit) cs) else nothing (c ∷ cs)

-- A number with a fraction or an exponent is a float (`is_float`, line 517); a suffix says nothing of it.
unfoldable pub decimal_kind : Text → ℕ
decimal_kind cs =
    if is_empty ((fraction and_then exponent) (whole_part cs).left).taken then IntLiteral else FloatLiteral

unfoldable pub decimal : Text → Segment
decimal cs = whole_token (decimal_kind cs) ((whole_part and_then fraction and_then exponent and_then maybe_suffix) cs).taken

-- A zero, and then one of the letters.
unfoldable pub zero_then : Text → Text → Bool
zero_then letters [] = false
zero_then letters (c ∷ cs) = c is ch "0" && next (one_of letters) cs

unfoldable pub parse_number : Text → Segment
parse_number cs =
    if zero_then (text "xX") cs then radix hex_part cs
    else if zero_then (text "bB") cs then radix binary_part cs
    else decimal cs
