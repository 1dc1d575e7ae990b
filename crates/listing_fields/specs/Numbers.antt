-- Numbers and bytes as ASCII text.
use Rattle.std.specs.Prelude.{ℕ, zero, suc, ◌+◌, ◌/◌, ◌%◌, List, [], ◌∷◌, ◌++◌, ltb, if◌then◌else◌}
use Rattle.std.specs.Char.{digit_char}
use Rattle.rules.specs.Text.{ch}

-- The bases.
abbrev pub TEN : ℕ
TEN = 10

abbrev pub SIXTEEN : ℕ
SIXTEEN = 16

-- The decimal digits of a number that has at most so many.
unfoldable pub decimal_in : ℕ → ℕ → List ℕ
decimal_in zero n = []
decimal_in (suc most) n = (if ltb n TEN then [] else decimal_in most (n / TEN)) ++ ((ch "0" + n % TEN) ∷ [])

-- A number of 64 bits has at most so many digits.
abbrev pub DIGITS : ℕ
DIGITS = 20

unfoldable pub decimal : ℕ → List ℕ
decimal n = decimal_in DIGITS n

-- Two hexadecimal digits for each byte, with small letters: the library's `digit_char` gives 0 to 9, and then a to f.
unfoldable pub hex_of : List ℕ → List ℕ
hex_of [] = []
hex_of (b ∷ bs) = digit_char (b / SIXTEEN) ∷ digit_char (b % SIXTEEN) ∷ hex_of bs
