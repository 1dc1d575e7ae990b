-- The characters and the kinds of numbers.
use Rattle.std.specs.Prelude.{Bool, ℕ, if◌then◌else◌}
use Rattle.rules.specs.Text.{Char, text, one_of}
use Rattle.rules.specs.Tables.{IntLiteral, FloatLiteral}

abbrev pub is_suffix : Char → Bool
is_suffix = one_of (text "LlfFdDuU")

abbrev pub is_sign : Char → Bool
is_sign = one_of (text "+-")

abbrev pub number_kind : Bool → ℕ
number_kind float = if float then FloatLiteral else IntLiteral
