-- The numbers of the questions that are answered with no (document 01, "Questions before the answer"; document 02, orders 1 and 2), and
-- the number and the figure that each case of the code's enum is.
use Rattle.std.specs.Prelude.{ℕ}
pub use Rattle.characters.specs.Utf8.{RefusedUtf8, RefusedCut, RefusedBarred}
use Rattle.refusals.specs.declared.Refusal.{Refusal}
use Rattle.refusals.specs.declared.Refusal.TheVariants.{Length, Utf8, Tokens, Texts, Errors, Kind, Place, Text, Cut, Barred, Mistake, Print}

-- Question 2 has a number for each class of bad sequence, `bad_class`: 2, 9 or 10.
abbrev pub RefusedLength : ℕ
RefusedLength = 1

abbrev pub RefusedTokens : ℕ
RefusedTokens = 3

abbrev pub RefusedTexts : ℕ
RefusedTexts = 4

abbrev pub RefusedErrors : ℕ
RefusedErrors = 5

-- The questions of the reader and of the text calls: 6 asks for the kind, 7 for the record at the place, 8 for its text.
abbrev pub RefusedKind : ℕ
RefusedKind = 6

abbrev pub RefusedPlace : ℕ
RefusedPlace = 7

abbrev pub RefusedText : ℕ
RefusedText = 8

-- The numbers that order 2 adds.
abbrev pub RefusedMistake : ℕ
RefusedMistake = 11

abbrev pub RefusedPrint : ℕ
RefusedPrint = 12

abbrev pub refusal_number : Refusal → ℕ
refusal_number (Length n) = RefusedLength
refusal_number (Utf8 n) = RefusedUtf8
refusal_number (Tokens n) = RefusedTokens
refusal_number (Texts n) = RefusedTexts
refusal_number (Errors n) = RefusedErrors
refusal_number (Kind n) = RefusedKind
refusal_number (Place n) = RefusedPlace
refusal_number (Text n) = RefusedText
refusal_number (Cut n) = RefusedCut
refusal_number (Barred n) = RefusedBarred
refusal_number (Mistake n) = RefusedMistake
refusal_number (Print n) = RefusedPrint

abbrev pub refusal_figure : Refusal → ℕ
refusal_figure (Length n) = n
refusal_figure (Utf8 n) = n
refusal_figure (Tokens n) = n
refusal_figure (Texts n) = n
refusal_figure (Errors n) = n
refusal_figure (Kind n) = n
refusal_figure (Place n) = n
refusal_figure (Text n) = n
refusal_figure (Cut n) = n
refusal_figure (Barred n) = n
refusal_figure (Mistake n) = n
refusal_figure (Print n) = n
