-- The listings that document 01 shows: its sample, two refusals, and a script that is too long.
use Rattle.std.specs.Prelude.{List, [], ◌∷◌, ◌++◌, ℕ, ◌+◌, replicate}
use Rattle.rules.specs.Text.{ch}
use Rattle.spellings.specs.Spelling.{ascii}
use Rattle.listing_lines.specs.Lines.{ending}
use Rattle.listing.specs.Listing.{LISTED}

-- "For `val a=1` without a line feed it writes:"
abbrev pub SAMPLE_SCRIPT : List ℕ
SAMPLE_SCRIPT = ascii "val a=1"

abbrev pub SAMPLE : List ℕ
SAMPLE =
    ascii "T 6 0 2 1 1 1 3 76616c" ++ ending
    ++ (ascii "T 5 4 4 1 5 1 5 61" ++ ending)
    ++ (ascii "T 76 5 5 1 6 1 6 3d" ++ ending)
    ++ (ascii "T 0 6 7 1 7 1 8 31" ++ ending)
    ++ (ascii "T 124 7 7 1 8 1 8 -" ++ ending)
    ++ (ascii "closed" ++ ending)

-- "C3; ED A0 80", of which order 1 says: "document 01's row now gives 9 for C3 and 10 for ED A0 80". The figure is 0 for both.
abbrev pub CUT_SCRIPT : List ℕ
CUT_SCRIPT = 0xC3 ∷ []

abbrev pub CUT_SAMPLE : List ℕ
CUT_SAMPLE = ascii "refused 9 0" ++ ending

abbrev pub BARRED_SCRIPT : List ℕ
BARRED_SCRIPT = 0xED ∷ 0xA0 ∷ 0x80 ∷ []

abbrev pub BARRED_SAMPLE : List ℕ
BARRED_SAMPLE = ascii "refused 10 0" ++ ending

-- One byte more than a listing is made for: spaces.
abbrev pub LONG_SCRIPT : List ℕ
LONG_SCRIPT = replicate (LISTED + 1) (ch " ")

abbrev pub LONG_SAMPLE : List ℕ
LONG_SAMPLE = ascii "long" ++ ending
