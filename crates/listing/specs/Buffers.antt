-- What the tokens, the texts and the errors of a listed script take at most: the sizes of the buffers.
use Rattle.std.specs.Prelude.{ℕ, ◌+◌, ◌*◌}
use Rattle.records.specs.Fields.{LONGEST_TOKEN, LONGEST_ERROR}
use Rattle.listing.specs.Listing.{LISTED}

abbrev pub TOKENS : ℕ
TOKENS = LONGEST_TOKEN * (LISTED + 1)

abbrev pub TEXTS : ℕ
TEXTS = 2 * LISTED + 2

abbrev pub ERRORS : ℕ
ERRORS = LONGEST_ERROR * LISTED
