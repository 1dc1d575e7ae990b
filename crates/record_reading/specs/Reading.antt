-- What the reader answers at a place of a lent slice (document 01, "Questions before the answer"). A place is any number, and a
-- byte that the slice lacks is read as 0.
use Rattle.std.specs.Prelude.{ℕ, ◌+◌, ◌*◌, Bool, ◌&&◌, not, List, leb, length, get_or, if◌then◌else◌}
use Rattle.characters.specs.Choice.{◌is◌}
use Rattle.spans.specs.declared.Span.{Span}
use Rattle.rules.specs.Tables.{EOF}
use Rattle.records.specs.Fields.{END, START_LINE, START_COL, END_LINE, END_COL, TEXT_OFFSET, TEXT_LENGTH, CODE_POINT}
use Rattle.records.specs.Kinds.{is_kind, has_text, record_length, is_error_kind, error_length}
use Rattle.refusals.specs.Refusals.{RefusedKind, RefusedPlace}
use Rattle.refusals.specs.Answers.{got, refused}
use Rattle.records.specs.Answers.{Turn}
use Rattle.records.specs.Errors.{kind_of}
use Rattle.records.specs.declared.answers.TokenRecord.{TokenRecord}
use Rattle.records.specs.declared.answers.ErrorRecord.{ErrorRecord}

-- ── What stands at a place ──

-- The 32-bit little-endian number.
unfoldable pub num32 : List ℕ → ℕ → ℕ
num32 s at = get_or s at 0 + get_or s (at + 1) 0 * 256 + get_or s (at + 2) 0 * 65536 + get_or s (at + 3) 0 * 16777216

unfoldable pub span_at : List ℕ → ℕ → Span
span_at s at =
    record {
      start = num32 s at;
      end = num32 s (at + END);
      start_line = num32 s (at + START_LINE);
      start_col = num32 s (at + START_COL);
      end_line = num32 s (at + END_LINE);
      end_col = num32 s (at + END_COL);
    }

unfoldable pub kind_at : List ℕ → ℕ → ℕ
kind_at s at = get_or s at 0

-- Question 7: "Does a whole record of kind at most 125 start at the place?"
unfoldable pub is_whole : List ℕ → ℕ → Bool
is_whole s at = is_kind (kind_at s at) && leb (at + record_length (kind_at s at)) (length s)

unfoldable pub record_at : List ℕ → ℕ → TokenRecord
record_at s at =
    record {
      kind = kind_at s at;
      span = span_at s (at + 1);
      offset = if has_text (kind_at s at) then num32 s (at + TEXT_OFFSET) else 0;
      length = if has_text (kind_at s at) then num32 s (at + TEXT_LENGTH) else 0;
    }

-- The same for errors: "error records: 1 to 10".
unfoldable pub is_whole_error : List ℕ → ℕ → Bool
is_whole_error s at = is_error_kind (kind_at s at) && leb (at + error_length (kind_at s at)) (length s)

unfoldable pub error_at : List ℕ → ℕ → ErrorRecord
error_at s at =
    record {
      kind = kind_of (kind_at s at) (num32 s (at + CODE_POINT));
      span = span_at s (at + 1);
    }

-- ── The reader ──

-- The place after the record: "At EOF the reader stays."
unfoldable pub after_at : List ℕ → ℕ → ℕ
after_at s at = if kind_at s at is EOF then at else at + record_length (kind_at s at)

-- Question 7, and then the record.
unfoldable pub next_at : List ℕ → ℕ → Turn TokenRecord
next_at s at =
    if not (is_whole s at) then record { answer = refused RefusedPlace at; place = at }
    else record { answer = got (record_at s at); place = after_at s at }

-- Questions 6 and 7, and then the record and whether it is of the kind asked for: "A consume of another kind moves on".
unfoldable pub consume_at : List ℕ → ℕ → ℕ → Turn (TokenRecord × Bool)
consume_at s at kind =
    if not (is_kind kind) then record { answer = refused RefusedKind kind; place = at }
    else if not (is_whole s at) then record { answer = refused RefusedPlace at; place = at }
    else record { answer = got (record_at s at, kind_at s at is kind); place = after_at s at }

-- Questions 6 and 7, and then whether the record is of the kind asked for: "a match of another kind does not" move on.
unfoldable pub match_at : List ℕ → ℕ → ℕ → Turn Bool
match_at s at kind =
    if not (is_kind kind) then record { answer = refused RefusedKind kind; place = at }
    else if not (is_whole s at) then record { answer = refused RefusedPlace at; place = at }
    else record { answer = got (kind_at s at is kind); place = if kind_at s at is kind then after_at s at else at }

-- The next over error records. They have no EOF.
unfoldable pub next_error_at : List ℕ → ℕ → Turn ErrorRecord
next_error_at s at =
    if not (is_whole_error s at) then record { answer = refused RefusedPlace at; place = at }
    else record { answer = got (error_at s at); place = at + error_length (kind_at s at) }
