-- What the program `tokens` writes for a script (document 01, under "Small scripts"): a line for each token, a line for each error,
-- and `closed` or `open`; or one line, `refused` or `long`.
use Rattle.std.specs.Prelude.{ℕ, ◌+◌, ◌*◌, List, ◌++◌, leb, length, if◌then◌else◌}
use Rattle.rules.specs.Script.{script_tokens, script_errors, script_closed}
use Rattle.spellings.specs.Spelling.{ascii}
use Rattle.refusals.specs.Answers.{Answer, got, refused}
use Rattle.room.specs.declared.Used.{Used}
use Rattle.lexer.specs.Tokenize.{measure_answer}
use Rattle.listing_lines.specs.Lines.{ending, token_lines, error_lines, closed_line, refused_line}

-- The lines for the answer of questions 1 and 2.
unfoldable pub answer_lines : List ℕ → Answer Used → List ℕ
answer_lines s (got u) = token_lines (script_tokens s) ++ error_lines (script_errors s) ++ closed_line (script_closed s)
answer_lines s (refused number figure) = refused_line number figure

-- The bytes that a script may have at most to be listed.
abbrev pub LISTED : ℕ
LISTED = 1024

-- "at most 1,024 bytes (longer: the line `long`"; this is asked before every other question.
unfoldable pub listing : List ℕ → List ℕ
listing s = if leb (length s) LISTED then answer_lines s (measure_answer s) else ascii "long" ++ ending

-- No listing has more bytes (325 for each byte of a script, and 162 more): `listing_short` in proofs/Whole.antt.
abbrev pub LONGEST : ℕ
LONGEST = 325 * LISTED + 162
