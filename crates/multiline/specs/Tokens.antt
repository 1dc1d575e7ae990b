-- What the scanners of tokens over lines promise. `small` and `few` bound what is written by what was passed, so that places fit.
use Rattle.std.specs.Prelude.{◌≡◌, Bool, false, ◌||◌, not, List, [], map, ℕ, ◌+◌, ◌*◌, ◌-◌, ◌≤◌, length, take, drop}
use Rattle.std.proofs.Math.Seq.{slice}
use Rattle.characters.specs.Space.{is_white}
use Rattle.characters.specs.Utf8.{chars_at, chars_of, encode}
use Rattle.spans.specs.declared.Position.{Position}
use Rattle.rules.specs.Text.{Char, Text, text, one_of, is_digit, is_ident_start}
use Rattle.rules.specs.Scan.{run, up_to}
use Rattle.rules.specs.Tables.{StringLiteral, StringInterpStart, DocComment, Error, Row, MARKS}
use Rattle.rules.specs.Comments.{not_lf}
use Rattle.rules.specs.Docs.{trim, clean_doc}
use Rattle.output.specs.Writing.{Put}
use Rattle.records.specs.Layout.{error_bytes}
use Rattle.records.specs.Fields.{LONGEST_ERROR}
use Rattle.walks.specs.Walks.{star_slash, quotes}
use Rattle.walks.specs.Segments.{segment_at, errors_at, OneToken}
use Rattle.multiline.specs.declared.Made.{Made}
use Rattle.multiline.specs.declared.Filled.{Filled}
use Rattle.multiline.specs.declared.Recorded.{Recorded}
use Rattle.multiline.specs.declared.DocLine.{DocLine}
use Rattle.multiline.specs.declared.DocBlock.{DocBlock}

abbrev pub dollar_brace : Text
dollar_brace = text "${"

abbrev pub slashes : Text
slashes = text "///"

-- A character that begins nothing (lexer.rs, lines 193 to 257): neither white space nor anything that `next_token` chooses by.
unfoldable pub begins_nothing : Char → Bool
begins_nothing c =
    not (is_white c || one_of (text "/$\"'") c || is_digit c || is_ident_start c || one_of (map (λ (row : Char × Row). row.0) MARKS) c)

-- What stands between the quotes of a raw string, behind the slashes of a doc comment, and between the marks of a block doc comment.
abbrev pub raw_text : Text → Text
raw_text cs = (up_to quotes (drop 3 cs)).before

abbrev pub line_text : Text → Text
line_text cs = (run not_lf (drop 3 cs)).taken

abbrev pub block_text : Text → Text
block_text cs = (up_to star_slash (drop 3 cs)).before

-- The raw string at `p`: its text is written from `ut` on, its errors from `ue` on.
pub record RawAt (s : List ℕ) (p : Position) (texts texts' : List ℕ) (ut : ℕ) (errors errors' : List ℕ) (ue : ℕ) (r : Made) : Type 0 where
  pub one : OneToken s p StringLiteral (raw_text (chars_at s p.offset)) r.at r.at
  pub made : Put texts texts' ut (encode (raw_text (chars_at s p.offset))) r.texts
  pub written : Put errors errors' ue (error_bytes (errors_at s p)) r.errors
  pub open_end : (segment_at s p).open_end ≡ r.ran_out
  pub small : r.texts ≤ ut + 3 * (r.at.offset - p.offset)
  pub few : r.errors ≤ ue + LONGEST_ERROR * (r.at.offset - p.offset)

-- `${` at `p`, up to its closing brace: its text is written from `ut` on.
pub record BracesAt (s : List ℕ) (p : Position) (texts texts' : List ℕ) (ut : ℕ) (r : Filled) : Type 0 where
  pub one : OneToken s p StringInterpStart (text "${...}") r.at r.at
  pub made : Put texts texts' ut (encode (text "${...}")) r.texts
  pub errors : errors_at s p ≡ []
  pub open_end : (segment_at s p).open_end ≡ r.ran_out
  pub small : r.texts ≤ ut + 3 * (r.at.offset - p.offset)

-- The doc comment of one line at `p`: its text is the part of the script behind the slashes, trimmed.
pub record DocLineAt (s : List ℕ) (p : Position) (r : DocLine) : Type 0 where
  pub begins : r.from ≡ p.offset + 3
  pub part : slice r.from r.to s ≡ encode (line_text (chars_at s p.offset))
  pub one : OneToken s p DocComment (trim (chars_of (slice r.from r.to s))) r.at r.at
  pub errors : errors_at s p ≡ []
  pub open_end : (segment_at s p).open_end ≡ false
  pub forth : r.from ≤ r.to
  pub inside : r.to ≤ length s

-- The block doc comment at `p`: its text is the part of the script between its marks, cleaned; its errors are written from `ue` on.
pub record DocBlockAt (s : List ℕ) (p : Position) (errors errors' : List ℕ) (ue : ℕ) (r : DocBlock) : Type 0 where
  pub begins : r.from ≡ p.offset + 3
  pub part : slice r.from r.to s ≡ encode (block_text (chars_at s p.offset))
  pub one : OneToken s p DocComment (clean_doc (chars_of (slice r.from r.to s))) r.at r.at
  pub written : Put errors errors' ue (error_bytes (errors_at s p)) r.errors
  pub open_end : (segment_at s p).open_end ≡ r.ran_out
  pub forth : r.from ≤ r.to
  pub inside : r.to ≤ length s
  pub few : r.errors ≤ ue + LONGEST_ERROR * (r.at.offset - p.offset)

-- The unexpected character at `p`: its text is a part of the script, and its error is written from `ue` on.
pub record UnexpectedAt (s : List ℕ) (p : Position) (errors errors' : List ℕ) (ue : ℕ) (r : Recorded) : Type 0 where
  pub one : OneToken s p Error (take 1 (chars_at s p.offset)) r.at r.at
  pub part : slice p.offset r.at.offset s ≡ encode (take 1 (chars_at s p.offset))
  pub written : Put errors errors' ue (error_bytes (errors_at s p)) r.errors
  pub open_end : (segment_at s p).open_end ≡ false
  pub few : r.errors ≤ ue + LONGEST_ERROR * (r.at.offset - p.offset)
