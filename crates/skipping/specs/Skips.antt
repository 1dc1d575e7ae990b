-- White space and the comments that are skipped.
use Rattle.std.specs.Prelude.{◌≡◌, Bool, true, false, not, List, [], ◌∷◌, ℕ, ◌+◌, ◌*◌, ◌-◌, ◌≤◌, ◌<◌, Option, Some, None}
use Rattle.characters.specs.Space.{is_white}
use Rattle.characters.specs.Utf8.{chars_at}
use Rattle.spans.specs.declared.Position.{Position}
use Rattle.rules.specs.Text.{Text}
use Rattle.rules.specs.Scan.{next}
use Rattle.rules.specs.Tables.{UnterminatedBlockComment}
use Rattle.rules.specs.Tokens.{TokenizeError}
use Rattle.rules.specs.Segment.{Sort, space, comment, one_token, string}
use Rattle.rules.specs.Lexer.{segment}
use Rattle.cursor.specs.Cursor.{Yields}
use Rattle.cursor.specs.declared.Cursor.TheVariants.{Outside}
use Rattle.bridge.specs.Bridge.{Within, Reach}
use Rattle.output.specs.Writing.{Put}
use Rattle.records.specs.Layout.{error_bytes}
use Rattle.walks.specs.Openings.{opens_line, opens_block}
use Rattle.records.specs.Fields.{LONGEST_ERROR}
use Rattle.walks.specs.Errors.{unclosed}
use Rattle.walks.specs.Segments.{segment_at, errors_at}
use Rattle.walks.specs.declared.Closing.{Closing}
use Rattle.skipping.specs.declared.Skipped.{Skipped}

unfoldable pub is_skipped_sort : Sort → Bool
is_skipped_sort space = true
is_skipped_sort comment = true
is_skipped_sort one_token = false
is_skipped_sort string = false

-- White space or a comment that is skipped stands at the front of the text.
unfoldable pub is_skipped : Text → Bool
is_skipped [] = false
is_skipped (c ∷ cs) = is_skipped_sort (segment (c ∷ cs)).sort

-- White space from `p` to `q`: it yields nothing. There is none only where none stands at `p`.
pub record SomeWhite (s : List ℕ) (p q : Position) : Type 0 where
  pub yields : Yields (Outside p) (chars_at s p.offset) [] [] false (Outside q) (chars_at s q.offset)
  pub stops : q.offset ≡ p.offset → next is_white (chars_at s p.offset) ≡ false
  pub within : Within s q
  pub forth : p.offset ≤ q.offset

-- White space from `p` to `q`, behind which there is no more: it yields nothing.
pub record WhiteAt (s : List ℕ) (p q : Position) : Type 0 where
  pub yields : Yields (Outside p) (chars_at s p.offset) [] [] false (Outside q) (chars_at s q.offset)
  pub stops : next is_white (chars_at s q.offset) ≡ false
  pub within : Within s q
  pub forth : p.offset ≤ q.offset

-- The segment at `p` is a comment that is skipped; it ends where `c` says, and is closed or not.
pub record PastComment (s : List ℕ) (p : Position) (c : Closing) : Type 0 where
  pub sort : (segment_at s p).sort ≡ comment
  pub tokens : (segment_at s p).pieces ≡ []
  pub errors : errors_at s p ≡ unclosed c.found UnterminatedBlockComment p c.at
  pub open_end : (segment_at s p).open_end ≡ not c.found
  pub reach : Reach s p (segment_at s p).chars c.at
  pub forth : p.offset < c.at.offset
  pub all : c.found ≡ false → chars_at s c.at.offset ≡ []

-- The comment at a position, or none.
abbrev pub CommentAt : List ℕ → Position → Option Closing → Type 0
CommentAt s p (Some c) = PastComment s p c
CommentAt s p None = (opens_line (chars_at s p.offset) ≡ false) × (opens_block (chars_at s p.offset) ≡ false)

-- White space and comments from `p` on, behind which there are no more: they yield only the errors that are written from `used` on,
-- and those are bounded by what was passed, so that places fit.
pub record SkippedAt (s : List ℕ) (p : Position) (old new : List ℕ) (used : ℕ) (r : Skipped) : Type 0 where
  pub recorded : List TokenizeError
  pub yields :
      Yields (Outside p) (chars_at s p.offset) [] recorded r.ran_out (Outside r.at) (chars_at s r.at.offset)
  pub written : Put old new used (error_bytes recorded) r.errors
  pub stops : is_skipped (chars_at s r.at.offset) ≡ false
  pub all : r.ran_out ≡ true → chars_at s r.at.offset ≡ []
  pub within : Within s r.at
  pub forth : p.offset ≤ r.at.offset
  pub few : r.errors ≤ used + LONGEST_ERROR * (r.at.offset - p.offset)
