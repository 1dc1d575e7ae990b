-- The lines of what stands in the three buffers, as a reader meets it. The contracts of the inner functions speak of these;
-- `listing` does not.
use Rattle.std.specs.Prelude.{ℕ, List, ◌++◌, take}
use Rattle.record_lists.specs.Lists.{word_of, tokens_from, errors_from}
use Rattle.record_texts.specs.Texts.{text_at}
use Rattle.records.specs.declared.answers.TokenRecord.{TokenRecord}
use Rattle.room.specs.declared.Used.{Used}
use Rattle.listing_lines.specs.Lines.{token_line, token_lines, error_lines, closed_line}
use Rattle.listing_lines.specs.Words.{token}

-- The line of the record `r` that stands at a place.
unfoldable pub record_line : List ℕ → List ℕ → List ℕ → ℕ → TokenRecord → List ℕ
record_line script texts tokens place r = token_line (token r.kind (word_of r.kind (text_at script texts tokens place)) r.span)

unfoldable pub tokens_read : List ℕ → List ℕ → List ℕ → ℕ → List ℕ
tokens_read script texts tokens count = token_lines (tokens_from count script texts tokens 0)

unfoldable pub errors_read : List ℕ → ℕ → List ℕ
errors_read errors count = error_lines (errors_from count errors 0)

-- All lines, by the answer of tokenising.
unfoldable pub lines_read : List ℕ → List ℕ → List ℕ → List ℕ → Used → List ℕ
lines_read script texts tokens errors u =
    tokens_read script texts tokens u.count ++ errors_read (take u.errors errors) u.errors ++ closed_line u.closed
