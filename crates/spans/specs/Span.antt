-- Spans, as in span.rs.
use Rattle.std.specs.Prelude.{ℕ, leb, if◌then◌else◌}
use Rattle.spans.specs.declared.Span.{Span}

-- `Span::single` (span.rs, lines 13 to 22).
unfoldable pub single : ℕ → ℕ → ℕ → Span
single offset line col =
    record { start = offset; end = offset; start_line = line; start_col = col; end_line = line; end_col = col }

-- The span that starts first (`a.start <= b.start`), and the span that ends last (`a.end >= b.end`).
unfoldable pub earlier : Span → Span → Span
earlier a b = if leb a.start b.start then a else b

unfoldable pub later : Span → Span → Span
later a b = if leb b.end a.end then a else b

-- `Span::merge` (span.rs, lines 35 to 44): the lesser start and the greater end, each with its line and column.
unfoldable pub merge : Span → Span → Span
merge a b =
    let first = earlier a b in
    let last = later a b in
    record {
      start = first.start;
      end = last.end;
      start_line = first.start_line;
      start_col = first.start_col;
      end_line = last.end_line;
      end_col = last.end_col;
    }
