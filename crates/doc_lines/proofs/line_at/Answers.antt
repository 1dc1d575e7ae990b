-- `doc_lines::line_at` meets its contract. Assumes nothing.
use Rattle.std.proofs.Common.{rules}
use mathlib.Core.Bool.{true}
use Rattle.doc_lines.specs.Lines.{is_star, is_blank}
use Rattle.doc_lines.proofs.Places.{line_clean}
use Rattle.doc_lines.proofs.line_at.Goals as goal

pub returns : goal.returns
unfolding is_star
returns c =
    line_clean _ _ _ _ _ _ (c.past_chars-a.ensures.passed (is_blank true) (λ x b h. search rules))
    (c.past_chars-b.ensures.passed is_star (λ x b h. search rules)) (c.past_chars-from.ensures.passed (is_blank true) (λ x b h. search rules))
    (c.trimmed_line.ensures true (λ x b h. search rules))
