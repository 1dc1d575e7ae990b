-- `docs::trim_text` meets its contract. Assumes nothing.
use Rattle.std.proofs.Common.{rules}
use mathlib.Core.Bool.{false}
use native.Mathlib.Omega.{arith}
use Rattle.characters.specs.Space.{is_white}
use Rattle.output.proofs.Buffers.{part_bound, put_slice}
use Rattle.doc_lines.proofs.Places.{ends_never, part_trim}
use Rattle.docs.proofs.Cleaning.{part_written}
use Rattle.docs.proofs.trim_text.Goals as goal

pub slice_bounds-put_bytes-start : goal.slice_bounds-put_bytes-start
slice_bounds-put_bytes-start c =
    let a = c.trimmed_line-l.ensures false (λ x b h. search (rules, ends_never)) in
    omega (arith, a.forth, a.inside)

pub slice_bounds-put_bytes-count : goal.slice_bounds-put_bytes-count
slice_bounds-put_bytes-count c = (c.trimmed_line-l.ensures false (λ x b h. search (rules, ends_never))).forth

pub slice_bounds-put_bytes-end : goal.slice_bounds-put_bytes-end
slice_bounds-put_bytes-end c = (c.trimmed_line-l.ensures false (λ x b h. search (rules, ends_never))).inside

pub put_bytes-requires : goal.put_bytes-requires
put_bytes-requires c = record { part_bound = part_bound c.args.part.now c.trimmed_line-l.result.from c.trimmed_line-l.result.to _ (omega arith); at_bound = omega arith }

pub returns : goal.returns
returns c =
    let a = c.trimmed_line-l.ensures false (λ x b h. search (rules, ends_never)) in
    part_written _ _ _ c.trimmed_line-l.result.from c.trimmed_line-l.result.to _ _ _ a.forth a.inside
    (part_trim _ _ c.trimmed_line-l.result (c.past_chars-start.ensures.passed is_white (λ x b h. search rules)) a) (put_slice c.args.part.now c.trimmed_line-l.result.from c.trimmed_line-l.result.to c.put_bytes.ensures)
